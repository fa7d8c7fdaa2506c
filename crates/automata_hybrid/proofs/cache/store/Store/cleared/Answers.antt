use Rattle.std.proofs.Common.{◌≡◌, ◌+◌, ◌≤◌, ◌∙◌, ap, sym, subst, length, List, ℕ, rules, arith}
use Rattle.automata_hybrid.specs.Private.Cache.Clears.{KeepsAllStarts}
use Rattle.automata_hybrid.proofs.Words.{known_in, saturated, Stored}
use Rattle.automata_hybrid.specs.Cache.Progress.{progress_cleared}
use Rattle.automata_hybrid.proofs.Known.Made.{emptied_known}
use Rattle.automata_hybrid.proofs.Known.Rows.{places_sound}
use Rattle.automata_hybrid.proofs.Storage.Usage.{Fits-few, IsCache-cleared}
use Rattle.automata_hybrid.proofs.cache.store.Store.cleared.Goals as goal

pub invariant_of-result : goal.invariant_of-result
invariant_of-result c =
    let e = c.in_ok-table.ensures.kept in
    let n : length c.in_ok-table.starts.items ≡ length c.self.inside.starts.items =
    e.slots ∙ ap (λ (xs : List ℕ). length xs) c.as_slice.ensures.value in
    IsCache-cleared
    (record {
      table = c.self.inside.table;
      starts = c.self.inside.starts.items;
      clears = c.self.inside.clears;
      searched =
          c.self.inside.searched;
    }) c.self.inside.settings c.in_ok-table.table c.in_ok-table.starts.items
    c.saturating_add.result c.cleared.result c.self.invariant e.named e.of n
    (subst (λ k. length c.in_ok-table.table.rows ≤ k) (sym e.slots) e.few) c.in_ok-table.ensures.sound.costs
    (omega arith)

pub returns-clause-cleared : goal.returns-clause-cleared
returns-clause-cleared c =
    let now : Stored = c.args.self.now in
    let kept : KeepsAllStarts now.table now.starts
    (record { table = c.in_ok-table.table; starts = c.in_ok-table.starts.items }) =
    subst (λ (v : Stored). KeepsAllStarts v.table v.starts
    (record { table = c.in_ok-table.table; starts = c.in_ok-table.starts.items })) c.self.view_is
    (subst (λ (xs : List ℕ). KeepsAllStarts c.self.inside.table xs
    (record { table = c.in_ok-table.table; starts = c.in_ok-table.starts.items })) c.as_slice.ensures.value
    c.in_ok-table.ensures.kept) in
    let clears : c.saturating_add.result ≡ saturated (now.clears + 1) = search rules in
    let searched : c.cleared.result ≡ progress_cleared now.searched = search rules in
    record {
      allowed = search rules;
      known =
          (λ i. known_in (record {
            table = c.in_ok-table.table;
            starts = c.in_ok-table.starts.items;
            clears = clears i;
            searched = searched i;
          }))
          ∙ emptied_known now c.in_ok-table.table c.in_ok-table.starts.items 0 kept
          (places_sound c.in_ok-table.table c.in_ok-table.ensures.sound);
      kept = kept;
    }

pub returns-clause-room : goal.returns-clause-room
returns-clause-room c =
    let e = c.in_ok-table.ensures.kept in
    Fits-few
    (record {
      table = c.in_ok-table.table;
      starts = c.in_ok-table.starts.items;
      clears = c.saturating_add.result;
      searched =
          c.cleared.result;
    }) c.self.inside.settings (invariant_of-result c)
    (subst (λ k. length c.in_ok-table.table.rows ≤ k + 1) (sym e.slots) (omega (arith, e.few)))
    c.in_ok-table.ensures.sound.costs
