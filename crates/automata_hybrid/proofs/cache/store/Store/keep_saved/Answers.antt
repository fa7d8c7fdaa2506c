use Rattle.std.proofs.Common.{◌≡◌, ◌∙◌, ◌+◌, ◌≤◌, length, arith, rules, ap, subst, sym}
use Rattle.std.proofs.lemmas.Grind.{common_steps}
use Rattle.automata_hybrid.proofs.Words.{AllStarts, IsCache, keep_row, known_in, row_of, Rows, Stored, with_table}
use Rattle.automata_hybrid.specs.Private.Cache.Clears.{with_row_once}
use Rattle.automata_hybrid.proofs.Known.Made.{saved_known}
use Rattle.automata_hybrid.proofs.Known.Rows.{HasPlaces, places_sound}
use Rattle.automata_hybrid.proofs.Storage.Usage.{Fits-few, IsCache-few}
use Rattle.automata_hybrid.proofs.Storage.Clears.{AllStarts-put, IsPut-length, IsPut-of}
use Rattle.automata_hybrid.proofs.cache.store.Store.keep_saved.Goals as goal

kept_of : (c : goal.In_ok-kept) → c.keep_row.new.kept.of ≡ c.self.inside.table.of
kept_of c =
    IsPut-of c.args.old.now c.self.inside.table c.keep_row.new.kept c.args.id c.in_ok-kept.kept c.in_ok-kept.ensures.row

kept_few : (c : goal.In_ok-kept) → length c.keep_row.new.kept.rows ≤ length c.self.inside.starts.items + 1
kept_few c =
    let more =
    IsPut-length c.args.old.now c.self.inside.table c.keep_row.new.kept c.args.id c.in_ok-kept.kept
    c.in_ok-kept.ensures.row in
    grind (arith, common_steps, more, c.requires.few, c.self.view_is)

before : (c : goal.In_ok-kept) → Stored
before c =
    record {
      table = c.self.inside.table;
      starts = c.self.inside.starts.items;
      clears = c.self.inside.clears;
      searched = c.self.inside.searched;
    }

kept : (c : goal.In_ok-kept) → IsCache (with_table (before c) c.keep_row.new.kept) c.self.inside.settings
unfolding before
kept c =
    let n = c.in_ok-kept.ensures in
    let named : AllStarts c.keep_row.new.kept c.self.inside.starts.items =
    subst (λ (t : Rows). AllStarts t c.self.inside.starts.items) (sym n.row.put_there)
    (AllStarts-put c.self.inside.table n.row.row c.self.inside.starts.items c.self.invariant.named) in
    IsCache-few (before c) c.self.inside.settings c.keep_row.new.kept c.self.invariant named (kept_of c) (kept_few c)
    c.in_ok-kept.ensures.sound.costs

pub invariant_of-self-2 : goal.invariant_of-self-2
unfolding before
invariant_of-self-2 c = kept c

pub returns-clause-of : goal.returns-clause-of
returns-clause-of c = kept_of c ∙ ap (λ (v : Stored). v.table.of) c.self.view_is

pub returns-clause-saved : goal.returns-clause-saved
unfolding before
returns-clause-saved c =
    let put = c.in_ok-kept.ensures.row in
    let places : HasPlaces (with_row_once c.self.inside.table put.row) =
    subst HasPlaces put.put_there (places_sound c.keep_row.new.kept c.in_ok-kept.ensures.sound) in
    let known : known_in (with_table (before c) c.keep_row.new.kept)
    ≡ record (known_in (before c)) { rows = keep_row c.self.inside.table.rows (row_of c.args.old.now c.args.id) } =
    ap (λ (t : Rows). known_in (with_table (before c) t)) put.put_there
    ∙ saved_known (before c) 0 put.row c.self.invariant.named places
    ∙ ap (λ o. record (known_in (before c)) { rows = keep_row c.self.inside.table.rows o }) (sym put.at) in
    record {
      known =
          subst
          (λ (v : Stored). known_in (with_table (before c) c.keep_row.new.kept)
          ≡ record (known_in v) { rows = keep_row v.table.rows (row_of c.args.old.now c.args.id) })
          c.self.view_is known;
      named = search rules;
      room =
          Fits-few (with_table (before c) c.keep_row.new.kept) c.self.inside.settings (kept c) (kept_few c)
          c.in_ok-kept.ensures.sound.costs;
      absent = search rules;
    }
