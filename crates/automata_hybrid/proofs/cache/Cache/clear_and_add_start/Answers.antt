use Rattle.std.proofs.Common.{◌∙◌, Some, ap, length, subst, sym}
use Rattle.automata_hybrid.proofs.Words.{CacheView, cleared, IsNewState, known_in, Row, Rows}
use Rattle.automata_hybrid.specs.Private.Cache.Usage.{IsCleared}
use Rattle.automata_hybrid.proofs.Known.Made.{added_clears}
use Rattle.automata_hybrid.proofs.Known.Rooms.{known_with}
use Rattle.automata_hybrid.proofs.Storage.Additions.{new_there}
use Rattle.automata_hybrid.proofs.cache.Cache.clear_and_add_start.Goals as goal

pub replace-requires-clause-new : goal.replace-requires-clause-new
replace-requires-clause-new c =
    let new : IsNewState c.self.inside.store.table c.args.state =
    subst (λ (v : CacheView). IsNewState v.store.table c.args.state) (sym c.self.view_is) c.requires.new in
    new_there c.self.inside.store.table c.in_ok-fresh.fresh.table c.args.state c.in_ok-fresh.ensures.cleared.kept.of
    (c.in_ok-fresh.ensures.cleared.kept.absent c.args.state new.lacks.0) new

pub returns-clause-added : goal.returns-clause-added
returns-clause-added c =
    let now : CacheView = c.args.self.now in
    let r : Row = record { state = c.args.state; started = c.args.started } in
    let clear : IsCleared now.store c.in_ok-fresh.fresh =
    subst (λ (v : CacheView). IsCleared v.store c.in_ok-fresh.fresh) c.self.view_is c.in_ok-fresh.ensures.cleared in
    let grown = c.in_ok-id.ensures.grown in
    let counted = ap (λ (v : CacheView). v.count) c.self.view_is in
    record {
      effect =
          added_clears now.store.table.of now.store c.in_ok-fresh.fresh c.replace.new.self now.count
          (cleared (known_in now.store)) r c.requires.full clear.allowed clear.known grown.known
          ∙ ap (λ k. Some (known_with c.replace.new.self k)) (sym counted);
      named = grown.row.named;
      slots = ap length grown.starts ∙ clear.kept.slots;
      of = ap (λ (t : Rows). t.of) grown.row.more ∙ clear.kept.of;
      counted = counted;
    }
