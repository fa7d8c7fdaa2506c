use Rattle.std.proofs.Common.{◌≡◌, ◌∙◌, Some, ap, subst, sym}
use Rattle.automata_hybrid.proofs.Words.{IsRowState, Machine, Powerset}
use Rattle.automata_base.proofs.Paths.Orders.{none_some, some_inj}
use Rattle.automata_hybrid.proofs.search.pieces.walk.hold_row.Goals as goal

pub returns-clause-stands : goal.returns-clause-stands
returns-clause-stands c =
    let q : Powerset = c.requires.valid.0 in
    let handle = c.in_ok-handle.ensures q c.requires.valid.1 in
    let held : c.stand.new.self.state ≡ Some q = c.stand.ensures.state ∙ ap Some handle.0 in
    let row : IsRowState c.args.dfa.now q =
    subst (λ (m : Machine). IsRowState m q) c.requires.sound.of
    (subst (IsRowState c.args.cache.now.store.table.of) (c.snapshot-state.ensures.state q c.requires.valid.1)
    c.snapshot-state.ensures.row) in (
      λ p stood. subst (IsRowState c.args.dfa.now) (some_inj (sym held ∙ stood)) row,
      record {
        state = λ p named. c.stand.ensures.state ∙ ap Some (c.in_ok-handle.ensures p named).0;
        some = λ none. none_some (sym none ∙ held);
        read = c.stand.ensures.read;
        found = c.stand.ensures.found;
        early = c.stand.ensures.earliest;
      },
    )
