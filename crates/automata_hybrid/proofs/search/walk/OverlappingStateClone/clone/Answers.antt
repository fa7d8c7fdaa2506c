use Rattle.std.proofs.Common.{sym, subst}
use Rattle.automata_hybrid.specs.Walks.State.{Walk}
use Rattle.automata_hybrid.specs.Private.Walks.State.{IsHeldItself}
use Rattle.automata_hybrid.proofs.Walks.Parts.{shared_itself}
use Rattle.automata_hybrid.proofs.search.walk.OverlappingStateClone.clone.Goals as goal

pub copy-requires : goal.copy-requires
copy-requires c =
    shared_itself c.self.inside.cursor.stage c.self.inside.held c.in_ok-held.held c.in_ok-held.ensures.keeping
    c.in_ok-held.ensures.none
    c.in_ok-held.ensures.itself c.self.invariant

pub invariant_of-result : goal.invariant_of-result
invariant_of-result c =
    subst (λ (w : Walk). IsHeldItself w.stage c.in_ok-held.held) (sym c.copy.ensures)
    (shared_itself c.self.inside.cursor.stage c.self.inside.held c.in_ok-held.held c.in_ok-held.ensures.keeping
    c.in_ok-held.ensures.none
    c.in_ok-held.ensures.itself c.self.invariant)
