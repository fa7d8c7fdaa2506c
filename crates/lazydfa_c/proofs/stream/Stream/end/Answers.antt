use Rattle.std.proofs.Common.{subst, sym}
use Rattle.automata_hybrid.specs.Machines.Machine.{Machine}
use Rattle.automata_hybrid.specs.Pieces.State.{IsPiecesOf}
use Rattle.patterns.specs.declared.pattern.Pattern.{Pattern}
use Rattle.lazydfa_c.proofs.stream.Stream.end.Goals as goal

pub end_pieces-requires-clause-pieces : goal.end_pieces-requires-clause-pieces
end_pieces-requires-clause-pieces c =
    let p = c.self.inside.pieces in
    subst (λ (m : Machine). IsPiecesOf p m) (sym c.forward.ensures)
    (subst (λ (v : Pattern). IsPiecesOf p v.regex.forward) (sym c.deref.ensures) c.self.invariant)
