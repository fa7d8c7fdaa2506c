use Rattle.std.proofs.Common.{subst, sym}
use Rattle.automata_hybrid.specs.Machines.Machine.{Machine}
use Rattle.automata_hybrid.specs.Pieces.State.{IsPiecesOf}
use Rattle.patterns.specs.declared.pattern.Pattern.{Pattern}
use Rattle.lazydfa_c.proofs.stream.Stream.read.Goals as goal

pub read_piece-requires-clause-pieces : goal.read_piece-requires-clause-pieces
read_piece-requires-clause-pieces c =
    let p = c.self.inside.pieces in
    subst (λ (m : Machine). IsPiecesOf p m) (sym c.forward.ensures)
    (subst (λ (v : Pattern). IsPiecesOf p v.regex.forward) (sym c.deref.ensures) c.self.invariant)

pub invariant_of-self : goal.invariant_of-self
invariant_of-self c =
    let p = c.read_piece.new.pieces in
    subst (λ (v : Pattern). IsPiecesOf p v.regex.forward) c.deref.ensures
    (subst (λ (m : Machine). IsPiecesOf p m) c.forward.ensures c.read_piece.ensures.pieces)
