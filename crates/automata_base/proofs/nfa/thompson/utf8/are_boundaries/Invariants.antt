use Rattle.std.proofs.Common.{ℕ, take}
use Rattle.automata_base.specs.Retraced.Decoders.{IsBoundary}
use Rattle.automata_base.specs.Lists.{In}
use Rattle.automata_base.proofs.nfa.thompson.utf8.are_boundaries.Given as goal

abbrev pub invariant-loop-id : goal.invariant-loop-id
invariant-loop-id l = (x : ℕ) → In x (take l.id-index l.ids) → IsBoundary l.states x
