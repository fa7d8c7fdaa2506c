use Rattle.automata_base.specs.Lists.{In}
use Rattle.automata_base.proofs.Powersets.KeptClosures.{Tested}
use Rattle.automata_base.proofs.nfa.thompson.closure.is_apart.Given as goal

abbrev pub invariant-loop-i : goal.invariant-loop-i
invariant-loop-i l = Tested (λ q. In q l.closure.items → ⊥) l.visited l.i
