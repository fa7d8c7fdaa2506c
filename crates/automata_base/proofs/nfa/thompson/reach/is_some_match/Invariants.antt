use Rattle.std.proofs.Common.{ℕ, take}
use Rattle.automata_base.specs.Lists.{In}
use Rattle.automata_base.specs.Retraced.Reach.{node_in, IsMatchAt}
use Rattle.automata_base.proofs.nfa.thompson.reach.is_some_match.Given as goal

abbrev pub invariant-loop-id : goal.invariant-loop-id
invariant-loop-id l = (q : ℕ) → In q (take l.id-index l.ids) → IsMatchAt (node_in l.states q) → ⊥
