use Rattle.std.proofs.Common.{ℕ, ◌≡◌, false, take}
use Rattle.automata_base.specs.Lists.{In}
use Rattle.automata_base.specs.Nfas.Nfa.{ends_at}
use Rattle.automata_base.specs.Retraced.Reach.{node_in}
use Rattle.automata_transform.proofs.anchoring.have_no_end.Given as goal

abbrev pub invariant-loop-id : goal.invariant-loop-id
invariant-loop-id l = (q : ℕ) → In q (take l.id-index l.ids) → ends_at (node_in l.states q) ≡ false
