use Rattle.std.proofs.Common.{◌≡◌, drop}
use Rattle.automata_base.specs.Nfas.Nfa.{takes_in}
use Rattle.automata_base.specs.Nfas.Nodes.{ranges_of}
use Rattle.automata_base.proofs.nfa.thompson.reading.sparse_target.Given as goal

abbrev pub invariant-loop-t : goal.invariant-loop-t
invariant-loop-t l = takes_in (ranges_of l.transitions) l.u ≡ takes_in (ranges_of (drop l.t-index l.transitions)) l.u
