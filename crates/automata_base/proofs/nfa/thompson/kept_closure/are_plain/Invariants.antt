use Rattle.std.proofs.Common.{◌≡◌, drop}
use Rattle.automata_base.specs.Nfas.Nodes.{nfa_of}
use Rattle.automata_base.specs.Powersets.Cuts.{has_match}
use Rattle.automata_base.proofs.nfa.thompson.kept_closure.are_plain.Given as goal

abbrev pub invariant-loop-i : goal.invariant-loop-i
invariant-loop-i l = has_match (nfa_of l.nfa) l.kept ≡ has_match (nfa_of l.nfa) (drop l.i l.kept)
