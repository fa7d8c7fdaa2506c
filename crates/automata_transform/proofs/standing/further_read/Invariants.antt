use Rattle.std.proofs.Common.{List, ◌≡◌, ◌≤◌}
use Rattle.automata_base.specs.Nfas.Nfa.{Range, Read, node}
use Rattle.automata_base.specs.Nfas.Nodes.{nfa_of}
use Rattle.automata_base.proofs.Powersets.KeptClosures.{Tested}
use Rattle.automata_transform.proofs.standing.further_read.Given as goal

abbrev pub invariant-loop-i : goal.invariant-loop-i
invariant-loop-i l =
    Tested (λ q. l.count ≤ q → (ranges : List Range) × (node (nfa_of l.merged) q ≡ Read ranges)) l.ids l.i
