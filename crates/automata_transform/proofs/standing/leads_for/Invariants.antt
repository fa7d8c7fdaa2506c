use Rattle.std.proofs.Common.{ℕ, ◌≡◌, ◌<◌, length}
use Rattle.std.specs.Prelude.{Some}
use Rattle.automata_transform.specs.Nfas.Merges.{target_for}
use Rattle.automata_base.specs.Nfas.Nfa.{takes_at}
use Rattle.automata_base.specs.Nfas.Nodes.{node_of, nfa_of}
use Rattle.automata_base.specs.Powersets.Cuts.{targets}
use Rattle.automata_base.specs.Retraced.ReversedEdges.{lists_of}
use Rattle.automata_transform.proofs.standing.leads_for.Given as goal

abbrev pub invariant-loop-u : goal.invariant-loop-u
invariant-loop-u l =
    (v : ℕ) → v < l.u
    → target_for (length l.nfa.states) (lists_of l.lists) (takes_at (node_of l.state) v)
    ≡ targets (nfa_of l.nfa) (Some v) l.list
