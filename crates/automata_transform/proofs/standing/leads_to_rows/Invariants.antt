use Rattle.std.proofs.Common.{ℕ, ◌≡◌, ◌<◌}
use Rattle.automata_transform.specs.Nfas.Merges.{target_for}
use Rattle.automata_base.specs.Nfas.Nfa.{takes_at}
use Rattle.automata_base.specs.Nfas.Nodes.{node_of}
use Rattle.automata_base.specs.Retraced.ReversedEdges.{lists_of, list_at}
use Rattle.automata_transform.proofs.standing.leads_to_rows.Given as goal

abbrev pub invariant-loop-u : goal.invariant-loop-u
invariant-loop-u l =
    (v : ℕ) → v < l.u
    → target_for l.count (lists_of l.lists) (takes_at (node_of l.state) v) ≡ list_at (lists_of l.rows) v
