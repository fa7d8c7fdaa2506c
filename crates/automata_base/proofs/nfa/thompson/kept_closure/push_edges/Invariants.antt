use Rattle.std.proofs.Common.{◌≡◌, length}
use Rattle.automata_base.specs.Nfas.Nodes.{node_of}
use Rattle.automata_base.proofs.Powersets.KeptClosures.{Added}
use Rattle.automata_base.proofs.nfa.thompson.kept_closure.push_edges.Given as goal

abbrev pub invariant-loop-u : goal.invariant-loop-u
invariant-loop-u l = record {
  edges : Added (node_of l.state) l.fn.rows.items l.rows.items l.u;
  few : length l.rows.items ≡ 256;
}
