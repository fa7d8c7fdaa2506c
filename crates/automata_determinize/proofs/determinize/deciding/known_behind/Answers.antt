use Rattle.std.proofs.Common.{false}
use Rattle.automata_determinize.specs.Retraced.Computed.{known_looks}
use Rattle.automata_base.specs.Nfas.Nodes.{nfa_of}
use Rattle.automata_determinize.proofs.Powersets.LookBits.{sofar_next}
use Rattle.automata_determinize.proofs.determinize.deciding.known_behind.Goals as goal

pub loop-index-preserved : goal.loop-index-preserved
loop-index-preserved c =
    sofar_next (λ look. false) (known_looks (nfa_of c.args.nfa.now) c.args.prev) c.loop-index.set c.insert_if-set.result
    c.loop-index.index c.from_index-look.result c.is_known-passes.result
    c.loop-index-test.true c.from_index-look.ensures c.insert_if-set.ensures c.is_known-passes.ensures
    c.loop-index.invariant
