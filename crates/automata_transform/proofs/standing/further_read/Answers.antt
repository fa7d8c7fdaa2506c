use Rattle.std.proofs.Common.{List, ◌≡◌, ◌≤◌}
use Rattle.automata_base.specs.Nfas.Nfa.{Range, Read, node}
use Rattle.automata_base.specs.Nfas.Nodes.{nfa_of}
use Rattle.automata_base.proofs.Powersets.KeptClosures.{tested_next, tested_all}
use Rattle.automata_transform.proofs.standing.further_read.Goals as goal

pub loop-i-preserved : goal.loop-i-preserved
loop-i-preserved c =
    tested_next (λ q. c.args.count ≤ q → (ranges : List Range) × (node (nfa_of c.args.merged.now) q ≡ Read ranges))
    c.args.ids.now c.loop-i.i c.index-ids-i.result c.loop-i-test.true c.index-ids-i.is
    (c.is_old_or_reads.ensures c.if-not-is_old_or_reads.false) c.loop-i.invariant

pub returns : goal.returns
returns c = λ _.
    tested_all (λ q. c.args.count ≤ q → (ranges : List Range) × (node (nfa_of c.args.merged.now) q ≡ Read ranges))
    c.args.ids.now c.loop-i.i c.loop-i-test.false c.loop-i.invariant
