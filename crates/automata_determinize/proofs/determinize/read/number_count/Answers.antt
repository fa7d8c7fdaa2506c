use Rattle.std.proofs.Common.{arith}
use Rattle.automata_determinize.proofs.Powersets.Code.Groups.{counted-next, counted-all}
use Rattle.automata_determinize.proofs.determinize.read.number_count.Goals as goal

pub loop-byte-preserved : goal.loop-byte-preserved
loop-byte-preserved c = record {
  counted =
      counted-next c.args.bytes.now c.loop-byte.byte-index c.loop-byte.count c.last_count-count.result _
      c.loop-byte-test.true c.last_count-count.ensures.value c.loop-byte.invariant.counted;
  few = omega (arith, c.last_count-count.ensures.few, c.loop-byte.invariant.few);
}

pub returns : goal.returns
returns c =
    counted-all c.args.bytes.now c.loop-byte.byte-index c.loop-byte.count _ c.loop-byte-test.false
    c.loop-byte.invariant.counted
