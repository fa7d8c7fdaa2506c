use Rattle.lazydfa_c.proofs.Copying.{puts_next, skips_next}
use Rattle.lazydfa_c.proofs.output.write_over.Goals as goal
use Rattle.lazydfa_c.proofs.output.write_over.Goals.{then-at-out, else-at-out}

pub loop-item-preserved : goal.loop-item-preserved
loop-item-preserved g c =
    let l = c.loop-item in let items = c.args.items.now in let was = c.args.out.now in let j = c.if-at-out in
    let x = c.item-item.result in
    elim j.branch [
      | then-at-out w ↦
          puts_next items was l.out j.out l.at j.at l.item-index x c.loop-item-test.true c.item-item.is l.invariant
          w.if-at-out.true w.at-is w.out-is
      | else-at-out w ↦
          skips_next items was l.out j.out l.at j.at l.item-index x c.loop-item-test.true c.item-item.is l.invariant
          w.if-at-out.false w.at-is w.out-is
    ]
