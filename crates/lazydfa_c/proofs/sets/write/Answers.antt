use Rattle.std.proofs.Common.{ap, ◌∙◌}
use Rattle.std.proofs.Math.ListN.{set}
use Rattle.lazydfa_c.specs.Requests.{found_half}
use Rattle.lazydfa_c.specs.declared.input.FoundHalf.{FoundHalf}
use Rattle.lazydfa_c.proofs.Written.{puts, skips}
use Rattle.lazydfa_c.proofs.sets.write.Goals as goal
use Rattle.lazydfa_c.proofs.sets.write.Goals.{then-index-out, else-index-out}

pub returns-clause-written : goal.returns-clause-written
returns-clause-written c halves was counted written =
    let old = c.args.out.now in let new = c.if-index-out.out in let at = c.args.count.now in
    let half = found_half c.args.half in
    elim c.if-index-out.branch [
      | then-index-out w ↦
          puts halves was old new at half counted written w.if-index-out.true
          (w.out-is ∙ ap (λ (h : FoundHalf). set old at h) c.of-found.ensures)
      | else-index-out w ↦ skips halves was old new at half counted written w.if-index-out.false w.out-is
    ]
