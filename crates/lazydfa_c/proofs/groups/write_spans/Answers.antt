use Rattle.std.proofs.Common.{ap, ◌∙◌}
use Rattle.std.proofs.Math.ListN.{set}
use Rattle.lazydfa_c.specs.Groups.{span_as_read}
use Rattle.lazydfa_c.specs.declared.groups.GroupSpan.{GroupSpan}
use Rattle.lazydfa_c.proofs.Grouping.{passes_next, writes_next}
use Rattle.lazydfa_c.proofs.groups.write_spans.Goals as goal
use Rattle.lazydfa_c.proofs.groups.write_spans.Goals.{then-group-out, else-group-out}

pub loop-group-preserved : goal.loop-group-preserved
loop-group-preserved c =
    let l = c.loop-group in let was = c.args.out.now in let j = c.if-group-out in
    let captures = c.args.captures.now in
    let is = c.of-span.ensures ∙ ap span_as_read c.get.ensures in
    elim j.branch [
      | then-group-out w ↦
          writes_next captures l.group was l.out j.out l.invariant w.if-group-out.true
          (w.out-is ∙ ap (λ (s : GroupSpan). set l.out l.group s) is)
      | else-group-out w ↦
          passes_next captures l.group was l.out j.out l.invariant w.if-group-out.false w.out-is
    ]
