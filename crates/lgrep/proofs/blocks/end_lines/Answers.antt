use Rattle.std.proofs.Common.{◌≡◌, ◌∙◌, add-one, ap, arith, get_or, length, sym, slice_set}
use Rattle.lgrep.specs.Blocks.{line_ends}
use Rattle.lgrep.proofs.Ends.{none, so_far, turn, whole}
use Rattle.lgrep.proofs.blocks.end_lines.Goals as goal

pub loop-byte-init : goal.loop-byte-init
loop-byte-init c = sym (none c.args.bytes.now)

pub loop-byte-preserved : goal.loop-byte-preserved
loop-byte-preserved c =
    let l = c.loop-byte in
    ap (λ v. slice_set l.bytes l.byte-index v) c.line_end.ensures
    ∙ ap (λ bytes. slice_set bytes l.byte-index (line_ends (get_or bytes l.byte-index 0))) l.invariant
    ∙ turn c.args.bytes.now l.byte-index 0 c.loop-byte-test.true
    ∙ ap (λ n. so_far n c.args.bytes.now) (sym (add-one l.byte-index))

pub returns : goal.returns
returns c =
    let l = c.loop-byte in
    let all : l.byte-index ≡ length c.args.bytes.now = omega (arith, c.loop-byte-test.false, l.auto.byte-index-end) in
    l.invariant ∙ ap (λ n. so_far n c.args.bytes.now) all ∙ whole c.args.bytes.now
