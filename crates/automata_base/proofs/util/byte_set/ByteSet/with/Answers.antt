use Rattle.std.proofs.Common.{ap, ◌∙◌, get_or}
use Rattle.std.specs.Prelude.{slice_set}
use Rattle.std.specs.Int.{bit_at}
use Rattle.automata_base.specs.ByteClasses.ByteSets.{truths_of}
use Rattle.automata_base.proofs.ByteClasses.ByteSets.{with_byte}
use Rattle.automata_base.proofs.util.byte_set.ByteSet.with.Goals as goal

pub returns : goal.returns
returns c =
    let words = c.self.inside.words in
    let byte = c.args.byte in
    ap (λ k. truths_of (slice_set words k c.with_bit.result)) c.from-index.ensures
    ∙ (with_byte words byte c.args.yes c.with_bit.result c.self.invariant.whole c.ranges.byte.fits
    c.with_bit.ensures.same
    (λ i l apart. c.with_bit.ensures.others i l apart ∙ ap (λ k. bit_at (get_or words k 0) i) c.from-index.ensures)
    ∙ ap (λ t. slice_set t byte c.args.yes) c.self.view_is)
