use Rattle.std.proofs.Common.{◌/◌, ◌%◌, ◌^◌, bit_and, eqb, get_or, sym, ap, ◌∙◌}
use Rattle.std.proofs.lemmas.Nat.Bits.{shr_and_one}
use Rattle.automata_base.specs.ByteClasses.Classes.{is_quit}
use Rattle.automata_base.specs.ByteClasses.WordsBack.{truth_in}
use Rattle.automata_base.proofs.util.byte_set.ByteSet.contains.Goals as goal

pub returns : goal.returns
returns c =
    let words = c.self.inside.words in
    let byte = c.args.byte in
    ap (λ k. eqb (bit_and (get_or words k 0 / 2 ^ (byte % 64)) 1) 1) c.from.ensures
    ∙ (ap (λ z. eqb z 1) (shr_and_one (get_or words (byte / 64) 0) (byte % 64))
    ∙ (sym (truth_in words byte c.ranges.byte.fits) ∙ ap (λ t. is_quit t byte) c.self.view_is))
