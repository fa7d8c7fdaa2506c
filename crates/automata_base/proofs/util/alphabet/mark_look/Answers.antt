use Rattle.std.proofs.Common.{◌≡◌, ◌⊎◌, ◌||◌, refl, inl, inr}
use Rattle.automata_base.specs.ByteClasses.Classes.{bounds, look_bounds}
use Rattle.automata_base.specs.Haystacks.Looks.{Start, End, StartLF, EndLF, StartCRLF, EndCRLF}
use Rattle.automata_base.specs.Retraced.Boundaries.{Adds}
use Rattle.automata_base.proofs.ByteClasses.Marking.{adds_none, adds_both, word_bounds}
use Rattle.automata_base.proofs.util.alphabet.mark_look.Goals as goal

pub returns-in-Start : goal.returns-in-Start
unfolding look_bounds
returns-in-Start c = go c.in-Start.is
  where
    go :
        (c.args.look ≡ Start) ⊎ (c.args.look ≡ End)
        → Adds c.args.marks.now c.args.marks.now (look_bounds c.args.terminator c.args.look)
    go (inl e) = rw e (adds_none c.args.marks.now _ (λ b. refl))
    go (inr e) = rw e (adds_none c.args.marks.now _ (λ b. refl))

pub returns-in-StartLF : goal.returns-in-StartLF
unfolding look_bounds
returns-in-StartLF c = go c.in-StartLF.is
  where
    go :
        (c.args.look ≡ StartLF) ⊎ (c.args.look ≡ EndLF)
        → Adds c.args.marks.now c.mark_range.new.marks (look_bounds c.args.terminator c.args.look)
    go (inl e) = rw e c.mark_range.ensures
    go (inr e) = rw e c.mark_range.ensures

pub returns-in-StartCRLF : goal.returns-in-StartCRLF
unfolding look_bounds
returns-in-StartCRLF c = go c.in-StartCRLF.is
  where
    both : Adds c.args.marks.now c.mark_range-in-StartCRLF-2.new.marks (λ b. bounds 13 13 b || bounds 10 10 b)
    both =
        adds_both c.args.marks.now c.mark_range-in-StartCRLF.new.marks c.mark_range-in-StartCRLF-2.new.marks
        (bounds 13 13) (bounds 10 10) _
        (λ b. refl) c.mark_range-in-StartCRLF.ensures c.mark_range-in-StartCRLF-2.ensures

    go : (c.args.look ≡ StartCRLF) ⊎ (c.args.look ≡ EndCRLF)
        → Adds c.args.marks.now c.mark_range-in-StartCRLF-2.new.marks (look_bounds c.args.terminator c.args.look)
    go (inl e) = rw e both
    go (inr e) = rw e both

pub returns-in_default : goal.returns-in_default
returns-in_default c =
    let d = c.in_default in
    let digits = c.mark_range-in_default in
    let upper = c.mark_range-in_default-2 in
    let under = c.mark_range-in_default-3 in
    let lower = c.mark_range-in_default-4 in
    let first : Adds c.args.marks.now upper.new.marks (λ b. bounds 48 57 b || bounds 65 90 b) =
    adds_both c.args.marks.now digits.new.marks upper.new.marks (bounds 48 57) (bounds 65 90) _ (λ b. refl)
    digits.ensures upper.ensures
    in
    let second : Adds upper.new.marks lower.new.marks (λ b. bounds 95 95 b || bounds 97 122 b) =
    adds_both upper.new.marks under.new.marks lower.new.marks (bounds 95 95) (bounds 97 122) _ (λ b. refl) under.ensures
    lower.ensures
    in
    adds_both c.args.marks.now upper.new.marks lower.new.marks
    (λ b. bounds 48 57 b || bounds 65 90 b) (λ b. bounds 95 95 b || bounds 97 122 b)
    (look_bounds c.args.terminator c.args.look)
    (word_bounds c.args.terminator c.args.look d.not-Start d.not-End d.not-StartLF d.not-EndLF d.not-StartCRLF
    d.not-EndCRLF) first second
