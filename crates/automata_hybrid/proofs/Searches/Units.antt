-- The units that a pass reads are bytes of the haystack.
use Rattle.std.proofs.Common.{ℕ, suc, ◌≡◌, ◌<◌, ◌≤◌, ◌+◌, ◌-◌, List, length, Some, refl, sym, ap}
use Rattle.std.proofs.Common.{ap₂, ◌∙◌, arith, get_or}
use Rattle.std.proofs.lemmas.Option.{slice_get-get_or}
use Rattle.automata_hybrid.proofs.Words.{Backward, byte_before, Direction, Forward, Input, IsInput, IsUnit, next}
use Rattle.automata_hybrid.proofs.Words.{slice_get, tape_in}
use Rattle.automata_determinize.proofs.Answers.Total.{tape_units}
use Rattle.automata_base.proofs.Answers.Bytes.{forward_next, forward_length, reverse_next, tape_length}

-- forward, the unit at an offset is the byte there
pub forward_unit :
    (input : Input) (at : ℕ) → input.start ≤ at → at ≤ input.end → input.end ≤ length input.haystack
    → next (tape_in Forward input) (at - input.start) ≡ slice_get input.haystack at
forward_unit input at s e l =
    let n : input.start + (at - input.start) ≡ at = omega (arith, s) in
    forward_next input.haystack input.start input.end (at - input.start) (omega (arith, n, e)) l
    ∙ ap (slice_get input.haystack) n

pub forward_units :
    (input : Input) → input.start ≤ input.end → input.end ≤ length input.haystack
    → input.end - input.start ≡ length (tape_in Forward input).bytes
forward_units input s l = sym (forward_length input.haystack input.start input.end s l)

-- backward, the unit at an offset is the byte before it
pub backward_unit :
    (input : Input) (at : ℕ) → input.start ≤ at → at ≤ input.end → input.end ≤ length input.haystack
    → next (tape_in Backward input) (input.end - at) ≡ byte_before input.haystack at
backward_unit input at s e l =
    reverse_next input.haystack input.start input.end (input.end - at) at (omega (arith, e)) s l

pub backward_units :
    (input : Input) → input.start ≤ input.end → input.end ≤ length input.haystack
    → input.end - input.start ≡ length (tape_in Backward input).bytes
backward_units input s l = sym (tape_length input.haystack input.start input.end s l)

pub nth_read : (xs : List ℕ) (k x d : ℕ) → k < length xs → x ≡ get_or xs k d → slice_get xs k ≡ Some x
nth_read xs k x d l e = slice_get-get_or xs k d l ∙ ap Some (sym e)

-- forward, the byte read from the haystack at an offset is the unit there
pub forward_read :
    (input : Input) (xs : List ℕ) (at i : ℕ)
    → input.start ≤ at → at ≤ input.end → input.end ≤ length input.haystack → at < length input.haystack
    → xs ≡ input.haystack → i ≡ at
    → next (tape_in Forward input) (at - input.start) ≡ Some (get_or xs i 0)
forward_read input xs at i s e l inside same here =
    forward_unit input at s e l
    ∙ (nth_read input.haystack at (get_or input.haystack at 0) 0 inside refl
    ∙ ap₂ (λ (h : List ℕ) (n : ℕ). Some (get_or h n 0)) (sym same) (sym here))

-- backward, the byte read from the haystack is the unit at the offset after it
pub backward_read :
    (input : Input) (xs : List ℕ) (at i : ℕ)
    → input.start ≤ at → at ≤ input.end → input.end ≤ length input.haystack → xs ≡ input.haystack → suc i ≡ at
    → next (tape_in Backward input) (input.end - at) ≡ Some (get_or xs i 0)
backward_read input xs at i s e l same here =
    backward_unit input at s e l
    ∙ (ap (byte_before input.haystack) (sym here)
    ∙ (nth_read input.haystack i (get_or input.haystack i 0) 0 (omega (arith, e, l, here)) refl
    ∙ ap (λ (h : List ℕ). Some (get_or h i 0)) (sym same)))

-- the units of a span that is not done
pub units_in :
    (way : Direction) (input : Input) → IsInput input → input.start ≤ input.end → (j : ℕ)
    → IsUnit (next (tape_in way input) j)
units_in way input given ahead = tape_units way input.haystack input.start input.end given.0 ahead given.1
