-- The directions of a search: the unit at each place and its offset, and where the search begins.
use Rattle.automata_hybrid.proofs.Words.{Backward, byte_before, dead, Direction, Forward, given_up_offset, Input}
use Rattle.automata_hybrid.proofs.Words.{is_quit, IsBitSet, later, Leads, Machine, Names, next, offset_in, Powerset}
use Rattle.automata_hybrid.proofs.Words.{Rows, slice_get, start_state_of, state_in, tape_in, unit_offset}
use Rattle.std.proofs.Common.{ℕ, suc, ◌≡◌, ◌∙◌, ◌+◌, ◌-◌, ◌≤◌, ◌<◌, ◌^◌, false, List, length, take, drop, get_or}
use Rattle.std.proofs.Common.{Option, Some, refl, sym, ap, subst, arith}
use Rattle.std.proofs.lemmas.Simd.{get_or-chunk, length-chunk}
use Rattle.automata_base.proofs.Paths.Orders.{some_inj}
use Rattle.automata_hybrid.specs.Private.Fast.SelfLoops.{byte_in}
use Rattle.automata_hybrid.proofs.Searches.PassState.{state_first}
use Rattle.automata_hybrid.proofs.Steps.Ids.{dead_tagged}
use Rattle.automata_hybrid.proofs.Searches.Units.{backward_read, backward_unit, backward_units, forward_read}
use Rattle.automata_hybrid.proofs.Searches.Units.{forward_unit, forward_units, nth_read}

pub units_in :
    (way : Direction) (input : Input) → input.start ≤ input.end → input.end ≤ length input.haystack
    → input.end - input.start ≡ length (tape_in way input).bytes
units_in Forward input s l = forward_units input s l
units_in Backward input s l = backward_units input s l

-- forward, the unit at a place is the byte at its offset; backward, the byte before it
pub unit_forward :
    (w : Direction) (input : Input) (place at : ℕ)
    → w ≡ Forward → input.start ≤ input.end → place ≤ input.end - input.start → input.end ≤ length input.haystack
    → at ≡ offset_in w input place → next (tape_in w input) place ≡ slice_get input.haystack at
unit_forward w input place at e s p l o =
    subst (λ (v : Direction). at ≡ offset_in v input place → next (tape_in v input) place ≡ slice_get input.haystack at)
    (sym e) forward o
  where
    forward : at ≡ input.start + place → next (tape_in Forward input) place ≡ slice_get input.haystack at
    forward f =
        let k : place ≡ at - input.start = omega (arith, f) in
        ap (next (tape_in Forward input)) k ∙ forward_unit input at (omega (arith, f)) (omega (arith, f, p, s)) l

pub unit_backward :
    (w : Direction) (input : Input) (place at : ℕ)
    → w ≡ Backward → input.start ≤ input.end → place ≤ input.end - input.start → input.end ≤ length input.haystack
    → at ≡ offset_in w input place → next (tape_in w input) place ≡ byte_before input.haystack at
unit_backward w input place at e s p l o =
    subst (λ (v : Direction). at ≡ offset_in v input place
    → next (tape_in v input) place ≡ byte_before input.haystack at) (sym e) backward o
  where
    backward : at ≡ input.end - place → next (tape_in Backward input) place ≡ byte_before input.haystack at
    backward f =
        let k : place ≡ input.end - at = omega (arith, f, p, s) in
        ap (next (tape_in Backward input)) k
        ∙ backward_unit input at (omega (arith, f, p, s)) (omega (arith, f, p, s)) l

pub before_read :
    (xs : List ℕ) (at i x : ℕ) → suc i ≡ at → i < length xs → x ≡ get_or xs i 0 → byte_before xs at ≡ Some x
before_read xs at i x e l read = ap (byte_before xs) (sym e) ∙ nth_read xs i x 0 l read

pub backward_within :
    (w : Direction) (input : Input) (place at : ℕ) → w ≡ Backward → at ≡ offset_in w input place → at ≤ input.end
backward_within w input place at e o =
    subst (λ (v : Direction). at ≡ offset_in v input place → at ≤ input.end) (sym e) backward o
  where
    backward : at ≡ input.end - place → at ≤ input.end
    backward f = omega (arith, f)

-- the unit at a place of the span is the byte at that unit's offset
pub unit_read :
    (way : Direction) (input : Input) (xs : List ℕ) (place i : ℕ)
    → place < input.end - input.start → input.end ≤ length input.haystack → xs ≡ input.haystack
    → i ≡ unit_offset way input place → next (tape_in way input) place ≡ Some (get_or xs i 0)
unit_read Forward input xs place i p l same here =
    let at : ℕ = input.start + place in
    let k : place ≡ at - input.start = omega arith in
    ap (next (tape_in Forward input)) k
    ∙ forward_read input xs at i (omega arith) (omega (arith, p)) l (omega (arith, p, l)) same here
unit_read Backward input xs place i p l same here =
    let at : ℕ = input.end - place in
    let k : place ≡ input.end - at = omega (arith, p) in
    ap (next (tape_in Backward input)) k
    ∙ backward_read input xs at i (omega (arith, p)) (omega arith) l same (omega (arith, here, p))

-- so are the units from a place on
pub units_forward :
    (w : Direction) (input : Input) (hay : List ℕ) (place first end : ℕ)
    → w ≡ Forward → input.start ≤ input.end → place ≤ input.end - input.start → input.end ≤ length input.haystack
    → hay ≡ input.haystack → first ≡ input.start → end ≡ input.end → (k : ℕ)
    → k < length (take (end - (first + place)) (drop (first + place) hay))
    → next (tape_in w input) (place + k)
    ≡ Some (byte_in w (take (end - (first + place)) (drop (first + place) hay)) k)
units_forward w input hay place first end e s p l same here there =
    subst (λ (v : Direction). (k : ℕ) → k < length xs → next (tape_in v input) (place + k) ≡ Some (byte_in v xs k))
    (sym e) forward
  where
    xs : List ℕ
    xs = take (end - (first + place)) (drop (first + place) hay)

    long : length xs ≡ end - (first + place)
    long =
        length-chunk (first + place) (end - (first + place)) hay (omega (arith, s, p, l, here, there, ap length same))

    forward : (k : ℕ) → k < length xs → next (tape_in Forward input) (place + k) ≡ Some (get_or xs k 0)
    forward k low =
        unit_read Forward input hay (place + k) (first + place + k) (omega (arith, low, long, here, there)) l same
        (omega (arith, here))
        ∙ ap Some (sym (get_or-chunk (first + place) (end - (first + place)) hay k 0 (omega (arith, low, long))))

pub units_backward :
    (w : Direction) (input : Input) (hay : List ℕ) (place first end : ℕ)
    → w ≡ Backward → input.start ≤ input.end → place ≤ input.end - input.start → input.end ≤ length input.haystack
    → hay ≡ input.haystack → first ≡ input.start → end ≡ input.end → (k : ℕ)
    → k < length (take (end - place - first) (drop first hay))
    → next (tape_in w input) (place + k)
    ≡ Some (byte_in w (take (end - place - first) (drop first hay)) k)
units_backward w input hay place first end e s p l same here there =
    subst (λ (v : Direction). (k : ℕ) → k < length xs → next (tape_in v input) (place + k) ≡ Some (byte_in v xs k))
    (sym e) backward
  where
    xs : List ℕ
    xs = take (end - place - first) (drop first hay)

    long : length xs ≡ end - place - first
    long = length-chunk first (end - place - first) hay (omega (arith, s, p, l, here, there, ap length same))

    backward :
        (k : ℕ) → k < length xs → next (tape_in Backward input) (place + k) ≡ Some (get_or xs (length xs - 1 - k) 0)
    backward k low =
        let i : ℕ = length xs - 1 - k in
        unit_read Backward input hay (place + k) (first + i) (omega (arith, low, long, here, there)) l same
        (omega (arith, low, long, here, there))
        ∙ ap Some (sym (get_or-chunk first (end - place - first) hay i 0 (omega (arith, low, long))))

-- in the span, the offset of the "gave up" error on a byte is the byte's own offset
pub span_unit :
    (way : Direction) (input : Input) (k : ℕ) → k < input.end - input.start
    → given_up_offset way input k ≡ unit_offset way input k
span_unit Forward input k l = refl
span_unit Backward input k l = omega (arith, l)

-- the input of a search that begins later
pub later_none : (way : Direction) (input : Input) → input ≡ later way 0 input
later_none Forward input =
    let e : input.start ≡ input.start + 0 = omega arith in ap (λ (n : ℕ). record input { start = n }) e
later_none Backward input =
    let e : input.end ≡ input.end - 0 = omega arith in ap (λ (n : ℕ). record input { end = n }) e

pub later_on : (way : Direction) (k : ℕ) (input : Input) → later way 1 (later way k input) ≡ later way (suc k) input
later_on Forward k input =
    let e : input.start + k + 1 ≡ input.start + suc k = omega arith in ap (λ (n : ℕ). record input { start = n }) e
later_on Backward k input =
    let e : input.end - k - 1 ≡ input.end - suc k = omega arith in ap (λ (n : ℕ). record input { end = n }) e

pub later_anchored : (way : Direction) (k : ℕ) (input : Input) → (later way k input).anchored ≡ input.anchored
later_anchored Forward k input = refl
later_anchored Backward k input = refl

pub later_start :
    (way : Direction) (k : ℕ) (input now : Input) → now ≡ later way k input → way ≡ Forward
    → now.start ≡ input.start + k
later_start way k input now same forward =
    ap (λ (i : Input). i.start) same ∙ ap (λ (d : Direction). (later d k input).start) forward

-- the number of spans tried before, by how much shorter the current one is
abbrev pub skipped : Input → Input → ℕ
skipped input now = input.end + 1 - input.start - (now.end + 1 - now.start)

module _ (input now : Input) (few : now.end + 1 - now.start ≤ input.end + 1 - input.start)
    (ahead : now.start ≤ now.end) where
  pub skipped_within : input.start + skipped input now ≤ input.end
  skipped_within = omega (arith, few, ahead)

  pub skipped_last : now.end < now.start + 1 → input.end < input.start + suc (skipped input now)
  skipped_last over = omega (arith, few, ahead, over)

  pub skipped_more :
      (next : Input) → next.end + 2 - next.start ≡ now.end + 1 - now.start
      → suc (skipped input now) ≡ skipped input next
  skipped_more next shorter = omega (arith, few, ahead, shorter)

-- a byte that is read and is not a quit byte
pub quit_free :
    (m : Machine) (read : ℕ) → is_quit m.quits read ≡ false
    → (byte : ℕ) → ◌≡◌ {A = Option ℕ} (Some read) (Some byte) → is_quit m.quits byte ≡ false
quit_free m read clean byte e = subst (λ v. is_quit m.quits v ≡ false) (some_inj e) clean

-- a pass begins dead, or in the state that its start ID names
module _ (way : Direction) (m : Machine) (t : Rows) (input : Input) (id : ℕ)
    (named : Leads t id (start_state_of m.nfa input.anchored (tape_in way input).before))
    (low : (q : Powerset) → Names t id q → id < 2 ^ 29) (small : t.of.stride ≤ 512) where
  begins : Leads t id (state_in way m input 0)
  begins = subst (Leads t id) (state_first way m input) named

  pub begins_dead : IsBitSet id 30 → state_in way m input 0 ≡ dead
  begins_dead = (dead_tagged t id low small (state_in way m input 0) begins).0

  pub begins_alive : (IsBitSet id 30 → ⊥) → Names t id (state_in way m input 0)
  begins_alive = (dead_tagged t id low small (state_in way m input 0) begins).1
