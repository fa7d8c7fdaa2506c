-- Where no pair fits, no needle occurs.
use Rattle.std.proofs.Common.{ℕ, zero, suc, ◌≡◌, ◌+◌, ◌-◌, ◌<◌, ◌≤◌, List, length, get_or, ◌∙◌, sym, ap, subst, arith}
use Rattle.std.proofs.Common.{⊎_elim, [], map, false, true≢false, below_more}
use Rattle.std.proofs.Common.{◌==◌, ◌^◌}
use Rattle.std.specs.Prelude.{Vec}
use Rattle.std.specs.declared.alloc.Global.{Global}
use Rattle.std.specs.Int.{bit_at}
use Rattle.std.specs.Prelude.{bit_and, bit_or, slice_index}
use Rattle.std.specs.List.{Contains}
use Rattle.std.proofs.lemmas.Bool.{cases_lt}
use Rattle.std.proofs.lemmas.Nat.Bits.{bit_at-zero, bit_at_and, bit_at_or}
use Rattle.std.proofs.lemmas.List.{get_or-map, get_or_default, length-map}
use lib.Count.{count_trailing_zeros}
use Rattle.regex_literal.specs.Find.{AnyOccursAt, OccursAt, needle_at}
use Rattle.prefilters.specs.Needles.{NoneOccurs}
use Rattle.prefilters.specs.Pairs.{AllBeginWithByte, AnyFitsAt, CoversNeedle, CoversNeedles, FitsAt, FitsNeedle}
use Rattle.prefilters.specs.Pairs.{HasAllOf, HasFoldOf}
use Rattle.prefilters.specs.Pairs.{HasFolds, IsFoldedNeedle, NoFoldOccurs, OccursFolded}
use Rattle.prefilters.specs.declared.pairs.BytePair.{BytePair}
use Rattle.prefilters.proofs.Lanes.{trailing_clear, trailing_few}

-- both bytes of a pair are in the needle
pub fits_needle :
    (fold : ℕ) (pair : BytePair) (needle : List ℕ) → pair.first_at < length needle → pair.second_at < length needle
    → slice_index needle pair.first_at ≡ pair.first → slice_index needle pair.second_at ≡ pair.second
    → FitsNeedle fold pair needle
fits_needle fold pair needle f s e e' = λ hay k o. record {
  first = o.reads pair.first_at f ∙ e;
  second = o.reads pair.second_at s ∙ e';
}

-- where a needle occurs, it occurs folded
occurs_folded :
    (fold : ℕ) (hay needle folded : List ℕ) (k : ℕ) → IsFoldedNeedle fold needle folded → OccursAt hay needle k
    → OccursFolded fold hay folded k
occurs_folded fold hay needle folded k is o = record {
  fits = let f = o.fits in let l = is.long in omega (arith, f, l);
  reads = λ j lt.
      let inside : j < length needle = (let l = is.long in omega (arith, lt, l)) in
      ap (λ b. bit_or b fold) (o.reads j inside) ∙ sym (is.reads j inside);
}

-- if no folded needle occurs, no needle does
pub none_folded :
    (fold : ℕ) (hay : List ℕ) (needles folded : List (List ℕ)) (k : ℕ) → HasFolds fold needles folded
    → NoFoldOccurs fold hay folded k → AnyOccursAt hay needles k → ⊥
none_folded fold hay needles folded k has none found =
    let f = has found.0 found.1 in
    none f.0 f.1 (occurs_folded fold hay (needle_at needles found.0) (needle_at folded f.0) k f.2 found.2)

-- a pair of the list fits wherever the needle occurs
pub covers_new :
    (fold : ℕ) (pair : BytePair) (pairs : List BytePair) (needle : List ℕ) → FitsNeedle fold pair needle
    → Contains pairs pair → CoversNeedle fold pairs needle
covers_new fold pair pairs needle f (i, l, e) = λ hay k o. (i, pair, l, e, f hay k o)

-- more pairs cover what fewer cover
pub covers_kept :
    (fold : ℕ) (old new : List BytePair) (needle : List ℕ) → HasAllOf old new → CoversNeedle fold old needle
    → CoversNeedle fold new needle
covers_kept fold old new needle all covers = λ hay k o. more (covers hay k o) where
  more : {hay : List ℕ} {k : ℕ} → AnyFitsAt fold old hay k → AnyFitsAt fold new hay k
  more (i, pair, l, e, f) = let c = all pair (i, l, e) in (c.0, pair, c.1, c.2, f)

-- the needles do not occur before `at`, nor from there to before `p`
pub none_join :
    (hay : List ℕ) (needles : List (List ℕ)) (s at p : ℕ) → NoneOccurs hay needles s at
    → NoneOccurs hay needles at p → NoneOccurs hay needles s p
none_join hay needles s at p first second = λ k low high. ⊎_elim
    (λ (l : k < at). first k low l) (λ (l : at ≤ k). second k l high) (cases_lt k at)

-- what a mask of 64 offsets says
module _
    (needles : List (List ℕ)) (hay : List ℕ) (at mask : ℕ)
    (set : (k : ℕ) → k < 64 → AnyOccursAt hay needles (at + k) → bit_at mask k ≡ 1)
  where
    pub none_clear :
        (n : ℕ) → n ≤ 64 → ((k : ℕ) → k < n → bit_at mask k ≡ 0) → NoneOccurs hay needles at (at + n)
    none_clear n few clear = λ k low high found.
        let here : at + (k - at) ≡ k = omega (arith, low) in
        let lane : k - at < n = omega (arith, low, high) in
        let one : bit_at mask (k - at) ≡ 1 =
        set (k - at) (omega (arith, lane, few)) (subst (AnyOccursAt hay needles) (sym here) found) in
        let none : bit_at mask (k - at) ≡ 0 = clear (k - at) lane in
        absurd (omega (arith, one, none))

    pub none_zero : mask ≡ 0 → NoneOccurs hay needles at (at + 64)
    none_zero z = none_clear 64 (omega arith) (λ k l. ap (λ m. bit_at m k) z ∙ bit_at-zero k)

    pub none_trailing :
        (mask ≡ 0 → ⊥) → mask < 2 ^ 64 → NoneOccurs hay needles at (at + count_trailing_zeros 64 mask)
    none_trailing some small =
        none_clear (count_trailing_zeros 64 mask) (let f = trailing_few mask some small in omega (arith, f))
        (trailing_clear mask some small)

-- where a needle occurs, one of the pairs fits
pub some_fits :
    (fold : ℕ) (pairs : List BytePair) (needles folded : List (List ℕ)) (hay : List ℕ) (k : ℕ)
    → HasFolds fold needles folded → CoversNeedles fold pairs folded → AnyOccursAt hay needles k
    → AnyFitsAt fold pairs hay k
some_fits fold pairs needles folded hay k has covers found =
    let f = has found.0 found.1 in
    covers f.0 f.1 hay k
    (occurs_folded fold hay (needle_at needles found.0) (needle_at folded f.0) k f.2 found.2)

-- and the byte with which all needles begin is there
pub begins_there :
    (fold byte : ℕ) (needles folded : List (List ℕ)) (hay : List ℕ) (k : ℕ) → HasFolds fold needles folded
    → AllBeginWithByte byte folded → AnyOccursAt hay needles k → bit_or (slice_index hay k) fold ≡ byte
begins_there fold byte needles folded hay k has all found =
    let f = has found.0 found.1 in
    let first = all f.0 f.1 in
    let there = occurs_folded fold hay (needle_at needles found.0) (needle_at folded f.0) k f.2 found.2 in
    let same : k + 0 ≡ k = omega arith in
    ap (λ o. bit_or (slice_index hay o) fold) (sym same) ∙ there.reads 0 first.0 ∙ first.1

-- a bit that is set in both masks is set in their conjunction
pub both_set : (a b k : ℕ) → bit_at a k ≡ 1 → bit_at b k ≡ 1 → bit_at (bit_and a b) k ≡ 1
both_set a b k first second = bit_at_and a b k ∙ omega (arith, first, second)

-- a bit is 0 or 1, so that one which is set in a mask is set in its disjunction with another
pub left_set : (a b k : ℕ) → bit_at a k ≡ 1 → bit_at (bit_or a b) k ≡ 1
left_set a b k set = bit_at_or a b k ∙ omega (arith, set)

pub right_set : (a b k : ℕ) → bit_at b k ≡ 1 → bit_at (bit_or a b) k ≡ 1
right_set a b k set = bit_at_or a b k ∙ omega (arith, set)

-- the mask of one more pair is added
pub fits_more :
    (fold : ℕ) (pairs : List BytePair) (hay : List ℕ) (from mask more i : ℕ) (d : BytePair) → i < length pairs
    → ((k : ℕ) → k < 64 → FitsAt fold (get_or pairs i d) hay (from + k) → bit_at more k ≡ 1)
    → ((n : ℕ) (pair : BytePair) (k : ℕ) → n < i → get_or pairs n pair ≡ pair → k < 64
    → FitsAt fold pair hay (from + k) → bit_at mask k ≡ 1)
    → (n : ℕ) (pair : BytePair) (k : ℕ) → n < i + 1 → get_or pairs n pair ≡ pair → k < 64
    → FitsAt fold pair hay (from + k) → bit_at (bit_or mask more) k ≡ 1
fits_more fold pairs hay from mask more i d l here before n pair k less is few fit = ⊎_elim
    (λ (b : n < i). left_set mask more k (before n pair k b is few fit))
    (λ (b : i ≤ n).
    let there : n ≡ i = omega (arith, b, less) in
    let same : pair ≡ get_or pairs i d =
    sym is ∙ (ap (λ m. get_or pairs m pair) there ∙ get_or_default pairs i pair d l) in
    right_set mask more k (here k few (subst (λ p. FitsAt fold p hay (from + k)) same fit)))
    (cases_lt n i)

-- none occurs before `at`, nor there
pub none_next :
    (hay : List ℕ) (needles : List (List ℕ)) (s at : ℕ) → (AnyOccursAt hay needles at → ⊥)
    → NoneOccurs hay needles s at → NoneOccurs hay needles s (at + 1)
none_next hay needles s at here before = λ k low high. ⊎_elim
    (λ (l : k < at). before k low l)
    (λ (l : at ≤ k). subst (λ j. AnyOccursAt hay needles j → ⊥) (omega (arith, l, high)) here)
    (cases_lt k at)

-- none occurs before an offset past the end
pub none_upto :
    (hay : List ℕ) (needles : List (List ℕ)) (s at e : ℕ) → e < at → NoneOccurs hay needles s at
    → NoneOccurs hay needles s (suc e)
none_upto hay needles s at e past none = λ k low high. none k low (omega (arith, past, high))

-- a needle as an item of the vector that has it
pub needle_is :
    (vs : List (Vec ℕ Global)) (i : ℕ) (v : Vec ℕ Global) → i < length vs → v ≡ get_or vs i v
    → needle_at (map (λ w. w.items) vs) i ≡ v.items
needle_is vs i v l e = get_or-map (λ w. w.items) vs i v [] l ∙ ap (λ w. w.items) (sym e)

-- the pairs, to which that of one more needle was added
pub covers_more :
    (fold : ℕ) (old new : List BytePair) (vs : List (Vec ℕ Global)) (i : ℕ) (v : Vec ℕ Global) (pair : BytePair)
    → i < length vs → v ≡ get_or vs i v → HasAllOf old new → Contains new pair → FitsNeedle fold pair v.items
    → ((n : ℕ) → n < i → CoversNeedle fold old (needle_at (map (λ w. w.items) vs) n))
    → (n : ℕ) → n < i + 1 → CoversNeedle fold new (needle_at (map (λ w. w.items) vs) n)
covers_more fold old new vs i v pair l e all has fits before =
    below_more (λ n. CoversNeedle fold new (needle_at (map (λ w. w.items) vs) n)) i
    (λ n k. covers_kept fold old new (needle_at (map (λ w. w.items) vs) n) all (before n k))
    (subst (λ needle. CoversNeedle fold new needle) (sym (needle_is vs i v l e))
    (covers_new fold pair new v.items fits has))

-- the folded needle is in the list as an item
pub has_fold_at :
    (fold : ℕ) (needle : List ℕ) (vs : List (Vec ℕ Global)) (i : ℕ) (v : Vec ℕ Global) → i < length vs
    → v ≡ get_or vs i v → IsFoldedNeedle fold needle v.items → HasFoldOf fold needle (map (λ w. w.items) vs)
has_fold_at fold needle vs i v l e is = (
  i,
  omega (arith, l, length-map vs (λ (w : Vec ℕ Global). w.items)),
  subst (λ b. IsFoldedNeedle fold needle b) (sym (needle_is vs i v l e)) is,
)

-- a length that is not 0
pub filled : (n : ℕ) → (n == 0) ≡ false → 1 ≤ n
filled zero e = absurd (true≢false e)
filled (suc n) e = omega arith
