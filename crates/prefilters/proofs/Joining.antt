-- The needles of several patterns.
use Rattle.std.proofs.Common.{ℕ, ◌≡◌, ◌+◌, ◌<◌, ◌≤◌, List, [], ◌∷◌, ◌++◌, inl, inr, length, get_or}
use Rattle.std.proofs.Common.{sym, subst, arith, true≢false, true}
use Rattle.std.proofs.Common.{⊎_elim, ◌⊎◌, ◌≤◌, ◌+◌, inl, inr, ◌∙◌, take, length, arith, suc}
use Rattle.std.proofs.lemmas.List.Elements.{All-append}
use Rattle.std.proofs.lemmas.List.{get_or_append_left, get_or-append-add, get_or-take, length-append, length-take}
use Rattle.regex_class.specs.Ranges.{in_ranges}
use Rattle.regex_hir.specs.Re.{Re}
use Rattle.regex_extract.specs.Needles.{StandsWithin, StartsWithNeedle}
use Rattle.regex_literal.specs.Find.{AllAtMost, OccursAt, needle_at}
use Rattle.meaning.specs.Patterns.{any_of}
use Rattle.prefilters.specs.Needles.{AllHaveNeedleNear, AllStartWith, HasNeedleNear, NearNeedles, NoneOccurs}
use Rattle.prefilters.specs.Needles.{AreNearInShort, HasNeedleAfter, ReachesAll}
use Rattle.prefilters.specs.Heads.{FitsHead, IsHeadOf}
use Rattle.prefilters.specs.declared.heads.Head.{Head}
use Rattle.prefilters.specs.declared.heads.Head.TheVariants.{Any, Of, Within}

no_range : (b : ℕ) → in_ranges [] b ≡ true → ⊥
unfolding in_ranges
no_range b e = true≢false (sym e)

-- a needle by another number in another list
moved :
    (hay : List ℕ) (xs ys : List (List ℕ)) (n m k i j : ℕ) → m < length ys → needle_at ys m ≡ needle_at xs n
    → StandsWithin hay xs n k i j → StandsWithin hay ys m k i j
moved hay xs ys n m k i j within same w = record {
  numbered = within;
  occurs = subst (λ v. OccursAt hay v k) (sym same) w.occurs;
  low = w.low;
  high = subst (λ v. k + length v ≤ j) (sym same) w.high;
}

abbrev Stands : List ℕ → List (List ℕ) → ℕ → ℕ → Type 0
Stands hay needles i j = (n : ℕ) × StandsWithin hay needles n i i j

left : (hay : List ℕ) (xs ys : List (List ℕ)) (i j : ℕ) → Stands hay xs i j → Stands hay (xs ++ ys) i j
left hay xs ys i j w = (
  w.0,
  moved hay xs (xs ++ ys) w.0 w.0 i i j
      (let l = w.1.numbered in let e = length-append xs ys in omega (arith, l, e))
      (get_or_append_left xs ys [] w.0 w.1.numbered) w.1,
)

right : (hay : List ℕ) (xs ys : List (List ℕ)) (i j : ℕ) → Stands hay ys i j → Stands hay (xs ++ ys) i j
right hay xs ys i j w = (
  length xs + w.0,
  moved hay ys (xs ++ ys) w.0 (length xs + w.0) i i j
      (let l = w.1.numbered in let e = length-append xs ys in omega (arith, l, e))
      (get_or-append-add xs ys w.0 []) w.1,
)

starts_left :
    (re : Re) (xs ys : List (List ℕ)) → StartsWithNeedle re xs → StartsWithNeedle re (xs ++ ys)
starts_left re xs ys s hay bytes i j m = left hay xs ys i j (s hay bytes i j m)

starts_right :
    (re : Re) (xs ys : List (List ℕ)) → StartsWithNeedle re ys → StartsWithNeedle re (xs ++ ys)
starts_right re xs ys s hay bytes i j m = right hay xs ys i j (s hay bytes i j m)

pub needles_grow :
    (res more : List Re) (needles others : List (List ℕ)) → AllStartWith res needles → AllStartWith more others
    → AllStartWith (res ++ more) (needles ++ others)
needles_grow res more needles others a b =
    All-append (λ re. StartsWithNeedle re (needles ++ others)) res more
    (λ i d l. starts_left (get_or res i d) needles others (a i d l))
    (λ i d l. starts_right (get_or more i d) needles others (b i d l))

pub needles_join : (res : List Re) (near : NearNeedles) → AllHaveNeedleNear res near → HasNeedleNear (any_of res) near
needles_join [] near s hay bytes i j m = absurd (no_range m.0 m.2)
needles_join (re ∷ []) near s hay bytes i j m = s 0 re (omega arith) hay bytes i j m
needles_join (re ∷ next ∷ res) near s hay bytes i j (inl m) = s 0 re (omega arith) hay bytes i j m
needles_join (re ∷ next ∷ res) near s hay bytes i j (inr m) =
    needles_join (next ∷ res) near (λ n d l. s (suc n) d (omega (arith, l))) hay bytes i j m

-- the empty part of a match is a head
nothing_fits_head : (head : Head) (hay : List ℕ) (i : ℕ) → FitsHead head hay i i
nothing_fits_head (Within most) hay i = omega arith
nothing_fits_head (Of table) hay i = λ k low high. absurd (omega (arith, low, high))
nothing_fits_head Any hay i = tt

pub starts_are_near :
    (re : Re) (needles : List (List ℕ)) (head : Head) → StartsWithNeedle re needles
    → HasNeedleNear re (record { needles = needles; head = head })
starts_are_near re needles head starts hay bytes i j m =
    let w = starts hay bytes i j m in (w.0, i, w.1, nothing_fits_head head hay i)

pub inner_are_near :
    (needles : List (List ℕ)) (reach most : ℕ) → ReachesAll needles reach most
    → AreNearInShort needles most (record { needles = needles; head = Within reach })
inner_are_near needles reach most reaches re contains short hay bytes i j m =
    let w = contains hay bytes i j m in
    let ends = w.2.high in
    let upto = short hay bytes i j m in
    let all = reaches w.0 w.2.numbered in
    (w.0, w.1, w.2, omega (arith, ends, upto, all))

pub heads_lead :
    (re before : Re) (needles : List (List ℕ)) (head : Head) → HasNeedleAfter re before needles
    → IsHeadOf before head → HasNeedleNear re (record { needles = needles; head = head })
heads_lead re before needles head after is hay bytes i j m =
    let w = after hay bytes i j m in (w.0, w.1, w.2, is hay bytes i w.1 w.3)

-- a needle in the haystack is one in a beginning that goes as far
occurs_within :
    (hay needle : List ℕ) (cut k : ℕ) → (k + length needle ≤ cut) ⊎ (length hay ≤ cut) → OccursAt hay needle k
    → OccursAt (take cut hay) needle k
occurs_within hay needle cut k far w = record {
  fits = let e = length-take cut hay in let f = w.fits in omega (arith, e, f, ends);
  reads = λ j l. get_or-take cut hay (k + j) 0 (omega (arith, l, ends)) ∙ w.reads j l;
}
  where
    ends : k + length needle ≤ cut
    ends =
        ⊎_elim (λ (a : k + length needle ≤ cut). a)
        (λ (b : length hay ≤ cut). let f = w.fits in omega (arith, b, f)) far

pub beginnings :
    (needles : List (List ℕ)) (hay : List ℕ) (longest cut s p : ℕ) → AllAtMost needles longest
    → (p + longest ≤ suc cut) ⊎ (length hay ≤ cut) → NoneOccurs (take cut hay) needles s p
    → NoneOccurs hay needles s p
beginnings needles hay longest cut s p short far none k low high (n, l, w) =
    none k low high (n, l, occurs_within hay (needle_at needles n) cut k ends w)
  where
    ends : (k + length (needle_at needles n) ≤ cut) ⊎ (length hay ≤ cut)
    ends =
        ⊎_elim
        (λ (a : p + longest ≤ suc cut). inl (let m = short n l in omega (arith, a, m, high)))
        (λ (b : length hay ≤ cut). inr b) far
