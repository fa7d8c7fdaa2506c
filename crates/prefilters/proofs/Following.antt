-- A literal among the parts of a sequence.
use Rattle.std.proofs.Common.{ℕ, zero, suc, ◌≡◌, ◌∙◌, ◌+◌, ◌<◌, ◌≤◌, List, [], ◌∷◌, IfOk, IfSome, true}
use Rattle.std.proofs.Common.{ap, arith, get_or, length, map, refl, subst, sym, take}
use Rattle.std.specs.Prelude.{Err, None, Ok, Option, Result, Some}
use Rattle.regex_extract.specs.Frames.{IsWithin}
use Rattle.regex_extract.specs.Needles.{StandsWithin}
use Rattle.regex_hir.specs.Meaning.{cat_all, meaning}
use Rattle.regex_hir.specs.Matches.{Matches}
use Rattle.regex_hir.specs.Re.{Re, literal}
use Rattle.regex_hir.specs.Text.{has_bytes_at}
use Rattle.regex_hir.specs.declared.hir.Hir.{Hir}
use Rattle.regex_hir.proofs.MatchesLemmas.{Matches-IsSpan}
use Rattle.regex_hir.proofs.TextLemmas.{has_bytes_at_fits, has_bytes_at_parts}
use Rattle.prefilters.specs.Heads.{IsHeadOf}
use Rattle.prefilters.specs.Needles.{HasNeedleAfter, HasNeedleNear, NearNeedles}
use Rattle.prefilters.specs.declared.heads.Head.{Head}
use Rattle.prefilters.proofs.Consisting.{byte_there}
use Rattle.prefilters.proofs.Joining.{heads_lead}

-- a match of a sequence, with the match of one of its parts
split :
    (hay : List ℕ) (hs : List Hir) (n i j : ℕ) (d : Hir) → n < length hs → Matches hay (cat_all (map meaning hs)) i j
    → (k l : ℕ) × Matches hay (cat_all (map meaning (take n hs))) i k × Matches hay (meaning (get_or hs n d)) k l
    × (l ≤ j)
split hay [] n i j d lt m = absurd (omega (arith, lt))
split hay (h ∷ hs) zero i j d lt m =
    (i, m.0, refl, m.1, (Matches-IsSpan hay (cat_all (map meaning hs)) m.0 j m.2).0)
split hay (h ∷ hs) (suc n) i j d lt m =
    let w = split hay hs n m.0 j d (omega (arith, lt)) m.2 in (w.0, w.1, (m.0, m.1, w.2), w.3, w.4)

-- a match of a literal is the needle
stands :
    (hay bytes : List ℕ) (i j k l : ℕ) → 0 < length bytes → i ≤ k → l ≤ j → has_bytes_at hay k bytes ≡ true
    → l ≡ k + length bytes → StandsWithin hay (bytes ∷ []) 0 k i j
stands hay bytes i j k l long low high has ends = record {
  numbered = omega arith;
  occurs = record {
    fits = omega (arith, long, has_bytes_at_fits hay k bytes has);
    reads = λ n lt. byte_there hay bytes k n (has_bytes_at_parts hay k bytes has) lt;
  };
  low = low;
  high = omega (arith, ends, high);
}

pub literal_follows :
    (hs : List Hir) (n : ℕ) (h : Hir) (bytes : List ℕ) → n < length hs → h ≡ get_or hs n h → 0 < length bytes
    → IsWithin (meaning h) (literal bytes)
    → HasNeedleAfter (cat_all (map meaning hs)) (cat_all (map meaning (take n hs))) (bytes ∷ [])
literal_follows hs n h bytes lt is long within hay ok i j m =
    let w = split hay hs n i j h lt m in
    let at = within hay w.0 w.1 (subst (λ v. Matches hay (meaning v) w.0 w.1) (sym is) w.3) in
    let low = (Matches-IsSpan hay (cat_all (map meaning (take n hs))) i w.0 w.2).0 in
    (0, w.0, stands hay bytes i j w.0 w.1 long low w.4 at.0 at.1, w.2)

pub near_after :
    {E : Type 0} (re before : Re) (needles those : List (List ℕ)) (head : Head) (r : Result (Option NearNeedles) E)
    → those ≡ needles → HasNeedleAfter re before needles → IsHeadOf before head
    → IfOk r (λ o. IfSome o (λ p. p ≡ record { needles = those; head = head }))
    → IfOk r (λ o. IfSome o (HasNeedleNear re))
near_after re before needles those head (Ok (Some p)) same after leads is =
    subst (HasNeedleNear re) (sym (is ∙ ap (λ v. record { needles = v; head = head }) same))
    (heads_lead re before needles head after leads)
near_after re before needles those head (Ok None) same after leads is = is
near_after re before needles those head (Err e) same after leads is = is

-- what each match of a pattern has, each match of one within it has
pub near_within :
    {E : Type 0} (re wide : Re) (r : Result (Option NearNeedles) E) → IsWithin re wide
    → IfOk r (λ o. IfSome o (HasNeedleNear wide)) → IfOk r (λ o. IfSome o (HasNeedleNear re))
near_within re wide (Ok (Some p)) within has = λ hay bytes i j m. has hay bytes i j (within hay i j m)
near_within re wide (Ok None) within has = has
near_within re wide (Err e) within has = has
