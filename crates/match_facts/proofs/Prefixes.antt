-- Common prefixes of texts.
use Rattle.std.proofs.Common.{ℕ, ◌≡◌, ◌+◌, ◌<◌, List, [], ◌∷◌, ◌++◌, length, take, drop, get_or, sym, ap, ◌∙◌}
use Rattle.std.proofs.Common.{arith, append_assoc, take-append-drop, length-append, le_refl}
use Rattle.std.proofs.lemmas.List.{get_or_append_left, take_more}
use Rattle.regex_hir.specs.Re.{Re}
use Rattle.regex_hir.proofs.MatchesLemmas.{Matches-IsSpan}
use Rattle.regex_literal.specs.Find.{OccursAt, needle_at}
use Rattle.regex_extract.specs.Bounds.{IsMaxLen}
use Rattle.regex_extract.specs.Needles.{StartsWithNeedle}
use Rattle.match_facts.specs.Facts.{HasLength, StartsWith}
use Rattle.match_facts.specs.Prefixes.{BeginsWith}

-- a text begins with each prefix of what it begins with
pub shorter_begins : (bytes text : List ℕ) (n : ℕ) → BeginsWith bytes text → BeginsWith (take n bytes) text
shorter_begins bytes text n b = (
  drop n bytes ++ b.0,
  b.1 ∙ ap (λ v. v ++ b.0) (sym (take-append-drop n bytes)) ∙ append_assoc (take n bytes) (drop n bytes) b.0,
)

pub common_begins : (bytes text : List ℕ) (n : ℕ) → take n bytes ≡ take n text → BeginsWith (take n bytes) text
common_begins bytes text n e = (drop n text, sym (take-append-drop n text) ∙ ap (λ v. v ++ drop n text) (sym e))

-- the common prefix is one byte longer
pub common_more :
    (xs ys : List ℕ) (i : ℕ) → i < length xs → i < length ys → get_or xs i 0 ≡ get_or ys i 0 → take i xs ≡ take i ys
    → take (i + 1) xs ≡ take (i + 1) ys
common_more xs ys i l m same e =
    take_more xs i 0 l ∙ ap (λ v. v ++ get_or xs i 0 ∷ []) e ∙ ap (λ b. take i ys ++ b ∷ []) same
    ∙ sym (take_more ys i 0 m)

-- bytes that a text begins with occur where the text occurs
pub begins_there :
    (hay bytes text : List ℕ) (k : ℕ) → BeginsWith bytes text → OccursAt hay text k → OccursAt hay bytes k
begins_there hay bytes text k b o = record {
  fits = omega (arith, o.fits, ap length b.1, length-append bytes b.0);
  reads = λ j lt.
      o.reads j (omega (arith, lt, ap length b.1, length-append bytes b.0))
      ∙ ap (λ v. get_or v j 0) b.1 ∙ get_or_append_left bytes b.0 0 j lt;
}

-- every match begins with the common prefix of all needles
pub starts_with_shared :
    (re : Re) (needles : List (List ℕ)) (bytes : List ℕ)
    → ((n : ℕ) → n < length needles → BeginsWith bytes (needle_at needles n)) → StartsWithNeedle re needles
    → StartsWith re bytes
starts_with_shared re needles bytes all starts hay ok i j w s =
    let found = starts hay ok i j s in
    let n = found.0 in
    let b = all n found.1.numbered in
    record {
      occurs = begins_there hay bytes (needle_at needles n) i b found.1.occurs;
      low = le_refl i;
      high = let h = found.1.high in omega (arith, h, ap length b.1, length-append bytes b.0);
    }

-- so the common prefix can be searched for in place of the needles
pub starts_with_one :
    (re : Re) (needles : List (List ℕ)) (bytes : List ℕ)
    → ((n : ℕ) → n < length needles → BeginsWith bytes (needle_at needles n)) → StartsWithNeedle re needles
    → StartsWithNeedle re (bytes ∷ [])
starts_with_one re needles bytes all starts hay ok i j s =
    let found = starts hay ok i j s in
    let n = found.0 in
    let b = all n found.1.numbered in (
      0,
      record {
        numbered = omega arith;
        occurs = begins_there hay bytes (needle_at needles n) i b found.1.occurs;
        low = le_refl i;
        high = let h = found.1.high in omega (arith, h, ap length b.1, length-append bytes b.0);
      },
    )

pub starts_with_none : (re : Re) → StartsWith re []
starts_with_none re hay ok i j w s =
    let span = Matches-IsSpan hay re i j s in
    record {
      occurs = record { fits = omega (arith, w); reads = λ n lt. absurd (omega (arith, lt)) };
      low = le_refl i;
      high = omega (arith, span.0);
    }

-- if every match begins with a prefix, and is no longer, every match is the prefix
pub is_prefix :
    (re : Re) (bytes : List ℕ) → StartsWith re bytes → IsMaxLen re (length bytes) → HasLength re (length bytes)
is_prefix re bytes starts longest hay ok i j w s =
    let b = (starts hay ok i j w s).high in let e = longest hay ok i j s in omega (arith, b, e)
