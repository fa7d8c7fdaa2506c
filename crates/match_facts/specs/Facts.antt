-- What every match of a pattern has in common.
use Rattle.std.specs.Prelude.{ℕ, ◌≡◌, ◌+◌, ◌<◌, ◌≤◌, true, List, All, length}
use Rattle.regex_hir.specs.Re.{Re}
use Rattle.regex_hir.specs.Matches.{Matches}
use Rattle.regex_literal.specs.Find.{OccursAt}
use Rattle.regex_extract.specs.Needles.{AreFilled, needles_of}
use Rattle.match_facts.specs.declared.Facts.{Facts}

-- every match in a haystack of bytes, from i to j, has the property
abbrev pub EachMatch : Re → (List ℕ → (i j : ℕ) → Type 0) → Type 0
EachMatch re P =
    (hay : List ℕ) → All (λ b. b < 256) hay → (i j : ℕ) → i ≤ length hay → Matches hay re i j → P hay i j

-- the bytes occur at offset k of the haystack, between i and j
pub record StandsBetween (hay bytes : List ℕ) (k i j : ℕ) : Type 0 where
  -- they occur there
  pub occurs : OccursAt hay bytes k
  -- they do not begin before i
  pub low : i ≤ k
  -- they do not end after j
  pub high : k + length bytes ≤ j

-- the bytes occur somewhere in the haystack between i and j
abbrev pub StandsIn : (hay bytes : List ℕ) → (i j : ℕ) → Type 0
StandsIn hay bytes i j = (k : ℕ) × StandsBetween hay bytes k i j

-- every match begins with the bytes
abbrev pub StartsWith : Re → (bytes : List ℕ) → Type 0
StartsWith re bytes = EachMatch re (λ hay i j. StandsBetween hay bytes i i j)

-- every match has `n` bytes
abbrev pub HasLength : Re → ℕ → Type 0
HasLength re n = EachMatch re (λ hay i j. j ≡ i + n)

-- every match contains each of these texts
abbrev pub ContainsAll : Re → (texts : List (List ℕ)) → Type 0
ContainsAll re texts = EachMatch re (λ hay i j. All (λ bytes. StandsIn hay bytes i j) texts)

-- the facts hold of every match
pub record AreFacts (re : Re) (facts : Facts) : Type 0 where
  -- if the flag is set, every match begins where the haystack does
  pub start : facts.anchored_start ≡ true → EachMatch re (λ hay i j. i ≡ 0)
  -- if the flag is set, every match ends where the haystack does
  pub end : facts.anchored_end ≡ true → EachMatch re (λ hay i j. j ≡ length hay)
  -- every match begins with the prefix
  pub prefix : StartsWith re facts.prefix.items
  -- if the flag is set, every match is the prefix and nothing more
  pub exact : facts.exact ≡ true → HasLength re (length facts.prefix.items)
  -- every match contains each of the literals
  pub literals : ContainsAll re (needles_of facts.literals)
  -- no literal is empty
  pub filled : AreFilled (needles_of facts.literals)
