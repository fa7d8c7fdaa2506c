-- Which rule has the token at an offset, and where the token ends, by what the patterns of the rules mean.
use Rattle.std.specs.Prelude.{ℕ, ◌≡◌, ◌≤◌, List, [], ◌∷◌, length, Some, slice_get}
use Rattle.regex_hir.specs.Matches.{Matches}
use Rattle.regex_hir.specs.Re.{Re, Trace, accept, attempt}
use Rattle.regex_nfa.specs.Paths.{Accepts}
use Rattle.regex_nfa.specs.declared.nfa.Nfa as kit_nfa

-- the rule with this number matches the haystack from `start` to `end`, in some way
abbrev pub RuleMatches : List Re → (hay : List ℕ) → (rule start end : ℕ) → Type 0
RuleMatches res hay rule start end = (re : Re) × (slice_get res rule ≡ Some re) × Matches hay re start end

-- of the matches that begin at `start`, the rule with this number prefers one that ends at `end`
abbrev pub RulePrefers : List Re → (hay : List ℕ) → (rule start end : ℕ) → Type 0
RulePrefers res hay rule start end =
    (re : Re) × (trace : Trace) × (slice_get res rule ≡ Some re) × (attempt hay re accept start ≡ Some trace)
    × (end ≡ trace.end)

-- of the rules that match at an offset this is the first one, and it prefers a match that ends at `end`
pub record IsFirstRule (res : List Re) (hay : List ℕ) (offset rule end : ℕ) : Type 0 where
  -- it prefers that match
  pub matches : RulePrefers res hay rule offset end
  -- no rule before it matches at the offset
  pub first : (other at : ℕ) → RulePrefers res hay other offset at → rule ≤ other

-- no rule matches farther from an offset than to `end`, and no rule before this one, which matches at the offset,
-- matches to there
pub record IsLongestRule (res : List Re) (hay : List ℕ) (offset rule end : ℕ) : Type 0 where
  -- it matches at the offset
  pub matches : (at : ℕ) × RuleMatches res hay rule offset at
  -- no rule matches farther
  pub longest : (other at : ℕ) → RuleMatches res hay other offset at → at ≤ end
  -- no rule before it matches to there
  pub first : (other : ℕ) → RuleMatches res hay other offset end → rule ≤ other

-- each path of the NFA is a match of the pattern, as each match is a path
abbrev pub HasNoOtherPaths : kit_nfa.Nfa → Re → Type 0
HasNoOtherPaths k re = (hay : List ℕ) (i j : ℕ) → Accepts k hay (length hay) j k.start i → Matches hay re i j

-- each of these NFAs has no other paths than the matches of its pattern
abbrev pub AreExact : List kit_nfa.Nfa → List Re → Type 0
AreExact [] [] = Unit {0}
AreExact [] (re ∷ res) = ⊥
AreExact (k ∷ ks) [] = ⊥
AreExact (k ∷ ks) (re ∷ res) = HasNoOtherPaths k re × AreExact ks res
