-- Attempts to find the next match at once: by one anchored search from the first offset where a match can begin.
use Rattle.std.specs.Prelude.{ℕ, ◌≡◌, ◌≤◌, false, Option}
use Rattle.automata_base.specs.Haystacks.Input.{Input}
use Rattle.automata_base.specs.Haystacks.Matches.{Match}
use Rattle.automata_config.specs.declared.error.SearchError.{SearchError}
use Rattle.automata_hybrid.specs.Searches.Passes.{Skips}
use Rattle.regex_automata.specs.Promises.{Forward, IsSearchRun, IsSoundPair, No, forward_engine, known_of}
use Rattle.regex_automata.specs.declared.hybrid.regex.Regex.{Regex}
use Rattle.regex_automata.specs.declared.hybrid.regex.caches.Cache.{Cache}
use Rattle.prefilters.specs.Skipping.{NoneUpTo, MaySkipTo, anchored_from}
use Rattle.patterns.specs.declared.attempts.Attempt.{Attempt}
use Rattle.patterns.specs.declared.attempts.Attempt.TheVariants.{Found, Nothing, Unknown}

-- the search is unanchored and not earliest, and its span is not done
pub record IsFullSearch (input : Input) : Type 0 where
  -- it is unanchored
  pub free : input.anchored ≡ No
  -- it is not earliest
  pub full : input.earliest ≡ false
  -- its span is not done
  pub undone : input.start ≤ input.end

-- the offset lies in the span
abbrev pub LiesInSpan : Input → (at : ℕ) → Type 0
LiesInSpan input at = (input.start ≤ at) × (at ≤ input.end)

-- the forward DFA makes an anchored search from offset `at` on
pub record IsRunFrom (regex : Regex) (input : Input) (at : ℕ) (old new : Cache) : Type 0 where
  -- the error of the search, if it fails
  pub error : Option SearchError
  -- the search
  pub run :
      IsSearchRun Forward regex.forward (anchored_from at input) (known_of old.forward) (known_of new.forward) error
  -- the cache of the reverse DFA is unchanged
  pub reverse : new.reverse ≡ old.reverse

-- the forward DFA makes an anchored search from an offset on before which no match begins
pub record IsAnchoredRun (regex : Regex) (input : Input) (old new : Cache) : Type 0 where
  -- the offset
  pub offset : ℕ
  -- no match begins before it
  pub skips : MaySkipTo (forward_engine regex) input offset
  -- the search
  pub run : IsRunFrom regex input offset old new

-- the forward DFA makes further anchored searches, each from an offset on before which no match begins if the two DFAs
-- are a sound pair
pub data AreLaterRuns (regex : Regex) (input : Input) (old : Cache) : (new : Cache) → Type 0 where
  -- no search
  NoRun : AreLaterRuns regex input old old
  -- another search after these
  NextRun :
      {between new : Cache} → AreLaterRuns regex input old between → (at : ℕ)
      → (IsSoundPair regex → MaySkipTo (forward_engine regex) input at) → IsRunFrom regex input at between new
      → AreLaterRuns regex input old new

-- the offset is in the span, and no match begins before it, nor there, if the two DFAs are a sound pair and skip no
-- offset
abbrev pub BeginsLater : Regex → Input → (at : ℕ) → Type 0
BeginsLater regex input at =
    LiesInSpan input at
    × (IsSoundPair regex → (Skips regex.forward → ⊥) → NoneUpTo (forward_engine regex) input at)

-- if the attempt finds a match, it is so
abbrev pub IfFound : Attempt → (P : Match → Type 0) → Type 0
IfFound (Found m) P = P m
IfFound (Nothing at) P = Unit {0}
IfFound Unknown P = Unit {0}

-- if the attempt says that no match begins up to an offset, that is so
abbrev pub IfNothing : Attempt → (P : (at : ℕ) → Type 0) → Type 0
IfNothing (Found m) P = Unit {0}
IfNothing (Nothing at) P = P at
IfNothing Unknown P = Unit {0}
