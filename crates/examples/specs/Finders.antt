-- What a finder searches for, and how.
use Rattle.std.specs.Prelude.{ℕ, ◌≡◌, List, [], ◌∷◌, Option, Result, is_some}
use Rattle.std.specs.Result.{result_err}
use Rattle.automata_base.specs.Haystacks.Matches.{Match}
use Rattle.automata_config.specs.declared.error.SearchError.{SearchError}
use Rattle.patterns.specs.Patterns.{IsRegexOfTexts}
use Rattle.patterns.specs.Searches.{IsSpanSearch}
use Rattle.examples.specs.Finding.{IsSimulated, in_bytes}
use Rattle.examples.specs.declared.fallback.finder.Finder.{Finder}
use Rattle.examples.specs.declared.fallback.finder.Found.{Found}

-- The finder's lazy DFAs and its simulated NFA are made from the text.
pub record IsFinderOf (text : List ℕ) (finder : Finder) : Type 0 where
  -- its regex is the regex of the text
  pub regex : IsRegexOfTexts in_bytes (text ∷ []) finder.pattern.regex
  -- its NFA finds what the text means
  pub nfa : IsSimulated text finder.nfa

-- The lazy DFAs searched a line first; it is reported that the NFA was simulated exactly if they failed.
pub record IsLineSearched (line : List ℕ) (old new : Finder) (found : Found) : Type 0 where
  -- what the lazy DFAs returned: a match, none, or why they failed
  pub result : Result (Option Match) SearchError
  -- their search, with its effect on their caches
  pub search : IsSpanSearch old.pattern line 0 old.cache new.cache result
  -- whether the NFA was simulated
  pub simulated : found.simulated ≡ is_some (result_err result)
