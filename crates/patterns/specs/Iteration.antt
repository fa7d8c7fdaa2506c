-- One match of patterns after another, by what the patterns mean.
use Rattle.std.specs.Prelude.{ℕ, ◌≡◌, ◌+◌, ◌-◌, Bool, true, false, List, length, Option, Some, None, Result, Ok, Err}
use Rattle.std.specs.Option.{unwrap_or}
use Rattle.regex_hir.specs.Re.{Re}
use Rattle.automata_base.specs.Haystacks.Input.{Input}
use Rattle.automata_base.specs.Haystacks.Matches.{Match}
use Rattle.automata_config.specs.declared.error.SearchError.{SearchError}
use Rattle.regex_automata.specs.Spans.Outcomes.{MatchLiesIn}
use Rattle.regex_automata.specs.declared.hybrid.regex.Regex.{Regex}
use Rattle.regex_automata.specs.declared.hybrid.regex.caches.Cache.{Cache}
use Rattle.meaning.specs.Patterns.{IsFirstLeft, left_any, span_input}
use Rattle.patterns.specs.Patterns.{IsFor, IsRegexOf}
use Rattle.patterns.specs.Searches.{FailsNext}
use Rattle.patterns.specs.declared.compile.Options.{Options}
use Rattle.patterns.specs.declared.pattern.Pattern.{Pattern}

-- the remaining input after a match that ended at `last`
abbrev pub rest_of : List ℕ → (last : Option ℕ) → Input
rest_of hay last = span_input hay (unwrap_or last 0) (length hay)

-- the next of the remaining matches, by each meaning that the regex has
abbrev pub IsNextMeant : Regex → List ℕ → (last : Option ℕ) → Option Match → Type 0
IsNextMeant regex hay last found =
    (o : Options) (res : List Re) → IsRegexOf o res regex → IsFor o hay
    → IsFirstLeft (left_any o.utf8 res hay) last found

-- an iteration has ended, and its last match is unchanged
pub record HasNoMore (last last' : Option ℕ) (ended' : Bool) : Type 0 where
  -- the last match ended at the same offset
  pub place : last' ≡ last
  -- the iteration has ended
  pub over : ended' ≡ true

-- an iteration returns a match of the patterns, and continues from its end
pub record GivesNext (regex : Regex) (hay : List ℕ) (m : Match) (last last' : Option ℕ) (ended' : Bool) : Type 0 where
  -- it is the next of the remaining matches
  pub next : IsNextMeant regex hay last (Some m)
  -- it lies in the remaining haystack
  pub within : MatchLiesIn regex (rest_of hay last) m
  -- the last match ended at its end
  pub place : last' ≡ Some m.end
  -- the iteration has not ended
  pub going : ended' ≡ false

-- one item of an iteration, and the caches before it and after it; where the last match ended, and whether the
-- iteration has ended, before it and after it
abbrev pub GivesMatch :
    Pattern → (old new : Cache) → List ℕ → Option (Result Match SearchError) → (last last' : Option ℕ)
    → (ended ended' : Bool) → Type 0
GivesMatch pattern old new hay item last last' true ended' = (item ≡ None) × HasNoMore last last' ended'
GivesMatch pattern old new hay None last last' false ended' =
    IsNextMeant pattern.regex hay last None × HasNoMore last last' ended'
GivesMatch pattern old new hay (Some (Ok m)) last last' false ended' = GivesNext pattern.regex hay m last last' ended'
GivesMatch pattern old new hay (Some (Err e)) last last' false ended' =
    FailsNext pattern old new hay last e × HasNoMore last last' ended'

-- an upper bound on the number of remaining items: ends increase, and an error may be the last item
abbrev pub most_left : (ended : Bool) → List ℕ → (last : Option ℕ) → ℕ
most_left true hay last = 0
most_left false hay None = length hay + 2
most_left false hay (Some end) = length hay + 1 - end
