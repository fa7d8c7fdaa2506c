-- The effect of searches over two lazy DFAs on their caches: runs of the forward DFA, and of the reverse one, each over
-- what its cache knows.
use Rattle.std.specs.Prelude.{ℕ, suc, ◌≡◌, ◌⊎◌, Option, Some, None, Result, Bool, true, false}
use Rattle.std.specs.Result.{result_err}
use Rattle.automata_base.specs.Answers.Answers.{Half}
use Rattle.automata_base.specs.Haystacks.Input.{Input}
use Rattle.automata_base.specs.Haystacks.Matches.{Match}
use Rattle.automata_base.specs.Answers.Spans.{IsShort, back, from}
use Rattle.automata_base.specs.declared.util.search.Direction.TheVariants.{Backward, Forward}
use Rattle.automata_config.specs.declared.error.SearchError.{SearchError}
use Rattle.automata_config.specs.declared.error.SearchError.TheVariants as search
use Rattle.automata_hybrid.specs.Cache.Caches.{CacheView}
use Rattle.automata_hybrid.specs.Known.Passes.{IsSearchRun}
use Rattle.automata_hybrid.specs.Known.Stores.{known_of}
use Rattle.automata_hybrid.specs.Searches.Passes.{IsFound}
use Rattle.regex_automata.specs.Spans.IsMatch.{IsAsked}
use Rattle.regex_automata.specs.Spans.Iteration.{FindsEmptyAt}
use Rattle.regex_automata.specs.Spans.Outcomes.{IsStartFound}
use Rattle.regex_automata.specs.Regexes.SoundPairs.{forward_engine}
use Rattle.regex_automata.specs.declared.hybrid.regex.Regex.{Regex}
use Rattle.regex_automata.specs.declared.hybrid.regex.caches.Cache.{Cache}

-- the reverse search from a forward answer, if it is made
pub data IsBackRun (p : Regex) (input : Input) (half : Half) (old new : CacheView) (error : Option SearchError) :
    Type 0 where
  -- the start is known without it: the cache is unchanged, and nothing fails
  NotMade : IsShort (forward_engine p) input half → new ≡ old → error ≡ None → IsBackRun p input half old new error
  -- the reverse DFA searches from the answer's end to its base
  Made :
      (IsShort (forward_engine p) input half → ⊥)
      → IsSearchRun Backward p.reverse (back input half) (known_of old) (known_of new) error
      → IsBackRun p input half old new error

-- the forward search alone: it fails, or it finds no match
abbrev pub IsFrontRun : Regex → Input → (old new : Cache) → Option SearchError → Type 0
IsFrontRun p input old new error =
    IsSearchRun Forward p.forward input (known_of old.forward) (known_of new.forward) error
    × (new.reverse ≡ old.reverse) × (error ≡ None → IsFound Forward p.forward input None)

-- the error after a reverse search
pub data IsErrorOfBoth (p : Regex) (input : Input) (half : Half) (failed error : Option SearchError) : Type 0 where
  -- it is the error of the reverse search, if that has one
  IsItsOwn : error ≡ failed → IsErrorOfBoth p input half failed error
  -- the reverse search finds no start, so the error is `NotAPair`
  FindsNoStart :
      failed ≡ None → IsStartFound p input half None → error ≡ Some search.NotAPair
      → IsErrorOfBoth p input half failed error

-- the forward search has an answer, and the reverse search fails or ends
pub record IsBothRun (p : Regex) (input : Input) (old new : Cache) (error : Option SearchError) : Type 0 where
  -- the forward search does not fail
  pub front : IsSearchRun Forward p.forward input (known_of old.forward) (known_of new.forward) None
  -- its answer
  pub half : Half
  -- its passes report it
  pub found : IsFound Forward p.forward input (Some half)
  -- the error of the reverse search, if that fails
  pub failed : Option SearchError
  -- what the reverse search does, if it is made
  pub back : IsBackRun p input half old.reverse new.reverse failed
  -- the error that is returned
  pub told : IsErrorOfBoth p input half failed error

-- a search for a span, by the error that it returns, if it fails
pub record IsSpanRun (p : Regex) (input : Input) (old new : Cache) (error : Option SearchError) : Type 0 where
  -- it is the forward search alone, if that fails or finds no match, and otherwise both searches
  pub run : IsFrontRun p input old new error ⊎ IsBothRun p input old new error

-- a search for the match after another: one search, or, if that finds an empty match at the last end, another from one
-- offset later
pub record IsNextRun (p : Regex) (input : Input) (last : Option ℕ) (old new : Cache) (error : Option SearchError) :
    Type 0 where
  -- it is one search, or two if the first finds an empty match at the last end
  pub run :
      (IsSpanRun p input old new error × (error ≡ None → FindsEmptyAt p input last → ⊥))
      ⊎ (FindsEmptyAt p input last
      × ((between : Cache) × IsSpanRun p input old between None
      × IsSpanRun p (from (suc input.start) input) between new error))

-- the error of an item, if it is one
abbrev pub item_error : Option (Result Match SearchError) → Option SearchError
item_error None = None
item_error (Some r) = result_err r

-- an item of an iteration is such a search; nothing changes once the iteration has ended
abbrev pub IsItemRun :
    Regex → Input → Option ℕ → (ended : Bool) → (old new : Cache) → Option (Result Match SearchError) → Type 0
IsItemRun p input last true old new item = new ≡ old
IsItemRun p input last false old new item = IsNextRun p input last old new (item_error item)

-- a search for whether there is a match is one of the forward DFA
pub record IsTruthRun (p : Regex) (input : Input) (old new : Cache) (error : Option SearchError) : Type 0 where
  -- the input that is searched
  pub asked : Input
  -- it is not earliest if offsets inside characters are skipped, and otherwise earliest
  pub is : IsAsked p.forward input asked
  -- the forward DFA searches it
  pub run : IsSearchRun Forward p.forward asked (known_of old.forward) (known_of new.forward) error
  -- the cache of the reverse DFA is unchanged
  pub reverse : new.reverse ≡ old.reverse
