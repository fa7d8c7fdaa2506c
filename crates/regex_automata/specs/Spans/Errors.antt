-- Why a search over two lazy DFAs fails.
use Rattle.std.specs.Prelude.{ℕ, suc, ◌≡◌, ◌⊎◌, Option, true, None, Some}
use Rattle.automata_base.specs.Answers.Answers.{Half}
use Rattle.automata_base.specs.Haystacks.Input.{Input}
use Rattle.automata_base.specs.Haystacks.Matches.{Match}
use Rattle.automata_base.specs.Answers.Spans.{IsEmptyAt, IsShort, IsTrySearch, NotAPair, back, from}
use Rattle.automata_base.specs.declared.util.search.Direction.TheVariants.{Forward, Backward}
use Rattle.automata_base.specs.declared.util.search.MatchErrorKind.TheVariants.{Quit as QuitAt}
use Rattle.automata_config.specs.declared.error.SearchError.{SearchError}
use Rattle.automata_config.specs.declared.error.SearchError.TheVariants as search
use Rattle.automata_hybrid.specs.Known.Known.{Known}
use Rattle.automata_hybrid.specs.Known.Passes.{SearchFails}
use Rattle.automata_hybrid.specs.Known.Stores.{known_of}
use Rattle.automata_hybrid.specs.Searches.Contracts.{IsOfInput}
use Rattle.automata_hybrid.specs.Searches.Passes.{IsFound, NoQuitInReach}
use Rattle.automata_hybrid.specs.Machines.StartSlots.{supports}
use Rattle.regex_automata.specs.declared.hybrid.regex.Regex.{Regex}
use Rattle.regex_automata.specs.Regexes.SoundPairs.{BothKeepCycles, IsSoundPair, forward_engine, reverse_engine}
use Rattle.regex_automata.specs.Spans.Outcomes.{FindsMatch, IsOutcome}
use Rattle.regex_automata.specs.declared.hybrid.regex.caches.Cache.{Cache}
use Rattle.automata_config.specs.Options.{minimum_cache_clear_count_of}

-- the reverse search from a forward answer is made, and fails
abbrev pub IsBackError : Regex → (old new : Known) → Input → Half → SearchError → Type 0
IsBackError p old new input half e =
    (IsShort (forward_engine p) input half → ⊥) × SearchFails Backward p.reverse (back input half) old new e

-- why a search for a span fails: one of its passes fails, at its start or at a unit, by what its cache knew before and
-- knows afterwards
pub data HasReason (p : Regex) (old new : Cache) (input : Input) (e : SearchError) : Type 0 where
  -- the forward search fails
  FrontFails :
      SearchFails Forward p.forward input (known_of old.forward) (known_of new.forward) e → HasReason p old new input e
  -- the forward search finds this end, and the reverse search from it fails
  BackFails :
      (half : Half) → IsFound Forward p.forward input (Some half)
      → IsBackError p (known_of old.reverse) (known_of new.reverse) input half e → HasReason p old new input e
  -- the reverse search finds no start
  NoStart : e ≡ search.NotAPair → IsOutcome p input NotAPair → HasReason p old new input e

-- nothing prevents an answer: no quit byte is in reach, the anchored mode is supported, no clear limit is set
pub record IsFree (p : Regex) (input : Input) : Type 0 where
  -- no quit byte of the forward DFA is in reach
  pub forward : NoQuitInReach p.forward input
  -- no quit byte of the reverse DFA is in reach
  pub reverse : NoQuitInReach p.reverse input
  -- the forward DFA supports the anchored mode
  pub supported : supports p.forward input.anchored ≡ true
  -- no limit on clears is set for the forward DFA
  pub forward_clears : minimum_cache_clear_count_of p.forward.config ≡ None
  -- no limit on clears is set for the reverse DFA
  pub reverse_clears : minimum_cache_clear_count_of p.reverse.config ≡ None

-- the error is out of memory or `NotAPair`
abbrev pub IsOfMemory : SearchError → Type 0
IsOfMemory e = (e ≡ search.OutOfMemory) ⊎ (e ≡ search.NotAPair)

-- why a search fails, and what that excludes
pub record IsRegexError (p : Regex) (old new : Cache) (input : Input) (e : SearchError) : Type 0 where
  -- the forward search fails, or the reverse search fails, or it finds no start
  pub reason : HasReason p old new input e
  -- if nothing prevents an answer, the error is out of memory or `NotAPair`
  pub free : IsFree p input → IsOfMemory e
  -- if both NFAs keep their cycles, `NotAPair` is also the outcome by the ordered paths
  pub apart : BothKeepCycles p → e ≡ search.NotAPair → IsTrySearch (forward_engine p) (reverse_engine p) input NotAPair
  -- over a sound pair the error is never `NotAPair`
  pub sound : IsSoundPair p → e ≡ search.NotAPair → ⊥
  -- if both DFAs have the same quit bytes, only the forward search fails because of one
  pub quits : p.forward.quits ≡ p.reverse.quits → (byte at : ℕ) → e ≡ search.Match (QuitAt byte at)
      → SearchFails Forward p.forward input (known_of old.forward) (known_of new.forward) e

-- why the search for the next match fails
pub data IsNextError (p : Regex) (old new : Cache) (input : Input) (last : Option ℕ) (e : SearchError) : Type 0 where
  -- the search of the remaining input fails
  FailsHere : IsRegexError p old new input e → IsNextError p old new input last e
  -- that search finds an empty match at the last end, and the one from one offset later fails, over the caches that it
  -- left
  FailsLater :
      (m : Match) → FindsMatch p input (Some m) → IsEmptyAt last m
      → (between : Cache) → IsRegexError p between new (from (suc input.start) input) e
      → IsNextError p old new input last e

-- the search fails because of its input or its DFAs, and not for lack of room or memory
abbrev pub IsOfGiven : SearchError → Type 0
IsOfGiven e = IsOfInput e ⊎ (e ≡ search.NotAPair)
