-- Over a sound pair, searches for spans find what the ordered paths define: one match, the next one, an item of an
-- iteration, and a list.
use Rattle.std.specs.Prelude.{ℕ, ◌≡◌, Bool, true, false, List, [], ◌∷◌, ◌++◌, Option, None, Some, Result, Ok, Err}
use Rattle.automata_base.specs.Answers.Answers.{IsInput}
use Rattle.automata_base.specs.Answers.Spans.{IsNextItem, IsSpan, from}
use Rattle.automata_base.specs.Haystacks.Input.{Input}
use Rattle.automata_base.specs.Haystacks.Matches.{Match}
use Rattle.automata_base.specs.Nfas.Engines.{Engine}
use Rattle.automata_config.specs.declared.error.SearchError.{SearchError}
use Rattle.regex_automata.specs.Regexes.SoundPairs.{IsSoundPair, forward_engine}
use Rattle.regex_automata.specs.Spans.Iteration.{AreCollected, ComesTo, GivesItem, IsNextMatch}
use Rattle.regex_automata.specs.Spans.Outcomes.{FindsMatch}
use Rattle.regex_automata.specs.declared.hybrid.regex.Regex.{Regex}

-- an item of an iteration by the ordered paths: the span of the search from the end of the previous match, or, if that
-- is empty there, of the search from one offset later; no item if there is no such span, or if the iteration has ended.
-- It says nothing about errors
abbrev pub IsItemOfPaths :
    Engine → Input → (last : Option ℕ) → (ended : Bool) → Option (Result Match SearchError) → Type 0
IsItemOfPaths d input last true item = item ≡ None
IsItemOfPaths d input last false None = IsNextItem (IsSpan d) input input.start last None
IsItemOfPaths d input last false (Some (Ok m)) = IsNextItem (IsSpan d) input input.start last (Some m)
IsItemOfPaths d input last false (Some (Err e)) = Unit {0}

-- what the passes over an input report is what its paths define
pub record SpansAreOfPaths (p : Regex) (input : Input) : Type 0 where
  -- a match is the span of the path that the forward search chose, and there is none if the search has no answer
  pub found : (answer : Option Match) → FindsMatch p input answer → IsSpan (forward_engine p) input answer
  -- the match after one that ended at `last` is the next span
  pub next :
      (last : Option ℕ) (answer : Option Match) → IsNextMatch p input last answer
      → IsNextItem (IsSpan (forward_engine p)) input input.start last answer
  -- the match of an item is the next span too, whatever input remains after it
  pub item :
      (input' : Input) (last last' : Option ℕ) (ended ended' : Bool) (item : Option (Result Match SearchError))
      → GivesItem p item input input' last last' ended ended' → IsItemOfPaths (forward_engine p) input last ended item
  -- collected matches are the spans: all of them, or the first ones if an error ended them
  pub list :
      (ms : List Match) (error : Option SearchError) → AreCollected (FindsMatch p) input ms error
      → AreCollected (IsSpan (forward_engine p)) input ms error

-- Over a sound pair, what the passes over an input report is what its paths define.
abbrev pub MatchesAreSpans : Regex → Type 0
MatchesAreSpans p = IsSoundPair p → (input : Input) → IsInput input → SpansAreOfPaths p input

-- what a loop over `find_iter` has collected, turn by turn
pub record CollectsMatches (p : Regex) (input : Input) : Type 0 where
  -- before the first item it is at the input's start, and has collected no match
  pub begin : ComesTo (FindsMatch p) input input.start None [] input.start None
  -- an item that is a match is collected, and takes the loop to its end
  pub turn :
      (ms : List Match) (at : ℕ) (last : Option ℕ) (m : Match) (input' : Input) (last' : Option ℕ) (ended ended' : Bool)
      → ComesTo (FindsMatch p) input input.start None ms at last
      → GivesItem p (Some (Ok m)) (from at input) input' last last' ended ended'
      → ComesTo (FindsMatch p) input input.start None (ms ++ m ∷ []) m.end (Some m.end)
  -- when no item remains, these are all matches
  pub all :
      (ms : List Match) (at : ℕ) (last : Option ℕ) (input' : Input) (last' : Option ℕ) (ended' : Bool)
      → ComesTo (FindsMatch p) input input.start None ms at last
      → GivesItem p None (from at input) input' last last' false ended' → AreCollected (FindsMatch p) input ms None
  -- at an error, these are the first matches
  pub first :
      (ms : List Match) (at : ℕ) (last : Option ℕ) (e : SearchError)
      → ComesTo (FindsMatch p) input input.start None ms at last → AreCollected (FindsMatch p) input ms (Some e)

-- Every loop over `find_iter` collects matches in this way, whatever the regex.
abbrev pub LoopsCollect : Type 0
LoopsCollect = (p : Regex) (input : Input) → CollectsMatches p input
