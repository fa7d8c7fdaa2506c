-- The matches of an input, one after another.
use Rattle.std.specs.Prelude.{ℕ, ◌≡◌, ◌+◌, ◌-◌, ◌<◌, ◌≤◌, ◌==◌, Bool, true, false, cond, List, [], ◌∷◌}
use Rattle.std.specs.Prelude.{◌++◌, length}
use Rattle.std.specs.Prelude.{Option, None, Some, Result, Ok, Err, IfOk, IfSome, MatchOption}
use Rattle.automata_base.specs.Haystacks.Input.{Input}
use Rattle.automata_base.specs.Haystacks.Matches.{Match}
use Rattle.automata_base.specs.declared.util.search.Anchored.{Anchored}
use Rattle.automata_base.specs.Answers.Spans.{AreFirst, AreMatches, IsEmptyAt, IsNextItem, from}
use Rattle.automata_config.specs.declared.error.SearchError.{SearchError}
use Rattle.regex_automata.specs.Spans.Outcomes.{FindsMatch, MatchLiesIn}
use Rattle.regex_automata.specs.declared.hybrid.regex.Regex.{Regex}

-- the search finds an empty match at the last end, so it is made again from one offset later
abbrev pub FindsEmptyAt : Regex → Input → Option ℕ → Type 0
FindsEmptyAt p input last = (m : Match) × FindsMatch p input (Some m) × IsEmptyAt last m

-- the match after one that ended at `last`, which is not an empty match there
abbrev pub IsNextMatch : Regex → Input → Option ℕ → Option Match → Type 0
IsNextMatch p input last answer = IsNextItem (FindsMatch p) input input.start last answer

-- a match ends after the last end
abbrev pub GoesPast : Regex → Input → Option ℕ → Match → Type 0
GoesPast p input last m = MatchLiesIn p input m × (last ≡ Some input.start → input.start < m.end)

-- the match of an item may be sliced from the haystack
abbrev pub LiesInHaystack : List ℕ → Option (Result Match SearchError) → Type 0
LiesInHaystack haystack item =
    IfSome item (λ r. IfOk r (λ (m : Match). (m.start ≤ m.end) × (m.end ≤ length haystack)))

-- an iteration stays where it is, and has ended
pub record StaysEnded (input input' : Input) (last last' : Option ℕ) (ended' : Bool) : Type 0 where
  -- the remaining input is the same
  pub rest : input' ≡ input
  -- the last match ended at the same offset
  pub place : last' ≡ last
  -- the iteration has ended
  pub over : ended' ≡ true

-- an iteration returns a match, and continues from its end
pub record PassesMatch (p : Regex) (m : Match) (input input' : Input) (last last' : Option ℕ) (ended' : Bool) :
    Type 0 where
  -- it is the match after the one that ended at `last`
  pub next : IsNextMatch p input last (Some m)
  -- it lies in the remaining span, and its pattern is one of the NFAs'
  pub within : MatchLiesIn p input m
  -- the remaining input starts at its end
  pub rest : input' ≡ from m.end input
  -- the last match ended at its end
  pub place : last' ≡ Some m.end
  -- the iteration has not ended
  pub going : ended' ≡ false

-- one item of an iteration, and the iteration before and after it: the remaining input, the end of the last match, and
-- whether it has ended
abbrev pub GivesItem :
    Regex → Option (Result Match SearchError) → (input input' : Input) → (last last' : Option ℕ)
    → (ended ended' : Bool) → Type 0
GivesItem p item input input' last last' true ended' = (item ≡ None) × StaysEnded input input' last last' ended'
GivesItem p None input input' last last' false ended' =
    IsNextMatch p input last None × StaysEnded input input' last last' ended'
GivesItem p (Some (Ok m)) input input' last last' false ended' = PassesMatch p m input input' last last' ended'
GivesItem p (Some (Err e)) input input' last last' false ended' = StaysEnded input input' last last' ended'

-- the input with these parts
abbrev pub input_over : List ℕ → (start end : ℕ) → Anchored → (earliest : Bool) → Input
input_over haystack start end anchored earliest =
    record { haystack = haystack; start = start; end = end; anchored = anchored; earliest = earliest }

-- an upper bound on the number of remaining items
abbrev pub most_items : (ended : Bool) → Input → Option ℕ → ℕ
most_items true input last = 0
most_items false input None = input.end + 2 - input.start
most_items false input (Some end) =
    cond (end == input.start) (input.end + 1 - input.start) (input.end + 2 - input.start)

-- the first matches of an iteration, and where it is after them
abbrev pub ComesTo : (Finds : Input → Option Match → Type 0) → Input → ℕ → Option ℕ → List Match → ℕ → Option ℕ → Type 0
ComesTo Finds input start last [] start' last' = (start ≡ start') × (last ≡ last')
ComesTo Finds input start last (m ∷ ms) start' last' =
    IsNextItem Finds input start last (Some m) × ComesTo Finds input m.end (Some m.end) ms start' last'

-- all matches of an input, or the first ones and the error that ended them
abbrev pub AreCollected : (Finds : Input → Option Match → Type 0) → Input → List Match → Option SearchError → Type 0
AreCollected Finds input ms error =
    MatchOption error (AreMatches Finds input input.start None ms) (λ e. AreFirst Finds input input.start None ms)

-- the first list of matches is a prefix of the second
abbrev pub IsBeginning : List Match → List Match → Type 0
IsBeginning ms all = (rest : List Match) × (all ≡ ms ++ rest)
