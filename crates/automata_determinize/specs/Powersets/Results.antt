-- The results of the powerset construction.
use Rattle.std.specs.Prelude.{ℕ, ◌≡◌, ◌≤◌, length, List, Option}
use Rattle.automata_determinize.specs.Powersets.Accounting.{max_cost}
use Rattle.automata_base.specs.Powersets.Cuts.{IsOnce}
use Rattle.automata_base.specs.declared.util.search.MatchKind.{MatchKind}
use Rattle.automata_base.specs.declared.util.search.Anchored.{Anchored}
use Rattle.automata_base.specs.Lists.{pick, Distinct}
use Rattle.automata_base.specs.Nfas.Nfa.{accepts}
use Rattle.automata_base.specs.Nfas.Nodes.{Automaton, nfa_of}
use Rattle.automata_determinize.specs.Powersets.Passes.{IsClosureOf, IsSuccessor}
use Rattle.automata_base.specs.Powersets.Powerset.{Powerset, cost}
use Rattle.automata_determinize.specs.Paths.Starts.{IsOf, IsStartOf, NeedsOwnLooks}
use Rattle.automata_determinize.specs.Retraced.Steps.{start_state_of, successor}
use Rattle.automata_determinize.specs.Answers.Within.{ReportsOwn}

-- the powerset state where the searches of a mode start after a byte, or after none
pub record IsStartMade (a : Automaton) (mode : Anchored) (prev : Option ℕ) (made : Powerset) : Type 0 where
  -- it is the start state by definition
  pub start : IsStartOf a mode prev made
  -- it is what the function returns that contracts name
  pub same : made ≡ start_state_of a mode prev
  -- its patterns are the automaton's
  pub own : ReportsOwn a made
  -- the looks that it needs are the automaton's
  pub looks : NeedsOwnLooks a made
  -- its NFA states are states of the automaton
  pub is_of : IsOf a made
  -- it costs no more than any state of the automaton may
  pub bounded : cost made ≤ max_cost a

-- the powerset state that another leads to on a unit
pub record IsStepMade (a : Automaton) (kind : MatchKind) (from : Powerset) (unit : Option ℕ)
    (made : Powerset) : Type 0 where
  -- it is the successor by definition
  pub step : IsSuccessor (nfa_of a) kind from unit made
  -- it is what the function returns that contracts name
  pub same : made ≡ successor a kind from unit
  -- its patterns are the automaton's
  pub own : ReportsOwn a made
  -- the looks that it needs are the automaton's
  pub looks : NeedsOwnLooks a made
  -- its NFA states are states of the automaton
  pub is_of : IsOf a made
  -- it costs no more than any state of the automaton may
  pub bounded : cost made ≤ max_cost a

-- the patterns that the states of a list match
pub record AreMatched (a : Automaton) (list patterns : List ℕ) : Type 0 where
  -- they are in the order of the list, each at its first occurrence
  pub once : IsOnce (pick (accepts (nfa_of a)) list) patterns
  -- no pattern repeats
  pub distinct : Distinct patterns
  -- there are at most as many as the automaton has
  pub few : length patterns ≤ length a.start_pattern

-- the powerset state that has these patterns, and the NFA states of the closure of the roots after a unit
pub record IsClosureMade (a : Automaton) (matched roots : List ℕ) (unit : Option ℕ) (made : Powerset) : Type 0 where
  -- it is this state by definition
  pub closure : IsClosureOf (nfa_of a) matched roots unit made
  -- it has these patterns
  pub patterns : made.patterns ≡ matched
  -- its NFA states are states of the automaton
  pub is_of : IsOf a made
  -- it has at most as many of them as the automaton
  pub few : length made.nfa ≤ length a.states
