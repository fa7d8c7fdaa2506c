-- The full DFA of an NFA: the deterministic automaton of which a cache holds the states and the transitions that
-- searches have needed so far. What a call does to its cache is stated over it, whatever determinizing is: a reader who
-- asks when a cache clears, or gives up, may stop here.
use Rattle.std.specs.Prelude.{ℕ, Option}
use Rattle.automata_base.specs.Nfas.Engines.{IsSkipping}
use Rattle.automata_base.specs.Paths.Paths.{Tape}
use Rattle.automata_base.specs.Powersets.Powerset.{Powerset}
use Rattle.automata_base.specs.declared.util.search.Anchored.{Anchored}
use Rattle.automata_config.specs.Options.{match_kind_of}
use Rattle.automata_determinize.specs.Retraced.Passes.{after_units}
use Rattle.automata_determinize.specs.Retraced.Steps.{start_state_of, successor}
use Rattle.automata_hybrid.specs.Machines.Machine.{Machine, engine}

-- a deterministic automaton. Its states are powerset states: each has patterns and a cost (`Powerset.patterns` and
-- `cost`), two are compared by `powerset_eq`, and one is `dead`
pub record FullDfa : Type 1 where
  -- the start state of an anchored mode, after a look-behind byte or none
  pub start : Anchored → Option ℕ → Powerset
  -- the state to which a byte, or the end of the haystack, leads from a state
  pub step : Powerset → Option ℕ → Powerset
  -- split places are skipped
  pub skips : Type 0

-- the full DFA of a lazy DFA: the powerset automaton of its NFA under its match kind
abbrev pub full_dfa : Machine → FullDfa
full_dfa m = record {
  start = start_state_of m.nfa;
  step = successor m.nfa (match_kind_of m.config);
  skips = IsSkipping (engine m);
}

-- the state of a full DFA after the first `k` units of a tape
unfoldable pub state_on : FullDfa → Anchored → Tape → (k : ℕ) → Powerset
state_on d mode t k = after_units (d.start mode t.before) d.step t k
