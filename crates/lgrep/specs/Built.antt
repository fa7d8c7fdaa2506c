-- The settings with which the DFAs of a grep are built.
use Rattle.std.specs.Prelude.{ℕ, Bool, true, Some}
use Rattle.automata_base.specs.Nfas.Nodes.{Automaton}
use Rattle.automata_base.specs.declared.util.search.MatchKind.{MatchKind}
use Rattle.automata_config.specs.Options.{Options, unset}
use Rattle.automata_hybrid.specs.Machines.Builds.{Builds}
use Rattle.regex_automata.specs.Promises.{KindAll, LeftmostFirst}
use Rattle.regex_automata.specs.Regexes.Builds.{BuildsOne}
use Rattle.patterns.specs.Patterns.{settings_with}
use Rattle.lgrep.specs.Lines.{bytewise}
use Rattle.lgrep.specs.declared.search.Grep.{Grep}
use Rattle.lgrep.specs.declared.view.View.{View}
use Rattle.lgrep.specs.declared.view.View.TheVariants as view

-- the settings of a DFA of a grep: which matches it reports, and the capacity of its caches, in bytes, which is raised
-- to the minimum if it is smaller. With no quit bytes and no clear limit, a search neither quits nor gives up.
abbrev pub grep_settings : MatchKind → (capacity : ℕ) → Options
grep_settings kind capacity = record unset {
  match_kind = Some kind;
  cache_capacity = Some capacity;
  skip_cache_capacity_check = Some true;
}

-- the searcher for what is shown of lines is built from an NFA with the settings of a grep
abbrev pub IsViewBuilt : (case_insensitive : Bool) (capacity : ℕ) → Automaton → View → Type 0
IsViewBuilt case_insensitive capacity nfa view.Whole = Unit {0}
IsViewBuilt case_insensitive capacity nfa (view.Matches s) =
    BuildsOne (settings_with (grep_settings LeftmostFirst capacity) (bytewise case_insensitive)) nfa s.pattern.regex
IsViewBuilt case_insensitive capacity nfa (view.Which s) = Builds (grep_settings KindAll capacity) nfa s.set.dfa
IsViewBuilt case_insensitive capacity nfa (view.Replaced r) =
    BuildsOne (settings_with (grep_settings LeftmostFirst capacity) (bytewise case_insensitive)) nfa r.pattern.regex
IsViewBuilt case_insensitive capacity nfa (view.Replacements r) =
    BuildsOne (settings_with (grep_settings LeftmostFirst capacity) (bytewise case_insensitive)) nfa r.pattern.regex

-- the searchers of a grep are built from an NFA with the settings of a grep
pub record IsGrepBuilt (case_insensitive : Bool) (capacity : ℕ) (nfa : Automaton) (grep : Grep) : Type 0 where
  -- the DFA that searches the lines
  pub lines : Builds (grep_settings LeftmostFirst capacity) nfa grep.lines.dfa
  -- the searcher for what is shown of them
  pub view : IsViewBuilt case_insensitive capacity nfa grep.view
