-- What NFAs and regexes of patterns are: each text is parsed to a tree, and its NFA finds what the tree means.
use Rattle.std.specs.Prelude.{ℕ, ◌≡◌, ◌+◌, ◌*◌, ◌≤◌, ◌↔◌, true, false, List, [], ◌∷◌, length, Option, Some, IsAscii}
use Rattle.std.specs.Prelude.{IsUtf8}
use Rattle.regex_hir.specs.Re.{Re}
use Rattle.regex_hir.specs.Meaning.{meaning}
use Rattle.regex_hir.specs.declared.hir.Hir as kit_hir
use Rattle.regex_nfa.specs.declared.nfa.Nfa as kit_nfa
use Rattle.regex_syntax.specs.declared.Config.{Config}
use Rattle.regex_syntax.specs.Verdict.{Reads}
use Rattle.automata_transform.specs.Answers.Alike.{AnswerAlike}
use Rattle.automata_transform.specs.Nfas.AnchoredNfas.{AssertsStart}
use Rattle.automata_base.specs.Answers.TruePairs.{KeepsUtf8}
use Rattle.automata_base.specs.Laws.Walks.{IsAccepted}
use Rattle.automata_base.specs.Nfas.Getters.{IsAlwaysStartAnchored}
use Rattle.automata_base.specs.Nfas.Nodes.{Automaton}
use Rattle.automata_base.specs.Paths.Selections.{Pair}
use Rattle.automata_base.specs.declared.util.search.MatchKind.{MatchKind}
use Rattle.automata_config.specs.Options as settings
use Rattle.regex_automata.specs.Promises.{Forward, Input, IsHaystack, IsLookAcyclic, IsSoundPair, LeftmostFirst}
use Rattle.regex_automata.specs.Promises.{engine_of, match_kind_of, nfa_of}
use Rattle.regex_automata.specs.Regexes.Builds.{BuildsOne}
use Rattle.regex_automata.specs.declared.hybrid.regex.Regex.{Regex}
use Rattle.meaning.specs.Agreeing.{Each, HasNoUnicodeLook, ImplementAll}
use Rattle.meaning.specs.Translated.{joined_engine}
use Rattle.patterns.specs.declared.compile.Options.{Options}

-- the options of `Options::default`
abbrev pub default_options : Options
default_options = record {
  unicode = true;
  case_insensitive = false;
  multi_line = false;
  dot_matches_new_line = false;
  crlf = false;
  swap_greed = false;
  ignore_whitespace = false;
  octal = false;
  utf8 = true;
  ascii = false;
  size_limit = 10485760;
  nest_limit = 250;
  cache_capacity = 8388608;
  cache_limit = 268435456;
}

-- the parser's configuration for these options: each flag, and the limit on nesting, is the option of its name
abbrev pub config_of : Options → Config
config_of options = record {
  flags = record {
    case_insensitive = options.case_insensitive;
    multi_line = options.multi_line;
    dot_matches_new_line = options.dot_matches_new_line;
    swap_greed = options.swap_greed;
    unicode = options.unicode;
    crlf = options.crlf;
    ignore_whitespace = options.ignore_whitespace;
  };
  octal = options.octal;
  utf8 = options.utf8;
  nest_limit = options.nest_limit;
}

-- the text is parsed to a tree, whose meaning this is
abbrev pub IsMeaning : Config → (text : List ℕ) → Re → Type 0
IsMeaning config text re =
    (hir : kit_hir.Hir) × (names : List (Option (List ℕ))) × Reads config text hir names × (re ≡ meaning hir)

-- the text is a pattern: the parser reads it
abbrev pub IsPattern : Config → (text : List ℕ) → Type 0
IsPattern config text = (re : Re) × IsMeaning config text re

-- the meanings of these texts, in their order
abbrev pub AreMeanings : Config → (texts : List (List ℕ)) → List Re → Type 0
AreMeanings config [] [] = Unit {0}
AreMeanings config [] (re ∷ res) = ⊥
AreMeanings config (text ∷ texts) [] = ⊥
AreMeanings config (text ∷ texts) (re ∷ res) = IsMeaning config text re × AreMeanings config texts res

-- some NFAs of the kit find what the patterns mean; they have no Unicode look, unless the text is ASCII
abbrev pub AreNfasOf : Options → List kit_nfa.Nfa → List Re → Type 0
AreNfasOf options ks res = ImplementAll ks res × Each (λ k. options.ascii ≡ false → HasNoUnicodeLook k) ks

-- no cycle of epsilon transitions passes a look: such an NFA keeps its cycles without keeping unions
abbrev pub HasNoLookCycle : Automaton → Type 0
HasNoLookCycle nfa = IsLookAcyclic (nfa_of nfa)

-- if each path passes `Look::Start` before it reads a byte or matches, unanchored searches begin at the anchored start:
-- they skip no bytes
abbrev pub BeginsAnchoredIfItMay : Automaton → Type 0
BeginsAnchoredIfItMay nfa = AssertsStart nfa → IsAlwaysStartAnchored nfa

-- the second NFA answers as the first one: every search, walk and iteration finds the same
pub record AnswersAs (first second : Automaton) : Type 0 where
  -- under each match kind, all searches find the same
  pub alike : (kind : MatchKind) → AnswerAlike (engine_of first kind) (engine_of second kind)
  -- paths of the same patterns end at the same offsets
  pub ends :
      (input : Input) (pair : Pair) → IsHaystack input.haystack
      → IsAccepted Forward first input first.start_unanchored pair
      ↔ IsAccepted Forward second input second.start_unanchored pair
  -- both keep the UTF-8 promise, or neither does
  pub utf8 : (kind : MatchKind) → KeepsUtf8 Forward (engine_of first kind) ↔ KeepsUtf8 Forward (engine_of second kind)
  -- both have the same number of patterns
  pub count : length first.start_pattern ≡ length second.start_pattern

-- the NFA answers as one that joins NFAs, each of which finds what one of these patterns means
pub record IsJoinedNfa (options : Options) (res : List Re) (nfa : Automaton) : Type 0 where
  -- the NFAs of the kit
  pub ks : List kit_nfa.Nfa
  -- they find what the patterns mean
  pub nfas : AreNfasOf options ks res
  -- the NFA that joins them
  pub joined : Automaton
  -- it has their states and starts
  pub joins : engine_of joined LeftmostFirst ≡ joined_engine options.utf8 ks
  -- the NFA answers as the joined one
  pub answers : AnswersAs joined nfa
  -- no cycle of epsilon transitions passes a look
  pub acyclic : HasNoLookCycle nfa
  -- it does not keep unions, since it does not need to
  pub unions : nfa.keeps_unions ≡ false

-- this is the NFA of the patterns of these texts
abbrev pub IsNfaOf : Options → (texts : List (List ℕ)) → Automaton → Type 0
IsNfaOf options texts nfa =
    (res : List Re) × AreMeanings (config_of options) texts res × IsJoinedNfa options res nfa

-- at 12 bytes each, the states take at most the size limit, plus 24 bytes for each pattern, plus 36 bytes for the three
-- states that join the patterns
abbrev pub IsWithinLimit : Options → (texts : List (List ℕ)) → Automaton → Type 0
IsWithinLimit options texts nfa = 12 * length nfa.states ≤ options.size_limit + 24 * length texts + 36

-- what the options decide of the settings of a DFA: Unicode word boundaries if the text is ASCII, and the capacity of
-- its caches, which is raised to four times the minimum as far as the limit allows (`capacity_for` of the settings)
abbrev pub dfa_settings : Options → settings.Options
dfa_settings options = record settings.unset {
  unicode_word_boundary = Some options.ascii;
  cache_capacity = Some options.cache_capacity;
  cache_limit = Some options.cache_limit;
}

-- the settings of the DFAs: those that the options decide, and otherwise the library's defaults
abbrev pub settings_of : Options → settings.Options
settings_of options = settings.overwritten settings.unset (dfa_settings options)

-- these settings, except for the match kind, which is `MatchKind::LeftmostFirst`, and for Unicode word boundaries,
-- which the options decide
abbrev pub settings_with : settings.Options → Options → settings.Options
settings_with config options = settings.overwritten settings.unset
    (record config { match_kind = Some LeftmostFirst; unicode_word_boundary = Some options.ascii })

-- the regex is a sound pair that searches for what the patterns mean
pub record IsRegexOf (options : Options) (res : List Re) (regex : Regex) : Type 0 where
  -- its two DFAs are a sound pair
  pub sound : IsSoundPair regex
  -- the match kind of the forward DFA is `MatchKind::LeftmostFirst`
  pub kind : match_kind_of regex.forward.config ≡ LeftmostFirst
  -- its NFA answers as one that joins NFAs of what these patterns mean
  pub joined : IsJoinedNfa options res regex.forward.nfa

-- this is a regex of the patterns of these texts
abbrev pub IsRegexOfTexts : Options → (texts : List (List ℕ)) → Regex → Type 0
IsRegexOfTexts options texts regex =
    (res : List Re) × AreMeanings (config_of options) texts res × IsRegexOf options res regex

-- the regex is built from the NFA of these texts, which is within the size limit, with the settings of these options
pub record IsBuiltOf (options : Options) (texts : List (List ℕ)) (regex : Regex) : Type 0 where
  -- the NFA from which the regex is built
  pub nfa : Automaton
  -- it is the NFA of the patterns of these texts
  pub of : IsNfaOf options texts nfa
  -- it is within the size limit
  pub small : IsWithinLimit options texts nfa
  -- the regex is what the library builds from it with the settings of these options
  pub built : BuildsOne (settings_of options) nfa regex

-- the haystack is valid UTF-8 if the options search text, and ASCII if they say that it is
abbrev pub IsFor : Options → List ℕ → Type 0
IsFor options hay = (options.utf8 ≡ true → IsUtf8 hay) × (options.ascii ≡ true → IsAscii hay)
