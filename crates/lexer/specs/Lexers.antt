-- The DFA of a lexer: what it is, how it is built, and why it is not.
use Rattle.std.specs.Prelude.{ℕ, ◌≡◌, ◌⊎◌, List, Some}
use Rattle.regex_hir.specs.Re.{Re}
use Rattle.automata_base.specs.Answers.TruePairs.{KeepsUtf8}
use Rattle.automata_base.specs.Nfas.Nodes.{Automaton}
use Rattle.automata_base.specs.declared.util.search.MatchKind.{MatchKind}
use Rattle.automata_config.specs.Options as settings
use Rattle.automata_config.specs.Settling.{settling_error}
use Rattle.automata_hybrid.specs.Machines.Builds.{Builds}
use Rattle.regex_automata.specs.Promises.{Forward, KindAll, LeftmostFirst, Machine, engine_of, match_kind_of}
use Rattle.regex_automata.specs.Regexes.Builds.{IsUtf8}
use Rattle.regex_automata.specs.declared.hybrid.regex.build.RegexBuildError.{RegexBuildError}
use Rattle.regex_automata.specs.declared.hybrid.regex.build.RegexBuildError.TheVariants as is
use Rattle.patterns.specs.Faults.{IsNfaFault, IsUnbuilt}
use Rattle.patterns.specs.Patterns.{AreMeanings, IsJoinedNfa, IsNfaOf, IsWithinLimit, config_of, dfa_settings}
use Rattle.patterns.specs.declared.compile.Options.{Options}
use Rattle.patterns.specs.declared.error.Fault.TheVariants as fault
use Rattle.patterns.specs.declared.error.PatternError.{PatternError}
use Rattle.lexer.specs.declared.rules.Prefer.{Prefer}
use Rattle.lexer.specs.declared.rules.Prefer.TheVariants.{First, Longest}

-- the match kind of the DFA: it finds the match of the first rule, or the match that ends last
abbrev pub kind_for : Prefer → MatchKind
kind_for First = LeftmostFirst
kind_for Longest = KindAll

-- the settings of the DFA: those of a pattern's DFAs, with the match kind that the preference needs
abbrev pub lexer_settings : Options → Prefer → settings.Options
lexer_settings options prefer =
    settings.overwritten settings.unset (record (dfa_settings options) { match_kind = Some (kind_for prefer) })

-- the DFA searches for tokens of rules with these meanings
pub record IsLexerOf (options : Options) (prefer : Prefer) (res : List Re) (m : Machine) : Type 0 where
  -- its match kind is the one for the preference
  pub kind : match_kind_of m.config ≡ kind_for prefer
  -- its NFA answers as one that joins NFAs of what the patterns of the rules mean
  pub joined : IsJoinedNfa options res m.nfa
  -- the NFA keeps the UTF-8 promise
  pub utf8 : KeepsUtf8 Forward (engine_of m.nfa KindAll)

-- this is a DFA for tokens of rules with these texts
abbrev pub IsLexerOfTexts : Options → Prefer → (texts : List (List ℕ)) → Machine → Type 0
IsLexerOfTexts options prefer texts m =
    (res : List Re) × AreMeanings (config_of options) texts res × IsLexerOf options prefer res m

-- the DFA is built from the NFA of these texts, which is within the size limit, with the settings for the preference
pub record IsLexerBuiltOf (options : Options) (prefer : Prefer) (texts : List (List ℕ)) (m : Machine) : Type 0 where
  -- the NFA from which the DFA is built
  pub nfa : Automaton
  -- it is the NFA of the patterns of these texts
  pub of : IsNfaOf options texts nfa
  -- it is within the size limit
  pub small : IsWithinLimit options texts nfa
  -- the DFA is what the library builds from it with the settings for the preference
  pub built : Builds (lexer_settings options prefer) nfa m

-- why no such DFA is built from an NFA: in text a match might split a character, or the DFA's builder fails, or memory
-- runs out
abbrev pub IsLexerDfaError : Options → Prefer → Automaton → RegexBuildError → Type 0
IsLexerDfaError options prefer nfa is.NotUtf8 = IsUtf8 nfa → ⊥
IsLexerDfaError options prefer nfa is.OutOfMemory = Unit {0}
IsLexerDfaError options prefer nfa (is.Build error) = settling_error (lexer_settings options prefer) nfa ≡ Some error
IsLexerDfaError options prefer nfa error = ⊥

-- there is no memory for a list of the texts; the error's number is 0
abbrev pub LacksTexts : PatternError → Type 0
LacksTexts error = error ≡ record { number = 0; fault = fault.OutOfMemory }

-- why rules have no lexer: there is no memory for a list of their texts, or these have no NFA, or no DFA is built from
-- it
abbrev pub IsLexerFault : Options → Prefer → (texts : List (List ℕ)) → PatternError → Type 0
IsLexerFault options prefer texts error =
    LacksTexts error
    ⊎ (IsNfaFault options texts error ⊎ IsUnbuilt (IsLexerDfaError options prefer) options texts error)
