-- What every match of a pattern has in common, by the pattern's text.
use Rattle.std.specs.Prelude.{ℕ, ◌≡◌, ◌≤◌, Bool, List, [], ◌∷◌, Some, length}
use Rattle.regex_hir.specs.Find as kit
use Rattle.regex_hir.specs.Matches.{Matches}
use Rattle.regex_hir.specs.Re.{Re}
use Rattle.match_facts.specs.Facts.{AreFacts}
use Rattle.match_facts.specs.declared.Facts.{Facts}
use Rattle.meaning.specs.Patterns.{find_any}
use Rattle.patterns.specs.Faults.{IsFaultOf}
use Rattle.patterns.specs.Patterns.{IsMeaning, IsPattern, config_of}
use Rattle.patterns.specs.declared.compile.Options.{Options}
use Rattle.patterns.specs.declared.error.PatternError.{PatternError}

-- the text is a pattern, and the facts hold of every match of what it means
pub record AreFactsOf (options : Options) (text : List ℕ) (facts : Facts) : Type 0 where
  -- the text is a pattern
  pub pattern : IsPattern (config_of options) text
  -- whichever tree it is parsed to
  pub hold : (re : Re) → IsMeaning (config_of options) text re → AreFacts re facts

-- why a text has no facts, with the number 0
abbrev pub IsFactsError : Options → (text : List ℕ) → PatternError → Type 0
IsFactsError options text error = (error.number ≡ 0) × IsFaultOf options text error.fault

-- what a search for one text finds, in text or in bytes, is a match of what it means, and so has the facts of the text
abbrev pub FoundIsMatch : Type 0
FoundIsMatch =
    (utf8 : Bool) (re : Re) (hay : List ℕ) (start : ℕ) (m : kit.Match) → find_any utf8 (re ∷ []) hay start ≡ Some m
    → (m.start ≤ length hay) × Matches hay re m.start m.trace.end
