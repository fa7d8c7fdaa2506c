-- The regexes that answer every pattern on every haystack.
use Rattle.std.specs.Prelude.{ℕ, ◌≡◌, ◌≢◌, Bool, true, List, IsAscii, IsUtf8, Result, Ok, Err}
use Rattle.std.specs.Str.{IsNotAscii}
use Rattle.regex_hir.specs.Re.{Re}
use Rattle.automata_config.specs.declared.error.SearchError.{SearchError}
use Rattle.regex_automata.specs.declared.hybrid.regex.caches.Cache as dfas
use Rattle.patterns.specs.Faults.{IsPatternFault}
use Rattle.patterns.specs.Patterns.{AreMeanings, IsBuiltOf, IsRegexOf, IsRegexOfTexts, config_of}
use Rattle.patterns.specs.declared.compile.Options.{Options}
use Rattle.patterns.specs.declared.error.Fault.TheVariants.{Malformed, UnicodeWord}
use Rattle.patterns.specs.declared.error.PatternError.{PatternError}
use Rattle.patterns.specs.declared.pattern.Pattern.{Pattern}
use Rattle.meta.specs.Groups.{FindAllGroups}
use Rattle.meta.specs.declared.regexes.Regex.{Regex}

-- these options, for ASCII text or for any
abbrev pub with_ascii : (ascii : Bool) → Options → Options
with_ascii ascii options = record options { ascii = ascii }

-- the regex searches for what these patterns mean, and finds the groups
pub record IsMetaRegexOf (options : Options) (res : List Re) (regex : Regex) : Type 0 where
  -- its pattern searches for what they mean, in ASCII text if some of them has a word boundary
  pub pattern : IsRegexOf (with_ascii regex.words options) res regex.pattern.regex
  -- its programs find the matches and their groups
  pub programs : FindAllGroups regex.programs.list.items res
  -- they search text if the options say so, otherwise bytes
  pub text : regex.programs.utf8 ≡ options.utf8

-- the regex searches for what these texts mean, and finds the groups
abbrev pub IsMetaRegexOfTexts : Options → (texts : List (List ℕ)) → Regex → Type 0
IsMetaRegexOfTexts options texts regex =
    (res : List Re) × AreMeanings (config_of options) texts res × IsMetaRegexOf options res regex

-- a pattern of these texts, which were compiled for ASCII text or for any, as the flag says
abbrev pub IsMadePattern : Options → (texts : List (List ℕ)) → Pattern × Bool → Type 0
IsMadePattern options texts made =
    IsRegexOfTexts (with_ascii made.1 options) texts made.0.regex
    × IsBuiltOf (with_ascii made.1 options) texts made.0.regex

-- why texts have no regex: they have no `Pattern`, neither for ASCII text nor, if it is not a word boundary, for any
pub record IsMetaFault (options : Options) (texts : List (List ℕ)) (error : PatternError) : Type 0 where
  -- whether the pattern is for ASCII text
  pub ascii : Bool
  -- this is why the texts have no such pattern
  pub fault : IsPatternFault (with_ascii ascii options) texts error
  -- it is not a word boundary
  pub word : error.fault ≢ UnicodeWord
  -- nor another look that the lazy DFAs do not support
  pub look : error.fault ≢ Malformed

-- the haystack is valid UTF-8 if the options search text
abbrev pub IsTextFor : Options → List ℕ → Type 0
IsTextFor options hay = options.utf8 ≡ true → IsUtf8 hay

-- the lazy DFAs of the regex may search the haystack: it is ASCII if some text has a Unicode word boundary
abbrev pub MaySearchByDfas : Regex → List ℕ → Type 0
MaySearchByDfas regex hay = regex.words ≡ true → IsAscii hay

-- they may not: some text has a Unicode word boundary, and the haystack is not ASCII
abbrev pub MustSimulate : Regex → List ℕ → Type 0
MustSimulate regex hay = (regex.words ≡ true) × IsNotAscii hay

-- How a search is answered. `Searches r` says what a search by the lazy DFAs does that returns `r`.
pub data IsMetaAnswer {A : Type 0} (regex : Regex) (hay : List ℕ) (old new : dfas.Cache)
    (Searches : Result A SearchError → Type 0) (answer : A) : Type 0 where
  -- the lazy DFAs answer it
  ByDfas : Searches (Ok answer) → IsMetaAnswer regex hay old new Searches answer
  -- the lazy DFAs fail, and a simulation answers it
  AfterError : (error : SearchError) → Searches (Err error) → IsMetaAnswer regex hay old new Searches answer
  -- the lazy DFAs may not search the haystack: a simulation answers it
  BySimulation : MustSimulate regex hay → new ≡ old → IsMetaAnswer regex hay old new Searches answer
