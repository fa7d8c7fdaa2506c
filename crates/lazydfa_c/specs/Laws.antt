-- Laws that callers cite: what searches find, by what texts mean.
use Rattle.std.specs.Prelude.{ℕ, ◌≡◌, ◌≤◌, true, List, Ok, Some, length, option_map}
use Rattle.automata_config.specs.Options as settings
use Rattle.regex_hir.specs.Re.{Re}
use Rattle.meaning.specs.Patterns.{find_any, numbered_match}
use Rattle.meta.specs.Groups.{FindAllGroups}
use Rattle.meta.specs.Regexes.{IsTextFor}
use Rattle.meta.specs.declared.program.Programs.{Programs}
use Rattle.patterns.specs.Patterns.{AreMeanings, IsRegexOf, config_of}
use Rattle.patterns.specs.Searches.{rest_from}
use Rattle.patterns.specs.declared.compile.Options.{Options}
use Rattle.regex_automata.specs.Promises.{IsHaystack, LeftmostFirst}
use Rattle.lazydfa_c.specs.Calls.{IsTold, regex_of}
use Rattle.lazydfa_c.specs.Programs.{contents_of, programs_of}
use Rattle.lazydfa_c.specs.Requests.{found_from}
use Rattle.lazydfa_c.specs.Texts.{HoldsTexts, reading_for, reading_of, texts_in}
use Rattle.lazydfa_c.specs.Words.{FindsMatchOf}
use Rattle.lazydfa_c.specs.declared.handle.Handle.{Handle}
use Rattle.lazydfa_c.specs.declared.input.Found.{Found}
use Rattle.lazydfa_c.specs.declared.object.Searcher.{Searcher}
use Rattle.lazydfa_c.specs.declared.settings.Settings.{Settings}
use Rattle.lazydfa_c.specs.declared.status.Status.{Status}
use Rattle.lazydfa_c.specs.declared.text.TextOptions.{TextOptions}

-- the cache belongs to a regex of texts with these meanings, of which some has a Unicode word boundary
pub record IsCacheOfWords (options : Options) (res : List Re) (s : Searcher) : Type 0 where
  -- the regex is one of such texts
  pub words : s.shared.words ≡ true
  -- its DFAs search for what the texts mean, in ASCII haystacks
  pub regex : IsRegexOf (reading_for true options) res (regex_of s)
  -- its programs
  pub programs : Programs
  -- the regex shares them
  pub shared : programs_of s.shared ≡ Some programs
  -- they find what the texts mean
  pub find : FindAllGroups programs.list.items res
  -- they search text if the options say so, otherwise bytes
  pub text : programs.utf8 ≡ options.utf8

-- `lazydfa_find` from an offset on, over a regex of texts with a Unicode word boundary, does not fail, and reports what
-- the texts mean, in every haystack; if text is searched, in every haystack that is valid UTF-8.
abbrev pub WordsAreMeant : Type 0
WordsAreMeant =
    (options : Options) (res : List Re) (s t : Searcher) (hay : List ℕ) (at : ℕ) (found : Found) (status : Status)
    → IsCacheOfWords options res s → IsHaystack hay → IsTextFor options hay → at ≤ length hay
    → FindsMatchOf found (rest_from hay at) s t status
    → IsTold found_from found (Ok (option_map (numbered_match res hay) (find_any options.utf8 res hay at))) status

-- A cache of the regex that a handle was opened on for texts, of which some has a Unicode word boundary, is one of such
-- texts, if the regex does not only search forward and the match kind is `MatchKind::LeftmostFirst`.
abbrev pub BuiltWordsAreSearched : Type 0
BuiltWordsAreSearched =
    (o : settings.Options) (options : TextOptions) (with : Settings) (bytes lengths : List ℕ) (handle : Handle)
    (s : Searcher) (h : HoldsTexts o options with bytes lengths handle)
    → h.words ≡ true → options.forward_only ≡ 0 → settings.match_kind_of o ≡ LeftmostFirst
    → contents_of s.shared ≡ h.holds.contents
    → (res : List Re) × AreMeanings (config_of (reading_of options with)) (texts_in bytes lengths) res
    × IsCacheOfWords (reading_of options with) res s
