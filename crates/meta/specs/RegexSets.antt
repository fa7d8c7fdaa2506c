-- The sets of patterns that answer every pattern on every haystack.
use Rattle.std.specs.Prelude.{ℕ, ◌≡◌, ◌≢◌, Bool, true, List, IsAscii}
use Rattle.std.specs.Str.{IsNotAscii}
use Rattle.regex_hir.specs.Re.{Re}
use Rattle.patterns.specs.Patterns.{AreMeanings, config_of}
use Rattle.patterns.specs.Sets.{IsDfaOf, IsSetBuiltOf, IsSetFault, IsSetOf}
use Rattle.patterns.specs.declared.compile.Options.{Options}
use Rattle.patterns.specs.declared.error.Fault.TheVariants.{Malformed, UnicodeWord}
use Rattle.patterns.specs.declared.error.PatternError.{PatternError}
use Rattle.patterns.specs.declared.set.RegexSet as dfas
use Rattle.regex_automata.specs.Promises.{IsCacheOf}
use Rattle.meta.specs.Caches.{AreRoomsOf}
use Rattle.meta.specs.Groups.{FindAllGroups}
use Rattle.meta.specs.Regexes.{with_ascii}
use Rattle.meta.specs.declared.set.RegexSet.{RegexSet}
use Rattle.meta.specs.declared.set.SetCache.{SetCache}

-- the set searches for what these patterns mean
pub record IsMetaSetOf (options : Options) (res : List Re) (set : RegexSet) : Type 0 where
  -- its DFA searches for what they mean, in ASCII text if some of them has a word boundary
  pub dfa : IsDfaOf (with_ascii set.words options) res set.set.dfa
  -- its programs find the matches
  pub programs : FindAllGroups set.programs.list.items res
  -- they search text if the options say so, otherwise bytes
  pub text : set.programs.utf8 ≡ options.utf8

-- the set searches for what these texts mean
abbrev pub IsMetaSetOfTexts : Options → (texts : List (List ℕ)) → RegexSet → Type 0
IsMetaSetOfTexts options texts set =
    (res : List Re) × AreMeanings (config_of options) texts res × IsMetaSetOf options res set

-- a set of these texts, which were compiled for ASCII text or for any, as the flag says
abbrev pub IsMadeSet : Options → (texts : List (List ℕ)) → dfas.RegexSet × Bool → Type 0
IsMadeSet options texts made =
    IsSetOf (with_ascii made.1 options) texts made.0.dfa × IsSetBuiltOf (with_ascii made.1 options) texts made.0.dfa

-- why texts have no set: they have no `patterns::RegexSet`, neither for ASCII text nor, if it is not a word boundary,
-- for any
pub record IsMetaSetFault (options : Options) (texts : List (List ℕ)) (error : PatternError) : Type 0 where
  -- whether the set is for ASCII text
  pub ascii : Bool
  -- this is why the texts have no such set
  pub fault : IsSetFault (with_ascii ascii options) texts error
  -- it is not a word boundary
  pub word : error.fault ≢ UnicodeWord
  -- nor another look that the lazy DFAs do not support
  pub look : error.fault ≢ Malformed

-- the DFA of the set may search the haystack: it is ASCII if some text has a Unicode word boundary
abbrev pub MaySearchByDfa : RegexSet → List ℕ → Type 0
MaySearchByDfa set hay = set.words ≡ true → IsAscii hay

-- it may not: some text has a Unicode word boundary, and the haystack is not ASCII
abbrev pub MustSimulateAll : RegexSet → List ℕ → Type 0
MustSimulateAll set hay = (set.words ≡ true) × IsNotAscii hay

-- the memory is of this set
abbrev pub IsSetCacheOf : SetCache → RegexSet → Type 0
IsSetCacheOf cache set =
    IsCacheOf cache.dfa set.set.dfa × AreRoomsOf cache.simulations.items set.programs.list.items
