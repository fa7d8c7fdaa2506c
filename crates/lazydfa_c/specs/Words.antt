-- Searches for patterns with a Unicode word boundary. The lazy DFAs decide one only in an ASCII haystack. In any other,
-- and where a search of the DFAs fails, the programs of the regex find the matches.
use Rattle.std.specs.Prelude.{ℕ, ◌≡◌, ◌⊎◌, ◌==◌, ◌&&◌, not, nat_le, Bool, true, false, IsAscii, List, length}
use Rattle.std.specs.Prelude.{Option, Some, None, Ok, is_some, option_map}
use Rattle.std.specs.Str.{IsNotAscii}
use Rattle.regex_hir.specs.Find as kit
use Rattle.regex_hir.specs.Re.{Re}
use Rattle.automata_base.specs.Answers.Spans.{IsNextItem}
use Rattle.automata_base.specs.declared.util.search.Anchored.{Anchored}
use Rattle.automata_base.specs.declared.util.search.MatchKind.{MatchKind}
use Rattle.automata_base.specs.declared.util.search.MatchKind.TheVariants.{All, LeftmostFirst}
use Rattle.meaning.specs.Patterns.{end_of, find_any, numbered_match}
use Rattle.meta.specs.Groups.{FindAllGroups}
use Rattle.meta.specs.declared.program.Programs.{Programs}
use Rattle.regex_automata.specs.Promises.{HalfMatch, Input, Match, No, Pattern, Yes, match_kind_of}
use Rattle.lazydfa_c.specs.Caches.{KeepsCaches}
use Rattle.lazydfa_c.specs.Calls.{FindsEnd, IsTold, IsTruthTold, Narrowed, NarrowedNext, OfInput, ReportsMatch, Tests}
use Rattle.lazydfa_c.specs.Calls.{iterated, last_of, regex_of}
use Rattle.lazydfa_c.specs.Programs.{programs_of}
use Rattle.lazydfa_c.specs.Requests.{found_from, found_half, input_of}
use Rattle.lazydfa_c.specs.Statuses.{plain}
use Rattle.lazydfa_c.specs.Texts.{IsFailure}
use Rattle.lazydfa_c.specs.declared.code.Code.TheVariants as code
use Rattle.lazydfa_c.specs.declared.input.Found.{Found}
use Rattle.lazydfa_c.specs.declared.input.FoundHalf.{FoundHalf}
use Rattle.lazydfa_c.specs.declared.iterate.Iteration.{Iteration}
use Rattle.lazydfa_c.specs.declared.object.Searcher.{Searcher}
use Rattle.lazydfa_c.specs.declared.object.Shared.{Shared}
use Rattle.lazydfa_c.specs.declared.status.Status.{Status}

-- whether a search in this mode is unanchored
abbrev pub is_unanchored : Anchored → Bool
is_unanchored No = true
is_unanchored Yes = false
is_unanchored (Pattern pattern) = false

-- whether this is `MatchKind::LeftmostFirst`
abbrev pub is_first_kind : MatchKind → Bool
is_first_kind LeftmostFirst = true
is_first_kind All = false

-- whether the programs can tell if the input has a match: some text of the regex has a Unicode word boundary, and the
-- input is the rest of the haystack from an offset on, unanchored
abbrev pub can_test : Searcher → Input → Bool
can_test s input =
    s.shared.words && (is_unanchored input.anchored
    && ((input.end == length input.haystack) && nat_le input.start input.end))

-- whether the programs can find the match of the input: moreover it is not earliest, and the match kind is
-- `MatchKind::LeftmostFirst`
abbrev pub can_simulate : Searcher → Input → Bool
can_simulate s input =
    can_test s input && (not input.earliest && is_first_kind (match_kind_of (regex_of s).forward.config))

-- this is what patterns mean, of all patterns that the programs of the regex find, in text if the flag is true and in
-- bytes otherwise
abbrev pub ByPrograms : Shared → (IsMeant : (utf8 : Bool) → List Re → Type 0) → Type 0
ByPrograms shared IsMeant =
    (programs : Programs) (res : List Re) → programs_of shared ≡ Some programs
    → FindAllGroups programs.list.items res → IsMeant programs.utf8 res

-- the match that patterns mean in the rest of a haystack
abbrev pub meant_in : (utf8 : Bool) → List Re → Input → Option kit.Match
meant_in utf8 res input = find_any utf8 res input.haystack input.start

-- a search finds this match by what patterns mean
abbrev pub IsMeantMatch : (utf8 : Bool) → List Re → Input → Option Match → Type 0
IsMeantMatch utf8 res input found = found ≡ option_map (numbered_match res input.haystack) (meant_in utf8 res input)

-- the programs find the match that the patterns mean, and it is reported
pub record SimulatesMatch (found : Found) (input : Input) (shared : Shared) (status : Status) : Type 0 where
  -- the match, or none
  pub result : Option Match
  -- the status reports it, and it is written
  pub told : IsTold found_from found (Ok result) status
  -- it is what the patterns mean
  pub meant : ByPrograms shared (λ utf8 res. IsMeantMatch utf8 res input result)

-- the programs find where the match ends that the patterns mean, and it is reported
pub record SimulatesEnd (found : FoundHalf) (input : Input) (shared : Shared) (status : Status) : Type 0 where
  -- the end of the match and its pattern, or none
  pub result : Option HalfMatch
  -- the status reports it, and it is written
  pub told : IsTold found_half found (Ok result) status
  -- it is what the patterns mean
  pub meant : ByPrograms shared (λ utf8 res. result ≡ option_map (end_of res input.haystack) (meant_in utf8 res input))

-- the programs tell whether the patterns match, and it is reported
pub record SimulatesTest (input : Input) (shared : Shared) (status : Status) : Type 0 where
  -- whether there is a match
  pub result : Bool
  -- the status reports it
  pub told : IsTruthTold (Ok result) status
  -- it is what the patterns mean
  pub meant : ByPrograms shared (λ utf8 res. result ≡ is_some (meant_in utf8 res input))

-- the programs find the next match of an iteration, and it is reported
pub record SimulatesNext (found : Found) (old new : Iteration) (input : Input) (shared : Shared) (status : Status) :
    Type 0 where
  -- the match, or none
  pub result : Option Match
  -- the status reports it, and it is written
  pub told : IsTold found_from found (Ok result) status
  -- it is the next match by what the patterns mean; an empty match where the last one ended does not count
  pub meant : ByPrograms shared (λ utf8 res. IsNextItem (IsMeantMatch utf8 res) input input.start (last_of old) result)
  -- the iteration is advanced past the match, or has ended
  pub iterated : new ≡ iterated old (Ok result)

-- How a search over a cache is answered, where `can` says whether the programs can answer it, and `suits` and `avoids`
-- that the haystack is ASCII, and that it is not. `Does written m status` says that the DFAs report what is written
-- with a status, and leave the cache `m`; `Means` says what the programs find.
pub data IsAnsweredBy {A : Type 0} (can : Bool) (suits avoids : Type 0) (Does : A → Searcher → Status → Type 0)
    (written : A) (Means : Type 0) (s t : Searcher) (status : Status) : Type 0 where
  -- the DFAs answer it; if the programs can, too, the haystack is ASCII, and the DFAs do not fail
  ByDfas :
      Does written t status → (can ≡ true → suits × (IsFailure status → ⊥))
      → IsAnsweredBy can suits avoids Does written Means s t status
  -- the haystack is ASCII, the DFAs fail, and the programs answer it
  AfterFailure :
      can ≡ true → suits → (other : A) (m : Searcher) (failed : Status) → Does other m failed → IsFailure failed
      → Means → KeepsCaches m t → IsAnsweredBy can suits avoids Does written Means s t status
  -- the haystack is not ASCII, and the programs answer it
  BySimulation :
      can ≡ true → avoids → Means → KeepsCaches s t → IsAnsweredBy can suits avoids Does written Means s t status

-- `lazydfa_find` of an input: by the DFAs, or by the programs
abbrev pub FindsMatchOf : Found → Input → Searcher → Searcher → Status → Type 0
FindsMatchOf found input s t status =
    IsAnsweredBy (can_simulate s input) (IsAscii input.haystack) (IsNotAscii input.haystack)
    (λ written m told. Narrowed (ReportsMatch written) input s m told) found
    (SimulatesMatch found input s.shared status) s t status

-- `lazydfa_find_end` of an input: by the DFAs, or by the programs
abbrev pub FindsEndOf : FoundHalf → Input → Searcher → Searcher → Status → Type 0
FindsEndOf found input s t status =
    IsAnsweredBy (can_simulate s input) (IsAscii input.haystack) (IsNotAscii input.haystack)
    (λ written m told. Narrowed (FindsEnd written) input s m told) found (SimulatesEnd found input s.shared status)
    s t status

-- `lazydfa_is_match` of an input: by the DFAs, or by the programs
abbrev pub TestsFor : Input → Searcher → Searcher → Status → Type 0
TestsFor input s t status =
    IsAnsweredBy (can_test s input) (IsAscii input.haystack) (IsNotAscii input.haystack)
    (λ (u : Unit {0}) m told. Narrowed Tests input s m told) tt (SimulatesTest input s.shared status) s t status

-- the mark of an iteration over an ASCII haystack
abbrev pub ascii_mark : ℕ
ascii_mark = 1

-- the mark of an iteration over any other haystack
abbrev pub other_mark : ℕ
other_mark = 2

-- Whether the haystack is ASCII is tested by the first search of an iteration that needs to know, which marks the
-- iteration; a mark stays.
pub data IsMarked (hay : List ℕ) (old new : ℕ) : Type 0 where
  -- it was marked before
  StaysMarked : (old ≡ ascii_mark) ⊎ (old ≡ other_mark) → new ≡ old → IsMarked hay old new
  -- it is marked as that of an ASCII haystack
  MarksAscii : IsAscii hay → new ≡ ascii_mark → IsMarked hay old new
  -- it is marked as that of another haystack
  MarksOther : IsNotAscii hay → new ≡ other_mark → IsMarked hay old new

-- an iteration is marked if the programs can answer its searches
abbrev pub IsMarkedIf : (can : Bool) → List ℕ → (old new : ℕ) → Type 0
IsMarkedIf false hay old new = new ≡ old
IsMarkedIf true hay old new = IsMarked hay old new

-- an iteration with this mark
abbrev pub with_mark : (mark : ℕ) → Iteration → Iteration
with_mark mark at = record at { left = record at.left { reserved = mark } }

-- a search of an iteration that has not ended: by the DFAs, or by the programs
pub record FindsNextOf (found : Found) (old new : Iteration) (input : Input) (s t : Searcher) (status : Status) :
    Type 0 where
  -- the mark of the iteration
  pub mark : ℕ
  -- it is set if the programs can answer the search
  pub is_marked : IsMarkedIf (can_simulate s input) input.haystack old.left.reserved mark
  -- how the search is answered
  pub answered :
      IsAnsweredBy (can_simulate s input) (mark ≡ ascii_mark) (mark ≡ other_mark)
      (λ (written : Found × Iteration) m told.
      NarrowedNext written.0 (with_mark mark old) written.1 input s m told)
      (found, new) (SimulatesNext found (with_mark mark old) new input s.shared status) s t status

-- `lazydfa_next`: the next match of an iteration
pub record Iterates (haystack : List ℕ) (found : Found) (old new : Iteration) (s t : Searcher) (status : Status) :
    Type 0 where
  -- an iteration that has not ended searches the remaining input
  pub searches : old.ended ≡ 0 → OfInput (FindsNextOf found old new) (input_of haystack old.left) s t status
  -- an iteration that has ended is unchanged, and the status is `LAZYDFA_NONE`
  pub over : (old.ended ≡ 0 → ⊥) → (t ≡ s) × (new ≡ old) × (status ≡ plain code.Nothing)
  -- an iteration whose remaining input is not valid is unchanged
  pub same : old.ended ≡ 0 → input_of haystack old.left ≡ None → new ≡ old
