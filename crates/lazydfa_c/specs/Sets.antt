-- Which patterns match: the call that lists them, by the forward DFA or by the programs of the regex.
use Rattle.std.specs.Prelude.{ℕ, ◌≡◌, ◌&&◌, not, Bool, true, false, IsAscii, List, length, replicate}
use Rattle.std.specs.Str.{IsNotAscii}
use Rattle.automata_base.specs.Haystacks.PatternSet.{members}
use Rattle.meta.specs.Sets.{is_found_from, joined_with}
use Rattle.regex_automata.specs.Promises.{Input, match_kind_of}
use Rattle.lazydfa_c.specs.Caches.{KeepsCaches, written_over}
use Rattle.lazydfa_c.specs.Calls.{JoinsPatterns, regex_of}
use Rattle.lazydfa_c.specs.Statuses.{plain}
use Rattle.lazydfa_c.specs.Texts.{IsFailure}
use Rattle.lazydfa_c.specs.Words.{ByPrograms, can_test, is_first_kind}
use Rattle.lazydfa_c.specs.declared.code.Code.TheVariants as code
use Rattle.lazydfa_c.specs.declared.object.Searcher.{Searcher}
use Rattle.lazydfa_c.specs.declared.status.Status.{Status}

-- whether the programs can list the patterns that match in the input: they can tell if it has a match, it is not
-- earliest, and the match kind is `MatchKind::All`
abbrev pub can_list : Searcher → Input → Bool
can_list s input =
    can_test s input && (not input.earliest && not (is_first_kind (match_kind_of (regex_of s).forward.config)))

-- the programs add the patterns that match to a set
pub record SimulatesSet (set : List Bool) (input : Input) (s t : Searcher) (status : Status) : Type 0 where
  -- the status is `LAZYDFA_OK`
  pub told : status ≡ plain code.Done
  -- the set has what it had, and the patterns below its capacity that match by what they mean
  pub meant :
      ByPrograms s.shared
      (λ utf8 res. t.patterns ≡ joined_with (is_found_from utf8 input.haystack input.start) res set)
  -- the caches of both DFAs are unchanged
  pub cache : t.cache ≡ s.cache
  -- the cache keeps its regex
  pub same : t.shared ≡ s.shared
  -- its search and its walk in pieces are unchanged
  pub pieces : t.pieces ≡ s.pieces

-- how the patterns that match are added to a set
pub data JoinsFor (set : List Bool) (input : Input) (s t : Searcher) (status : Status) : Type 0 where
  -- the forward DFA adds them; if the programs can, too, the haystack is ASCII, and the DFA does not fail
  JoinsByDfa :
      JoinsPatterns set input s t status → (can_list s input ≡ true → IsAscii input.haystack × (IsFailure status → ⊥))
      → JoinsFor set input s t status
  -- the haystack is ASCII, the DFA fails, and the programs add them
  JoinsAfterFailure :
      can_list s input ≡ true → IsAscii input.haystack → (m : Searcher) (failed : Status)
      → JoinsPatterns set input s m failed → IsFailure failed → SimulatesSet set input m t status
      → JoinsFor set input s t status
  -- the haystack is not ASCII, and the programs add them
  JoinsBySimulation :
      can_list s input ≡ true → IsNotAscii input.haystack → SimulatesSet set input s t status
      → JoinsFor set input s t status

-- `lazydfa_which`: the patterns below a number that match are written and counted
pub data Lists (below : ℕ) (old new : List ℕ) (count : ℕ) (input : Input) (s t : Searcher) (status : Status) :
    Type 0 where
  -- the patterns that match are added to an empty set; its members are written and counted, also after an error
  AreWritten :
      JoinsFor (replicate below false) input s t status → new ≡ written_over (members t.patterns) old
      → count ≡ length (members t.patterns) → Lists below old new count input s t status
  -- the allocation of the set fails: nothing changes, and the count is 0
  NoMemory :
      status ≡ plain code.Memory → KeepsCaches s t → new ≡ old → count ≡ 0
      → Lists below old new count input s t status
