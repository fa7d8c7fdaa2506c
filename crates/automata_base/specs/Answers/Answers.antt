-- The answers of searches and walks over a span of a haystack, with split places skipped.
use Rattle.std.specs.Prelude.{ℕ, ◌≡◌, ◌<◌, ◌≤◌, ◌+◌, ◌-◌, Bool, true, false, cond, List, [], ◌∷◌, ◌⊎◌, ◌↔◌, length}
use Rattle.std.specs.Prelude.{Option, Some, None}
use Rattle.automata_base.specs.Lists.{In}
use Rattle.automata_base.specs.Paths.Paths.{Tape, KeepsCycles}
use Rattle.automata_base.specs.Nfas.Accepted.{IsInRange}
use Rattle.automata_base.specs.Paths.Selections.{Pair, Selects, IsOverlappingOn}
use Rattle.automata_base.specs.Haystacks.Tapes.{IsHaystack, Direction, Forward, Backward, tape_of, offset, is_split}
use Rattle.automata_base.specs.Nfas.Engines.{Engine, Anchored, No, first_state, IsSkipping}
use Rattle.automata_base.specs.Haystacks.Input.{Input}

-- What the paths from a first state select on a tape; nothing if there is no first state.
abbrev pub SelectsFrom : Engine → Bool → Tape → Option ℕ → Option Pair → Type 0
SelectsFrom d earliest t None answer = answer ≡ None
SelectsFrom d earliest t (Some q) answer = Selects d.kind earliest d.nfa t q answer

-- What the paths over the span of an input that is not done answer. The place is counted from where the search begins.
abbrev pub SelectsOver : Direction → Engine → Input → Option Pair → Type 0
SelectsOver way d input answer =
    SelectsFrom d input.earliest (tape_of way input.haystack input.start input.end) (first_state d input.anchored)
    answer

-- The input whose search begins `k` places later: forward its start is raised, backward its end is lowered.
abbrev pub later : Direction → ℕ → Input → Input
later Forward k input = record input { start = input.start + k }
later Backward k input = record input { end = input.end - k }

-- The offset of a place of the span of an input.
abbrev pub offset_in : Direction → Input → ℕ → ℕ
offset_in way input i = offset way input.start input.end i

-- What is reported over one span is at an offset inside a character. `Reports` says what is reported over the span of
-- an input that is not done.
abbrev pub IsSplit : (Reports : Input → Option Pair → Type 0) → Direction → Input → Type 0
IsSplit Reports way input =
    (pair : Pair) × Reports input (Some pair) × (is_split input.haystack (offset_in way input pair.place) ≡ true)

-- Why a search may try the span that begins `k` places later.
pub data MayTry (skipping : Type 0) (input : Input) (k : ℕ) : Type 0 where
  -- it is the first span
  IsFirstSpan : k ≡ 0 → MayTry skipping input k
  -- an unanchored search that skips split places continues after them
  SkipsToIt : skipping → input.anchored ≡ No → MayTry skipping input k

-- The search tries the span that begins `k` places later.
pub record Tries (Reports : Input → Option Pair → Type 0) (skipping : Type 0) (way : Direction) (input : Input)
    (k : ℕ) : Type 0 where
  -- it may try that span
  pub comes : MayTry skipping input k
  -- over each span before it, a split place was reported
  pub before : (j : ℕ) → j < k → (input.start + j ≤ input.end) × IsSplit Reports way (later way j input)

-- A pattern, the offset where its path ends, and the start of the span that gave it.
pub record Half : Type 0 where
  -- the pattern of the path
  pub pattern : ℕ
  -- the offset where the path ends; in a reverse search the match begins there
  pub offset : ℕ
  -- the start of the span that gave it: after the input's start only if offsets inside a character were skipped
  pub base : ℕ

-- Why a search that tries the span `k` places later has no answer.
pub data HasNoAnswerAt (Reports : Input → Option Pair → Type 0) (skipping : Type 0) (way : Direction) (input : Input)
    (k : ℕ) : Type 0 where
  -- the span is done
  SpanIsDone : input.end < input.start + k → HasNoAnswerAt Reports skipping way input k
  -- nothing is reported over it
  SpanReportsNone : Reports (later way k input) None → HasNoAnswerAt Reports skipping way input k
  -- what is reported over it is split, and an anchored search tries no other span
  StopsAtSplit :
      skipping → (input.anchored ≡ No → ⊥) → IsSplit Reports way (later way k input)
      → HasNoAnswerAt Reports skipping way input k

-- A search that tries the span `k` places later has this answer.
pub record HasAnswerAt (Reports : Input → Option Pair → Type 0) (skipping : Type 0) (way : Direction) (input : Input)
    (k : ℕ) (half : Half) : Type 0 where
  -- what is reported over the span
  pub pair : Pair
  -- the span is not done
  pub within : input.start + k ≤ input.end
  -- that is reported over it
  pub reported : Reports (later way k input) (Some pair)
  -- it is not split, if split places are skipped
  pub whole : skipping → is_split input.haystack (offset_in way (later way k input) pair.place) ≡ false
  -- the answer has its pattern
  pub pattern : half.pattern ≡ pair.pattern
  -- the answer has the offset of its place
  pub offset : half.offset ≡ offset_in way (later way k input) pair.place
  -- the answer has the start of the span
  pub base : half.base ≡ (later way k input).start

-- The answer is what is reported over the first span for which this is nothing or not split. If split places are
-- skipped, an anchored search can have an answer only over its first span.
abbrev pub Answers :
    (Reports : Input → Option Pair → Type 0) → (skipping : Type 0) → Direction → Input → Option Half → Type 0
Answers Reports skipping way input None =
    (k : ℕ) × Tries Reports skipping way input k × HasNoAnswerAt Reports skipping way input k
Answers Reports skipping way input (Some half) =
    (k : ℕ) × Tries Reports skipping way input k × HasAnswerAt Reports skipping way input k half

-- The answer of a search, by paths.
abbrev pub IsAnswer : Direction → Engine → Input → Option Half → Type 0
IsAnswer way d input answer = Answers (SelectsOver way d) (IsSkipping d) way input answer

-- The pairs of a walk, each with its offset instead of its place.
abbrev pub with_offsets : Direction → Input → List Pair → List Pair
with_offsets way input [] = []
with_offsets way input (pair ∷ pairs) =
    record pair { place = offset_in way input pair.place } ∷ with_offsets way input pairs

-- The pairs that are not at an offset inside a character.
abbrev pub without_split : List ℕ → List Pair → List Pair
without_split h [] = []
without_split h (pair ∷ pairs) = cond (is_split h pair.place) (without_split h pairs) (pair ∷ without_split h pairs)

-- The pairs of the walk from a first state on a tape; none if there is no first state.
abbrev pub IsOverlappingFrom : Engine → Tape → Option ℕ → List Pair → Type 0
IsOverlappingFrom d t None pairs = pairs ≡ []
IsOverlappingFrom d t (Some q) pairs = IsOverlappingOn d.kind d.nfa t q pairs

-- These pairs by their offsets, without the split ones if they are skipped.
pub data AreUnsplit (skipping : Type 0) (way : Direction) (input : Input) (pairs found : List Pair) : Type 0 where
  -- split places are skipped
  SkipsSplit :
      skipping → found ≡ without_split input.haystack (with_offsets way input pairs)
      → AreUnsplit skipping way input pairs found
  -- they are not skipped
  KeepsSplit :
      (skipping → ⊥) → found ≡ with_offsets way input pairs → AreUnsplit skipping way input pairs found

-- The whole list of a walk.
pub data Walks (Reports : Input → List Pair → Type 0) (skipping : Type 0) (way : Direction) (input : Input)
    (found : List Pair) : Type 0 where
  -- the span is done, and nothing is reported
  WalksNoSpan : input.end < input.start → found ≡ [] → Walks Reports skipping way input found
  -- what is reported over the span, by offsets
  WalksSpan :
      input.start ≤ input.end → (pairs : List Pair) → Reports input pairs → AreUnsplit skipping way input pairs found
      → Walks Reports skipping way input found

-- What the paths over the span of an input that is not done report to a walk.
abbrev pub OverlapsOver : Direction → Engine → Input → List Pair → Type 0
OverlapsOver way d input pairs =
    IsOverlappingFrom d (tape_of way input.haystack input.start input.end) (first_state d input.anchored) pairs

-- The whole list of a walk, by paths.
abbrev pub IsOverlapping : Direction → Engine → Input → List Pair → Type 0
IsOverlapping way d input found = Walks (OverlapsOver way d) (IsSkipping d) way input found

-- The first pair if the walk is an earliest one, and otherwise all pairs.
abbrev pub first_alone : Bool → List Pair → List Pair
first_alone earliest [] = []
first_alone earliest (pair ∷ pairs) = pair ∷ cond earliest [] pairs

-- Some pair of the list is of this pattern.
abbrev pub HasPattern : ℕ → List Pair → Type 0
HasPattern p [] = ⊥
HasPattern p (pair ∷ pairs) = (p ≡ pair.pattern) ⊎ HasPattern p pairs

-- Why a pattern is in a set after a walk that reports these pairs.
pub data IsInSet (capacity : ℕ) (given : List ℕ) (pairs : List Pair) (p : ℕ) : Type 0 where
  -- it was given
  IsGivenPattern : In p given → IsInSet capacity given pairs p
  -- it is below the capacity, and the walk reports it
  IsReportedPattern : p < capacity → HasPattern p pairs → IsInSet capacity given pairs p

-- The patterns of a set after a forward walk: the given ones, and those that the walk reports below the capacity.
-- `Reports` says which list the walk reports.
pub record ArePatterns (Reports : List Pair → Type 0) (input : Input) (capacity : ℕ) (given found : List ℕ) :
    Type 0 where
  -- the pairs of the walk
  pub pairs : List Pair
  -- it reports them
  pub reports : Reports pairs
  -- the set has these patterns; an earliest walk reports only its first pair
  pub members : (p : ℕ) → In p found ↔ IsInSet capacity given (first_alone input.earliest pairs) p

-- The patterns of a set after a forward walk, by paths.
abbrev pub ArePatternsFound : Engine → Input → ℕ → (given found : List ℕ) → Type 0
ArePatternsFound d input capacity given found = ArePatterns (IsOverlapping Forward d input) input capacity given found

-- The condition on an input: its haystack consists of bytes, and its span ends in it.
abbrev pub IsInput : Input → Type 0
IsInput input = IsHaystack input.haystack × (input.end ≤ length input.haystack)

-- An NFA whose edges and starts lead to its states, and which keeps its cycles.
abbrev pub IsSound : Engine → Type 0
IsSound d =
    IsInRange d.nfa × KeepsCycles d.nfa
    × ((mode : Anchored) (q : ℕ) → first_state d mode ≡ Some q → q < length d.nfa.nodes)
