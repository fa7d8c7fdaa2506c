-- What an overlapping walk has reported, and why a call of it fails.
use Rattle.std.specs.Prelude.{ℕ, zero, suc, ◌≡◌, ◌<◌, ◌≤◌, ◌+◌, false, List, [], ◌∷◌, length, Option, None, Some}
use Rattle.automata_base.specs.Answers.Answers.{AreUnsplit, Walks, offset_in}
use Rattle.automata_base.specs.ByteClasses.Classes.{is_quit}
use Rattle.automata_base.specs.Haystacks.Input.{Input}
use Rattle.automata_base.specs.Haystacks.Matches.{HalfMatch}
use Rattle.automata_base.specs.Paths.Paths.{next}
use Rattle.automata_base.specs.Powersets.Powerset.{Powerset, dead}
use Rattle.automata_base.specs.Paths.Selections.{Pair}
use Rattle.automata_base.specs.Haystacks.Tapes.{is_split}
use Rattle.automata_base.specs.declared.util.search.Direction.{Direction}
use Rattle.automata_determinize.specs.Retraced.Passes.{pairs_among}
use Rattle.automata_config.specs.declared.error.SearchError.{SearchError}
use Rattle.automata_config.specs.declared.error.SearchError.TheVariants as search
use Rattle.automata_hybrid.specs.Machines.Machine.{Machine, quits_on}
use Rattle.automata_hybrid.specs.Searches.Passes.{HasReadNoQuit, Skips, state_in, tape_in}
use Rattle.automata_hybrid.specs.Steps.Starts.{MayStart}
use Rattle.automata_hybrid.specs.Cache.Table.{IsRowState}
use Rattle.automata_hybrid.specs.Walks.State.{At, Ended, Fresh, Stage, Walk}

-- the pairs that the first `k` units report, if they lead through these states
unfoldable pub pairs_along : (ℕ → Powerset) → ℕ → List Pair
pairs_along state k = pairs_among (λ i. (state (suc i)).patterns) k

-- the pairs that a pass reports by its first `k` units; their places are the pass's
abbrev pub pairs_reported_in : Direction → Machine → Input → ℕ → List Pair
pairs_reported_in way m input k = pairs_along (λ i. state_in way m input i) k

-- the pass over the span of an input that is not done reports these pairs
abbrev pub ReportsPairs : Direction → Machine → Input → List Pair → Type 0
ReportsPairs way m input pairs = pairs ≡ pairs_reported_in way m input (suc (length (tape_in way input).bytes))

-- the whole list of a walk: what its pass reports, by offsets, without the split ones if these are skipped
abbrev pub AreWalked : Direction → Machine → Input → List Pair → Type 0
AreWalked way m input pairs = Walks (ReportsPairs way m) (Skips m) way input pairs

-- the pair at an index, as a half match
abbrev pub half_nth : List Pair → ℕ → Option HalfMatch
half_nth [] k = None
half_nth (pair ∷ pairs) zero = Some (record { pattern = pair.pattern; offset = pair.place })
half_nth (pair ∷ pairs) (suc k) = half_nth pairs k

-- by its first `n` units a pass reports `k` pairs to a walk, without the split ones if these are skipped
pub record HasReportedBy (way : Direction) (m : Machine) (input : Input) (n k : ℕ) : Type 0 where
  -- the pairs that it reports to the walk, by their offsets
  pub pairs : List Pair
  -- they are the pairs of the pass, without the split ones if these are skipped
  pub unsplit : AreUnsplit (Skips m) way input (pairs_reported_in way m input n) pairs
  -- there are `k` of them
  pub count : k ≡ length pairs

-- a walk over this input reads the unit at place `k`: the state there is not dead
abbrev pub WalkReads : Direction → Machine → Input → ℕ → Type 0
WalkReads way m input k = (k ≤ length (tape_in way input).bytes) × (state_in way m input k ≡ dead → ⊥)

-- no unit that a walk reads is a quit byte
abbrev pub WalkMeetsNoQuit : Direction → Machine → Input → Type 0
WalkMeetsNoQuit way m input =
    (k byte : ℕ) → WalkReads way m input k → next (tape_in way input) k ≡ Some byte → is_quit m.quits byte ≡ false

-- a walk is at the state after the unit at a place that is not skipped, and none of its units is a quit byte; it has
-- reported `reported` patterns of this state, at least one, and `k` pairs in all
pub record StandsAtState (way : Direction) (m : Machine) (input : Input) (q : Powerset) (units reported k : ℕ) :
    Type 0 where
  -- the span is not done
  pub undone : input.start ≤ input.end
  -- the search may start
  pub may : MayStart m input.anchored (tape_in way input).before
  -- the place of the last unit read
  pub place : ℕ
  -- the walk is after this unit
  pub one_after : units ≡ suc place
  -- the unit is a byte of the span, or the one after it
  pub within : place ≤ length (tape_in way input).bytes
  -- the state is the one after these units
  pub state : q ≡ state_in way m input units
  -- it is a state that a row may have
  pub row : IsRowState m q
  -- none of these units is a quit byte
  pub clean : HasReadNoQuit way m input units
  -- the place is not skipped
  pub unskipped : Skips m → is_split input.haystack (offset_in way input place) ≡ false
  -- at least one pattern of the state is reported
  pub some : 0 < reported
  -- the state has at least as many patterns as are reported
  pub few : reported ≤ length q.patterns
  -- how many pairs were reported before those of the state
  pub earlier : ℕ
  -- the units before the last one report these
  pub before : HasReportedBy way m input place earlier
  -- in all, these and the reported patterns of the state are reported
  pub count : k ≡ earlier + reported

-- why a walk has ended
pub data HasComeToEnd (way : Direction) (m : Machine) (input : Input) : Type 0 where
  -- its span was done
  WasDone : input.end < input.start → HasComeToEnd way m input
  -- it met no quit byte up to its end
  MetNoQuit :
      MayStart m input.anchored (tape_in way input).before → WalkMeetsNoQuit way m input → HasComeToEnd way m input

-- a walk has reported everything: its span was done, or it met no quit byte up to its end
pub record HasReportedAll (way : Direction) (m : Machine) (input : Input) (k : ℕ) : Type 0 where
  -- the span was done, or the walk met no quit byte up to its end
  pub clean : HasComeToEnd way m input
  -- the whole list of the walk
  pub pairs : List Pair
  -- it is what the pass reports, by offsets, without the split ones if these are skipped
  pub all : AreWalked way m input pairs
  -- no pair of the list is left to report
  pub none_left : length pairs ≤ k

-- a walk has reported `k` pairs in all, by its stage
abbrev pub HasReportedAt : Direction → Machine → Input → Stage → (units reported k : ℕ) → Type 0
HasReportedAt way m input Fresh units reported k = (k ≡ 0) × (units ≡ 0)
HasReportedAt way m input (At q) units reported k = StandsAtState way m input q units reported k
HasReportedAt way m input Ended units reported k = HasReportedAll way m input k

-- a walk has reported the first `k` pairs of the walk over this input
abbrev pub HasReported : Direction → Machine → Input → Walk → ℕ → Type 0
HasReported way m input w k = HasReportedAt way m input w.stage w.units w.reported k

-- this is a walk over this input
abbrev pub IsWalkOf : Direction → Machine → Input → Walk → Type 0
IsWalkOf way m input w = (k : ℕ) × HasReported way m input w k

-- a call that returned Ok: after `k` pairs it reports the next one, which is the match; if none is left there is no
-- match, and the walk has ended
abbrev pub ReportsNext : Direction → Machine → Input → Walk → Walk → Type 0
ReportsNext way m input old new =
    (k : ℕ) → HasReported way m input old k
    → HasReported way m input new (suc k)
    × ((pairs : List Pair) → AreWalked way m input pairs
    → (new.found ≡ half_nth pairs k) × (length pairs ≤ k → new.stage ≡ Ended))

-- the state after the unit at place `j` reports a pair, and cannot be held, because it cannot be shared once more, and
-- this is reported as out of memory
pub record IsUnheld (way : Direction) (m : Machine) (input : Input) (j : ℕ) (e : SearchError) : Type 0 where
  -- the unit is not a quit byte
  pub clean : quits_on m (next (tape_in way input) j) ≡ false
  -- the state after it has patterns
  pub reports : 0 < length (state_in way m input (suc j)).patterns
  -- its place is not skipped
  pub unskipped : Skips m → is_split input.haystack (offset_in way input j) ≡ false
  -- the error is out of memory
  pub memory : e ≡ search.OutOfMemory

-- the units from one place of a pass to another report nothing to a walk
abbrev pub IsSilent : Direction → Machine → Input → (from to : ℕ) → Type 0
IsSilent way m input from to = (k : ℕ) → HasReportedBy way m input from k → HasReportedBy way m input to k

-- one determinization for the start state of a walk that has not begun
abbrev pub start_count : Stage → ℕ
start_count Fresh = 1
start_count (At q) = 0
start_count Ended = 0
