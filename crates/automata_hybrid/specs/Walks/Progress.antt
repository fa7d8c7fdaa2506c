-- Which units a call of a walk reads, and what a set contains after some pairs.
use Rattle.std.specs.Prelude.{ℕ, ◌≡◌, ◌<◌, ◌≤◌, ◌+◌, ◌↔◌, Bool, List, length, take}
use Rattle.automata_base.specs.Answers.Answers.{IsInSet}
use Rattle.automata_base.specs.Haystacks.Input.{Input}
use Rattle.automata_base.specs.Haystacks.PatternSet.{members}
use Rattle.automata_base.specs.Lists.{In}
use Rattle.automata_base.specs.Powersets.Powerset.{Powerset}
use Rattle.automata_base.specs.Paths.Selections.{Pair}
use Rattle.automata_base.specs.declared.util.search.Direction.{Direction}
use Rattle.automata_base.specs.declared.util.search.Direction.TheVariants.{Forward}
use Rattle.automata_hybrid.specs.Walks.Cached.{IsOpen}
use Rattle.automata_hybrid.specs.Machines.Machine.{Machine}
use Rattle.automata_hybrid.specs.Walks.Answers.{AreWalked, IsSilent, WalkReads}
use Rattle.automata_hybrid.specs.Walks.State.{At, Ended, Walk}

-- why a call reads no unit
pub data ReadsNoUnit (input : Input) (w : Walk) : Type 0 where
  -- the walk has ended
  HasEnded : w.stage ≡ Ended → ReadsNoUnit input w
  -- another pattern of its current state is left to report
  HasMore : (q : Powerset) → w.stage ≡ At q → w.reported < length q.patterns → ReadsNoUnit input w
  -- no unit of the span is left
  HasNoneLeft : input.end < input.start + w.units → ReadsNoUnit input w

-- a call reads the units after those of the walk: up to the one after which the next match is reported, while those
-- before it report nothing; or if there is no match, up to the last one that can be read
abbrev pub ReadsItsUnits : Direction → Machine → Input → (walk next : Walk) → Type 0
ReadsItsUnits way m input walk next =
    ((k : ℕ) → walk.units ≤ k → k < next.units → WalkReads way m input k × IsSilent way m input walk.units k)
    × (next.stage ≡ Ended → WalkReads way m input next.units → ⊥)

-- a set is still open once its walk has reported its first pairs
abbrev pub IsOpenAfter : Machine → Input → (set : List Bool) → (reported : ℕ) → Type 0
IsOpenAfter m input set reported =
    (pairs : List Pair) → AreWalked Forward m input pairs → IsOpen input set (take reported pairs)

-- a set is closed once its walk has reported its first pairs
abbrev pub IsClosedAfter : Machine → Input → (set : List Bool) → (reported : ℕ) → Type 0
IsClosedAfter m input set reported =
    (pairs : List Pair) → AreWalked Forward m input pairs → IsOpen input set (take reported pairs) → ⊥

-- a set joined with the patterns of these pairs that are below its capacity
abbrev pub IsJoined : List Pair → (set joined : List Bool) → Type 0
IsJoined pairs set joined = (p : ℕ) → In p (members joined) ↔ IsInSet (length set) (members set) pairs p

-- a set joined with the patterns of the first pairs of its walk
abbrev pub IsJoinedAfter : Machine → Input → (set joined : List Bool) → (reported : ℕ) → Type 0
IsJoinedAfter m input set joined reported =
    (pairs : List Pair) → AreWalked Forward m input pairs → IsJoined (take reported pairs) set joined
