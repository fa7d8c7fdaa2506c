-- The effect of the calls of a walk on what its cache knows, unit by unit.
use Rattle.std.proofs.Common.{ℕ, suc, ◌≡◌, ◌+◌, ◌≤◌, length, refl, sym, subst, arith}
use Rattle.automata_hybrid.proofs.Words.{AreUnsplit, CacheView, Direction, HasReadNoQuit, Input, IsInput, IsMachine}
use Rattle.automata_hybrid.proofs.Words.{IsStoreOf, KeepsSplit, Known, known_of, Machine, SearchError, Skips}
use Rattle.automata_hybrid.proofs.Words.{SkipsSplit, UnitFails}
use Rattle.automata_base.specs.Answers.Answers.{with_offsets}
use Rattle.automata_base.specs.Answers.Answers.{without_split}
use Rattle.automata_hybrid.specs.declared.search.walk.advance.Arrival.{Arrival}
use Rattle.automata_hybrid.specs.Known.Walks.{FailsAfterIt, FailsAtIt, FailsOnItsWay, FailsToGoOn, CallFailsAt}
use Rattle.automata_hybrid.specs.Known.Walks.{CallFailsAtUnit, CallFails}
use Rattle.automata_hybrid.specs.Private.Searches.PassState.{IsFollowed}
use Rattle.automata_hybrid.specs.Private.Walks.Answers.{IsArrival}
use Rattle.automata_hybrid.specs.Private.Walks.Parts.{HasAdvanced}
use Rattle.automata_hybrid.specs.Searches.Contracts.{IsOfInput}
use Rattle.automata_hybrid.specs.Walks.Answers.{HasReportedBy, IsSilent, WalkReads, pairs_reported_in}
use Rattle.automata_hybrid.specs.Walks.Cached.{IsToRead}
use Rattle.automata_hybrid.specs.Known.WalksFollow.{IsHoldError, IsInputError, IsKnownError}
use Rattle.automata_hybrid.specs.Walks.Progress.{HasEnded, HasMore, HasNoneLeft, ReadsNoUnit}
use Rattle.automata_hybrid.specs.Walks.State.{Ids, Keeping, States, Walk}
use Rattle.automata_hybrid.proofs.Searches.PassState.{dead_more}
use Rattle.automata_hybrid.proofs.Searches.Goes.{GoesTo, goes_known, goes_some}
use Rattle.automata_hybrid.proofs.Fast.Runs.{followed_clean}
use Rattle.automata_hybrid.proofs.Searches.Units.{units_in}
use Rattle.automata_hybrid.proofs.Walks.Reports.{reported_rises}

-- a walk that reads a unit reads every unit before it
pub walk_reads_before :
    (way : Direction) (m : Machine) (input : Input) (j k : ℕ) → j ≤ k → WalkReads way m input k
    → WalkReads way m input j
walk_reads_before way m input j k l reads =
    (omega (arith, l, reads.0), λ dies. reads.1 (dead_more way m input j k l dies))

-- units that report nothing report nothing up to any place among them
pub silent_before :
    (way : Direction) (m : Machine) (input : Input) (from j to : ℕ) → from ≤ j → j ≤ to → IsSilent way m input from to
    → IsSilent way m input from j
silent_before way m input from j to more less silent k t = subst (HasReportedBy way m input j) same here.1 where
  one :
      AreUnsplit (Skips m) way input (pairs_reported_in way m input from) t.pairs → (n : ℕ)
      × HasReportedBy way m input j n
  one (SkipsSplit skips same) = (
    length (without_split input.haystack (with_offsets way input (pairs_reported_in way m input j))),
    record {
      pairs = without_split input.haystack (with_offsets way input (pairs_reported_in way m input j));
      unsplit = SkipsSplit skips refl;
      count = refl;
    },
  )
  one (KeepsSplit keeps same) = (
    length (with_offsets way input (pairs_reported_in way m input j)),
    record {
      pairs = with_offsets way input (pairs_reported_in way m input j);
      unsplit = KeepsSplit keeps refl;
      count = refl;
    },
  )

  here : (n : ℕ) × HasReportedBy way m input j n
  here = one t.unsplit

  same : here.0 ≡ k
  same =
      let up : k ≤ here.0 = reported_rises way m input from j k here.0 more t here.1 in
      let down : here.0 ≤ k = reported_rises way m input j to here.0 k less here.1 (silent k t) in
      omega (arith, up, down)

-- units that a walk follows on cached transitions change nothing
pub goes_followed :
    (way : Direction) (m : Machine) (input : Input) (from : ℕ) (begun : Known) (k to id : ℕ) (mid new : CacheView)
    → IsMachine m → IsInput input → input.start ≤ input.end → IsStoreOf mid.store m → new ≡ mid
    → GoesTo way m input from k begun (known_of mid) → IsFollowed way m new.store input 0 k to id
    → HasReadNoQuit way m input k → GoesTo way m input from to begun (known_of new)
goes_followed way m input from begun k to id mid new machine given undone sound same before f clean =
    goes_known way m input from begun machine (units_in way input given undone) k to new
    (subst (λ (c : CacheView). IsStoreOf c.store m) (sym same) sound)
    (subst (λ (c : CacheView). GoesTo way m input from k begun (known_of c)) (sym same) before) f.more
    (followed_clean f clean) (λ j more less. (f.taken j more less).known)

-- a walk has read the units up to its current place
pub has_advanced :
    (way : Direction) (m : Machine) (input : Input) (from k : ℕ) (a : Arrival) (old new : CacheView) → from ≤ k
    → suc k ≡ a.units → WalkReads way m input k → GoesTo way m input from (suc k) (known_of old) (known_of new)
    → IsArrival way m new.store.table input from a.id a.units → HasAdvanced way m input from old new a
has_advanced way m input from k a old new more same reads all arrives =
    let some = goes_some way m input from k (known_of old) (known_of new) more all in
    record {
      arrives = arrives;
      before = some.0;
      counted = omega (arith, some.1, same);
      reads = subst (WalkReads way m input) (sym some.1) reads;
      goes = some.2;
    }

-- a call that failed at a unit
pub call_stopped :
    (way : Direction) (m : Machine) (input : Input) (from k : ℕ) (begun mid new : Known) (e : SearchError)
    → WalkReads way m input k → HasReadNoQuit way m input k → IsSilent way m input from k
    → GoesTo way m input from k begun mid → UnitFails way m input k mid new e
    → CallFailsAtUnit Ids way m input from begun new e
call_stopped way m input from k begun mid new e reads clean silent all fails = record {
  units = all.units;
  reads = subst (WalkReads way m input) (sym all.upto) reads;
  clean = subst (HasReadNoQuit way m input) (sym all.upto) clean;
  silent = subst (IsSilent way m input from) (sym all.upto) silent;
  mid = mid;
  run = all.run;
  left = subst (λ j. CallFailsAt Ids way m input j mid new e) (sym all.upto) (FailsAtIt fails);
}

-- a call that has units to read reads some
pub reads_some : (input : Input) (w : Walk) → IsToRead input w.stage w.units w.reported → ReadsNoUnit input w → ⊥
reads_some input w r (HasEnded ended) = r.on ended
reads_some input w r (HasMore q at few) =
    (let all : length q.patterns ≤ w.reported = r.all_reported q at in omega (arith, all, few))
reads_some input w r (HasNoneLeft past) = omega (arith, r.undone, r.left, past)

-- a call that fails had units to read
pub left_reads :
    (keeping : Keeping) (way : Direction) (m : Machine) (input : Input) (w : Walk) (old new : Known)
    (e : SearchError) → CallFails keeping way m input w old new e → ReadsNoUnit input w → ⊥
left_reads keeping way m input w old new e (FailsToGoOn reads fails) = reads
left_reads keeping way m input w old new e (FailsOnItsWay reads may begun goes_on stopped) = reads

step_leaves :
    (keeping : Keeping) (way : Direction) (m : Machine) (input : Input) (k : ℕ) (old new : Known) (e : SearchError)
    → CallFailsAt Ids way m input k old new e → CallFailsAt keeping way m input k old new e
step_leaves keeping way m input k old new e (FailsAtIt fails) = FailsAtIt fails
step_leaves keeping way m input k old new e (FailsAfterIt kept unheld read) =
    absurd (let is : Ids ≡ States = kept in cc)

pub call_leaves :
    (keeping : Keeping) (way : Direction) (m : Machine) (input : Input) (from : ℕ) (begun new : Known)
    (e : SearchError) → CallFailsAtUnit Ids way m input from begun new e
    → CallFailsAtUnit keeping way m input from begun new e
call_leaves keeping way m input from begun new e stopped = record {
  units = stopped.units;
  reads = stopped.reads;
  clean = stopped.clean;
  silent = stopped.silent;
  mid = stopped.mid;
  run = stopped.run;
  left = step_leaves keeping way m input (from + stopped.units) stopped.mid new e stopped.left;
}

-- a call that keeps IDs and has everything cached fails only because of its input
pub of_input :
    (way : Direction) (m : Machine) (input : Input) (w : Walk) (e : SearchError)
    → IsKnownError Ids way m input w e → IsOfInput e
of_input way m input w e (IsInputError given) = given
of_input way m input w e (IsHoldError kept j past unheld) = absurd (let is : Ids ≡ States = kept in cc)
