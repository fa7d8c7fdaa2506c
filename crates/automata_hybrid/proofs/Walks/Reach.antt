-- If no quit byte is in reach, no clear limit is set and the mode is supported, the only error of a walk is out of
-- memory.
use Rattle.std.proofs.Common.{ℕ, ◌≡◌, ◌≤◌, ◌+◌, ◌<◌, ◌⊎◌, inl, inr, Bool, List, false, true, length, None, arith}
use Rattle.std.proofs.lemmas.Bool.{cases_lt}
use Rattle.automata_hybrid.proofs.Words.{cleared, Direction, Err, Forward, IfErr, Input, is_quit, Known, Machine}
use Rattle.automata_hybrid.proofs.Words.{minimum_cache_clear_count_of, Ok, Result, result_err, SearchError, supports}
use Rattle.automata_hybrid.proofs.Words.{tape_in}
use Rattle.automata_hybrid.specs.Known.Walks.{FailsAfterIt, FailsAtIt, FailsOnItsWay, FailsToGoOn, GivesUpOnIt}
use Rattle.automata_hybrid.specs.Known.Walks.{CallFailsAt, IsNotResumed, IsSetRun, CallFails, SetFails, RunsOutOnIt}
use Rattle.automata_hybrid.specs.Searches.Contracts.{IsMemory, IsUnhindered}
use Rattle.automata_hybrid.specs.Searches.Passes.{NoQuitInReach}
use Rattle.automata_hybrid.specs.Walks.Progress.{HasNoneLeft, ReadsNoUnit}
use Rattle.automata_hybrid.specs.Walks.State.{At, Ended, Fresh, Ids, Keeping, Stage, Walk}
use Rattle.automata_hybrid.proofs.Known.Memory.{pass_memory, state_made, unit_memory}
use Rattle.automata_hybrid.proofs.Searches.Goes.{start_fails_pass}
use Rattle.automata_hybrid.proofs.Searches.Reach.{InReach}

-- if a call has units to read, its span is not done
reads_undone : (input : Input) (w : Walk) → (ReadsNoUnit input w → ⊥) → input.start ≤ input.end
reads_undone input w reads = go (cases_lt input.end input.start) where
  go : (input.end < input.start) ⊎ (input.start ≤ input.end) → input.start ≤ input.end
  go (inl past) = absurd (reads (HasNoneLeft (omega (arith, past))))
  go (inr undone) = undone

module _ (way : Direction) (m : Machine) (input : Input) (few : input.end ≤ length input.haystack)
    (reach : NoQuitInReach m input) (mode : supports m input.anchored ≡ true)
    (free : minimum_cache_clear_count_of m.config ≡ None) where
  clean : (byte : ℕ) → InReach input byte → is_quit m.quits byte ≡ false
  clean byte r = reach r.0 byte r.1 r.2 r.3

  resume_memory :
      (s : Stage) (units : ℕ) (old new : Known) (e : SearchError) → input.start ≤ input.end
      → IsNotResumed way m input s units old new e → IsMemory e
  resume_memory Fresh units old new e undone fails =
      pass_memory way m input undone few clean mode free old new e (start_fails_pass way m input old new e fails)
  resume_memory (At q) units old new e undone (GivesUpOnIt none is same) =
      absurd (state_made m (cleared old) (record { state = q; started = false }) old free none)
  resume_memory (At q) units old new e undone (RunsOutOnIt lacks room is same) = is
  resume_memory Ended units old new e undone fails = absurd fails

  at_memory :
      (keeping : Keeping) (j : ℕ) (mid new : Known) (e : SearchError) → input.start ≤ input.end
      → j ≤ length (tape_in way input).bytes → CallFailsAt keeping way m input j mid new e → IsMemory e
  at_memory keeping j mid new e undone within (FailsAtIt fails) =
      unit_memory way m input undone few clean mode free j mid new e within fails
  at_memory keeping j mid new e undone within (FailsAfterIt kept unheld read) = unheld.memory

  pub call_memory :
      (keeping : Keeping) (w : Walk) (old new : Known) (e : SearchError) → CallFails keeping way m input w old new e
      → IsMemory e
  call_memory keeping w old new e (FailsToGoOn reads fails) =
      resume_memory w.stage w.units old new e (reads_undone input w reads) fails
  call_memory keeping w old new e (FailsOnItsWay reads may begun goes_on s) =
      at_memory keeping (w.units + s.units) s.mid new e (reads_undone input w reads) s.reads.0 s.left

-- the same for the search for a set
pub set_memory :
    {T : Type 0} (m : Machine) (input : Input) (set joined : List Bool) (old new : Known) (r : Result T SearchError)
    → input.end ≤ length input.haystack → IsUnhindered m input → IsSetRun m input set joined old new (result_err r)
    → IfErr r IsMemory
set_memory m input set joined old new (Ok t) few f run = tt
set_memory m input set joined old new (Err e) few f run = go run where
  go : SetFails m input set joined old new e → IsMemory e
  go s = call_memory Forward m input few f.reach f.supported f.clears Ids s.walk s.mid new e s.left
