-- One call of a walk that reads units: its effect on what its cache knows.
use Rattle.std.proofs.Common.{ℕ, suc, ◌≡◌, ◌∙◌, ◌+◌, ◌-◌, ◌≤◌, ◌<◌, false, length, Option, None, Some, refl, sym, ap}
use Rattle.std.proofs.Common.{subst, arith}
use Rattle.automata_hybrid.proofs.Words.{after_many, after_unit, CacheView, dead, Direction, ended, Err}
use Rattle.automata_hybrid.proofs.Words.{given_up_offset, Input, is_split, Known, known_of, Leads, Machine}
use Rattle.automata_hybrid.proofs.Words.{match_kind_of, Names, offset_in, Ok, option_map, pass_trace, Powerset}
use Rattle.automata_hybrid.proofs.Words.{progress_finished, quits_on, Result, Rows, SearchError, Skips, state_in}
use Rattle.automata_hybrid.proofs.Words.{successor, tape_in, unit_offset, with_searched, with_store}
use Rattle.automata_base.specs.Paths.Paths.{next as unit_at}
use Rattle.automata_config.specs.declared.error.SearchError.TheVariants as search
use Rattle.automata_hybrid.specs.declared.search.walk.advance.Arrival.{Arrival}
use Rattle.automata_hybrid.specs.Known.Walks.{CallEnds, FailsAfterIt, FailsOnItsWay, CallFailsAtUnit, CallFails}
use Rattle.automata_hybrid.specs.Known.Walks.{MayGoOn}
use Rattle.automata_hybrid.specs.Known.Walks.{ReadsSome, after_going_on}
use Rattle.automata_hybrid.specs.Private.Searches.Units.{IsRead}
use Rattle.automata_hybrid.specs.Private.Walks.Answers.{Arrives, IsArrival}
use Rattle.automata_hybrid.specs.Private.Walks.Parts.{HasAdvanced, IsUnitResult}
use Rattle.automata_hybrid.specs.Private.Walks.State.{ended_walk}
use Rattle.automata_hybrid.specs.Walks.Answers.{IsSilent, IsUnheld, WalkReads}
use Rattle.automata_hybrid.specs.Walks.Cached.{IsToRead}
use Rattle.automata_hybrid.specs.Walks.State.{Ended, States, Walk}
use Rattle.automata_hybrid.proofs.Known.PassesFollow.{then_some}
use Rattle.automata_hybrid.proofs.Searches.Goes.{ended_here, left_here, taken_here}
use Rattle.automata_hybrid.proofs.Searches.PassState.{state_more}
use Rattle.automata_hybrid.proofs.Steps.Steps.{no_quit_unit, unit_no_quit}
use Rattle.automata_hybrid.proofs.Walks.Progress.{reads_some, silent_before, walk_reads_before}

-- a unit that was read is not a quit byte, and led to the state after it; otherwise the step on it failed
pub unit_result :
    (way : Direction) (m : Machine) (input : Input) (place id quit_at at : ℕ) (unit : Option ℕ) (old new : CacheView)
    (r : Result ℕ SearchError) → unit_at (tape_in way input) place ≡ unit → unit_offset way input place ≡ quit_at
    → given_up_offset way input place ≡ at → Names old.store.table id (state_in way m input place)
    → IsRead m id unit quit_at at old new r → IsUnitResult way m input place old new r
unit_result way m input place id quit_at at unit old new (Ok n) is first second named h =
    let more =
    state_more way m input place ∙ ap (successor m.nfa (match_kind_of m.config) (state_in way m input place)) is in
    record {
      leads = subst (λ q. Leads new.store.table n q) (sym more) (h.answer.named (state_in way m input place) named);
      clean = λ byte e. no_quit_unit m unit h.answer.clean byte (sym is ∙ e);
      read = taken_here way m input place id at unit old new is second named h.taken;
    }
unit_result way m input place id quit_at at unit old new (Err e) is first second named h =
    left_here way m input place id at unit old new is second named quit_at e first h.fails

-- the state from which a unit is read is not dead
pub read_alive :
    (m : Machine) (id : ℕ) (unit : Option ℕ) (quit_at at : ℕ) (old new : CacheView) (r : Result ℕ SearchError)
    → IsRead m id unit quit_at at old new r → (q : Powerset) → Names old.store.table id q → q ≡ dead → ⊥
read_alive m id unit quit_at at old new (Ok n) h = h.alive
read_alive m id unit quit_at at old new (Err e) h = h.alive

-- the units before the last one that a walk has read report nothing
arrival_silent :
    (way : Direction) (m : Machine) (t : Rows) (input : Input) (from : ℕ) (id : Option ℕ) (units k : ℕ)
    → IsArrival way m t input from id units → from ≤ k → k < units → k ≤ length (tape_in way input).bytes
    → IsSilent way m input from k
arrival_silent way m t input from None units k a more less few =
    silent_before way m input from k (suc (length (tape_in way input).bytes)) more (omega (arith, few)) a.silent
arrival_silent way m t input from (Some id) units k a more less few =
    silent_before way m input from k a.place more (omega (arith, less, a.one_after)) a.silent

-- none of the units that a walk has read is a quit byte
arrival_clean :
    (way : Direction) (m : Machine) (t : Rows) (input : Input) (from : ℕ) (id : Option ℕ) (units k : ℕ)
    → IsArrival way m t input from id units → k < units → WalkReads way m input k
    → quits_on m (unit_at (tape_in way input) k) ≡ false
arrival_clean way m t input from None units k a less reads =
    unit_no_quit m (unit_at (tape_in way input) k) (λ byte unit. a.clean k byte reads unit)
arrival_clean way m t input from (Some id) units k a less reads =
    unit_no_quit m (unit_at (tape_in way input) k) (λ byte unit. a.clean k byte less unit)

-- a walk was resumed at a dead state: its search ended where it began
pub run_dead :
    (way : Direction) (m : Machine) (input : Input) (w : Walk) (old : Known) (begun : CacheView)
    → IsToRead input w.stage w.units w.reported → MayGoOn way m input w.stage
    → after_going_on way m input w.stage w.units old ≡ Some (known_of begun) → state_in way m input w.units ≡ dead
    → (new : CacheView) (at : ℕ) → at ≡ given_up_offset way input w.units
    → new ≡ with_store begun (with_searched begun.store (progress_finished begun.store.searched at))
    → CallEnds way m input w (ended_walk w w.units) old (known_of new)
unfolding after_many
run_dead way m input w old begun r may goes_on dies new at place ends =
    let first : w.units + (0 - 1) ≡ w.units = omega arith in
    ReadsSome (λ over. refl)
    (record {
      some = reads_some input w r;
      may = may;
      begun = known_of begun;
      goes_on = goes_on;
      units = 0;
      counted = omega arith;
      its = (λ k more less. absurd (omega (arith, more, less)), λ over reads. reads.1 dies);
      clean = λ k less. absurd (omega (arith, less));
      run =
          ap Some (sym
          (ended_here way input (w.units + (0 - 1)) at begun new (ap (given_up_offset way input) first ∙ sym place)
          ends));
    })

-- a walk was resumed, its search began at its first unit, and it reached a state that reports patterns, or its end
module _ (way : Direction) (m : Machine) (input : Input) (w : Walk) (old : Known) (begun mid : CacheView)
    (r : IsToRead input w.stage w.units w.reported) (may : MayGoOn way m input w.stage)
    (goes_on : after_going_on way m input w.stage w.units old ≡ Some (known_of begun)) (arrival : Arrival)
    (a : HasAdvanced way m input w.units begun mid arrival) where
  reads_before : (k : ℕ) → k < arrival.units → WalkReads way m input k
  reads_before k less = walk_reads_before way m input k (w.units + a.before) (omega (arith, less, a.counted)) a.reads

  -- the search ended at the last unit that was read
  pub run_on :
      (next : Walk) (new : CacheView) (at : ℕ) → next.units ≡ arrival.units
      → at ≡ given_up_offset way input (arrival.units - 1)
      → new ≡ with_store mid (with_searched mid.store (progress_finished mid.store.searched at))
      → (next.stage ≡ Ended → (next.found ≡ None) × (WalkReads way m input arrival.units → ⊥))
      → CallEnds way m input w next old (known_of new)
  run_on next new at units place ends stops =
      let last : w.units + (suc a.before - 1) ≡ arrival.units - 1 = omega (arith, a.counted) in
      ReadsSome (λ over. (stops over).0)
      (record {
        some = reads_some input w r;
        may = may;
        begun = known_of begun;
        goes_on = goes_on;
        units = suc a.before;
        counted = omega (arith, units, a.counted);
        its = (
          λ k more less. (
              let read : WalkReads way m input k = reads_before k (omega (arith, less, units)) in (
                read,
                arrival_silent way m mid.store.table input w.units arrival.id arrival.units k a.arrives more
                    (omega (arith, less, units)) read.0,
              )),
          λ over reads. (stops over).1 (subst (WalkReads way m input) units reads),
        );
        clean = λ k less.
            arrival_clean way m mid.store.table input w.units arrival.id arrival.units (w.units + k) a.arrives
            (omega (arith, less, a.counted)) (reads_before (w.units + k) (omega (arith, less, a.counted)));
        run =
            ap (option_map (ended (given_up_offset way input (w.units + (suc a.before - 1))))) a.goes
            ∙ ap Some (sym
            (ended_here way input (w.units + (suc a.before - 1)) at mid new
            (ap (given_up_offset way input) last ∙ sym place) ends));
      })

  -- the state there cannot be held
  module _ (id : ℕ) (arrived : Arrives way m mid.store.table input w.units id arrival.units) where
    same_place : arrived.place ≡ w.units + a.before
    same_place = omega (arith, arrived.one_after, a.counted)

    unheld_on : IsUnheld way m input (w.units + a.before) search.OutOfMemory
    unheld_on = record {
      clean = unit_no_quit m (unit_at (tape_in way input) (w.units + a.before))
          (λ byte unit. arrived.clean (w.units + a.before) byte (omega (arith, a.counted)) unit);
      reports = subst (λ n. 0 < length (state_in way m input n).patterns) a.counted
          (arrived.reports (state_in way m input arrival.units) arrived.named);
      unskipped =
          subst (λ n. Skips m → is_split input.haystack (offset_in way input n) ≡ false) same_place
          arrived.unskipped;
      memory = refl;
    }

    left_unheld :
        after_many (pass_trace way m input) way m input w.units (suc a.before) (known_of begun) ≡ Some (known_of mid)
        → CallFailsAtUnit States way m input w.units (known_of begun) (known_of mid) search.OutOfMemory
    unfolding after_many
    left_unheld run =
        let parts =
        then_some (after_unit (pass_trace way m input) way m input (w.units + a.before))
        (after_many (pass_trace way m input) way m input w.units a.before (known_of begun)) (known_of mid) run in
        record {
          units = a.before;
          reads = a.reads;
          clean = λ j byte less unit. arrived.clean j byte (omega (arith, less, a.counted)) unit;
          silent = subst (IsSilent way m input w.units) same_place arrived.silent;
          mid = parts.0;
          run = parts.1;
          left = FailsAfterIt refl unheld_on parts.2;
        }

    pub run_unheld : CallFails States way m input w old (known_of mid) search.OutOfMemory
    run_unheld = FailsOnItsWay (reads_some input w r) may (known_of begun) goes_on (left_unheld a.goes)
