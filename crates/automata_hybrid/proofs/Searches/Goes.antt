-- Units that are read one after another, and the end of a pass after them, by what the cache knows.
use Rattle.std.proofs.Common.{ℕ, zero, suc, ◌≡◌, ◌∙◌, ◌+◌, ◌-◌, ◌<◌, ◌≤◌, ◌⊎◌, inl, inr, length, Option, Some, true}
use Rattle.std.proofs.Common.{false, refl, sym, ap, subst, arith, eq-or-lt_of_le}
use Rattle.automata_hybrid.proofs.Words.{after_event, after_many, after_unit, behind_offset, CacheView, CannotStart}
use Rattle.automata_hybrid.proofs.Words.{Direction, ended, Err, FailsLater, given_up_offset, GivesUp, HalfMatch}
use Rattle.automata_hybrid.proofs.Words.{HasReadNoQuit, Input, is_cached, IsMachine, IsStoreOf, IsUnit, Known, known_of}
use Rattle.automata_hybrid.proofs.Words.{LacksMemory, LacksMode, Machine, moved, Names, next, offset_in, Ok}
use Rattle.automata_hybrid.proofs.Words.{option_and_then, option_map, pass_trace, PassFails, Powerset}
use Rattle.automata_hybrid.proofs.Words.{progress_finished, progress_started, quits_on, QuitsBehind, ReadFails, Reads}
use Rattle.automata_hybrid.proofs.Words.{Result, SearchError, start_search_error, StartError, state_in, Step, tape_in}
use Rattle.automata_hybrid.proofs.Words.{Trace, unit_class, unit_event, unit_offset, UnitFails, UnitsEnd, with_searched}
use Rattle.automata_hybrid.proofs.Words.{with_store}
use Rattle.automata_hybrid.specs.Known.Known as known
use Rattle.automata_hybrid.specs.Known.Passes.{FailsAtUnit}
use Rattle.automata_hybrid.specs.Known.Steps.{GivesUpOnStart, IsNotSupported, IsQuitBehind, IsStartRun, RunsOutOnStart}
use Rattle.automata_hybrid.specs.Known.Steps.{StartFails, StartFailsAt}
use Rattle.automata_hybrid.specs.Private.Searches.PassContracts.{IsLastRead, IsPassResult, IsRest}
use Rattle.automata_hybrid.specs.Private.Searches.PassState.{HasLearnedAlong}
use Rattle.automata_hybrid.specs.Private.Searches.Units.{StepMakes}
use Rattle.automata_hybrid.proofs.Known.Calls.{after_cached}
use Rattle.automata_hybrid.proofs.Known.Events.{cached_known}
use Rattle.automata_hybrid.proofs.Searches.PassState.{reads_before, stops_last}
use Rattle.automata_hybrid.proofs.Steps.Steps.{unit_no_quit}

-- the effect of the units from one place to another on what a cache knows
pub record GoesToAlong (s : Trace) (way : Direction) (m : Machine) (input : Input) (from to : ℕ) (old new : Known) :
    Type 0 where
  pub units : ℕ
  pub upto : from + units ≡ to
  pub run : after_many s way m input from units old ≡ Some new

abbrev pub GoesTo : Direction → Machine → Input → (from to : ℕ) → (old new : Known) → Type 0
GoesTo way m input from to old new = GoesToAlong (pass_trace way m input) way m input from to old new

-- a transition that was learned is cached
learned_cached :
    (s : Trace) (way : Direction) (m : Machine) (input : Input) (k : ℕ) (c : CacheView) → IsMachine m
    → IsUnit (next (tape_in way input) k) → IsStoreOf c.store m → quits_on m (next (tape_in way input) k) ≡ false
    → HasLearnedAlong s way m c.store input k → is_cached m (unit_event s way input k) (known_of c) ≡ true
learned_cached s way m input k c machine is sound clean learned =
    (cached_known m (unit_event s way input k) c machine
    (clean, subst (λ (d : Machine). unit_class m (next (tape_in way input) k) < d.stride) sound.of learned.1) is
    sound).0
    learned.0

module _ {s : Trace} (way : Direction) (m : Machine) (input : Input) (from : ℕ) (old : Known) where
  pub goes_none : GoesToAlong s way m input from from old old
  unfolding after_many
  goes_none = record { units = 0; upto = omega arith; run = refl }

  -- one more unit
  pub goes_more :
      (k : ℕ) (mid new : Known) → GoesToAlong s way m input from k old mid → after_unit s way m input k mid ≡ Some new
      → GoesToAlong s way m input from (suc k) old new
  unfolding after_many
  goes_more k mid new before here =
      let last : from + before.units ≡ k = before.upto in
      record {
        units = suc before.units;
        upto = omega (arith, last);
        run =
            ap (option_and_then (after_unit s way m input (from + before.units))) before.run
            ∙ ap (λ j. after_unit s way m input j mid) last
            ∙ here;
      }

  -- units whose transitions are cached change nothing
  module _ (machine : IsMachine m) (units_are : (j : ℕ) → IsUnit (next (tape_in way input) j)) where
    pub goes_known :
        (k to : ℕ) (c : CacheView) → IsStoreOf c.store m → GoesToAlong s way m input from k old (known_of c) → k ≤ to
        → HasReadNoQuit way m input to → ((j : ℕ) → k ≤ j → j < to → HasLearnedAlong s way m c.store input j)
        → GoesToAlong s way m input from to old (known_of c)
    goes_known k zero c sound before more clean learned =
        let none : k ≡ 0 = omega (arith, more) in
        subst (λ n. GoesToAlong s way m input from n old (known_of c)) none before
    goes_known k (suc to) c sound before more clean learned =
        go (eq-or-lt_of_le more) (λ less. goes_known k to c sound before less
        (λ j byte below unit. clean j byte (omega (arith, below)) unit)
        (λ j from below. learned j from (omega (arith, below))))
      where
        here :
            HasLearnedAlong s way m c.store input to
            → after_unit s way m input to (known_of c) ≡ Some (known_of c)
        here has =
            after_cached m (unit_event s way input to) (moved (given_up_offset way input to) (known_of c)) (known_of c)
            (learned_cached s way m input to c machine (units_are to) sound
            (unit_no_quit m (next (tape_in way input) to) (λ byte unit. clean to byte (omega arith) unit)) has)

        go :
            (k ≡ suc to) ⊎ (k < suc to) → (k ≤ to → GoesToAlong s way m input from to old (known_of c))
            → GoesToAlong s way m input from (suc to) old (known_of c)
        go (inl same) upto = subst (λ n. GoesToAlong s way m input from n old (known_of c)) same before
        go (inr less) upto =
            goes_more to (known_of c) (known_of c) (upto (omega (arith, less)))
            (here (learned to (omega (arith, less)) (omega arith)))

-- at least one unit was read
pub goes_some :
    (way : Direction) (m : Machine) (input : Input) (from k : ℕ) (old new : Known) → from ≤ k
    → GoesTo way m input from (suc k) old new
    → (n : ℕ) × (from + n ≡ k) × (after_many (pass_trace way m input) way m input from (suc n) old ≡ Some new)
goes_some way m input from k old new more all =
    let upto : from + all.units ≡ suc k = all.upto in
    let one : all.units ≡ suc (all.units - 1) = omega (arith, upto, more) in (
      all.units - 1,
      omega (arith, upto, more),
      subst (λ n. after_many (pass_trace way m input) way m input from n old ≡ Some new) one all.run,
    )

-- all units before a place, from the first one on
pub goes_all :
    {s : Trace} {way : Direction} {m : Machine} {input : Input} {k : ℕ} {old new : Known}
    → GoesToAlong s way m input 0 k old new → after_many s way m input 0 k old ≡ Some new
goes_all {s} {way} {m} {input} {k} {old} {new} all =
    let upto : 0 + all.units ≡ k = all.upto in
    let same : all.units ≡ k = omega (arith, upto) in
    subst (λ n. after_many s way m input 0 n old ≡ Some new) same all.run

-- a pass has ended after the unit that it read, which was its last
pub pass_last :
    (way : Direction) (m : Machine) (input : Input) (k : ℕ) (begun mid new : Known) → Reads way m input k
    → (Reads way m input (suc k) → ⊥) → HasReadNoQuit way m input (suc k) → GoesTo way m input 0 (suc k) begun mid
    → new ≡ ended (given_up_offset way input k) mid → UnitsEnd way m input begun new
pass_last way m input k begun mid new reads stops clean all last =
    let upto : 0 + all.units ≡ suc k = all.upto in
    let same : all.units ≡ suc k = omega (arith, upto) in
    let at : all.units - 1 ≡ k = omega (arith, upto) in
    record {
      units = all.units;
      reads = (
        λ j less. reads_before way m input j k (omega (arith, less, same)) reads,
        subst (λ n. Reads way m input n → ⊥) (sym same) stops,
      );
      clean = λ j byte less unit. clean j byte (omega (arith, less, same)) unit;
      run =
          ap (option_map (ended (given_up_offset way input (all.units - 1)))) all.run
          ∙ ap (λ j. Some (ended (given_up_offset way input j) mid)) at
          ∙ ap Some (sym last);
    }

-- a pass failed at the next unit
pub pass_stopped :
    (way : Direction) (m : Machine) (input : Input) (k : ℕ) (begun mid new : Known) (e : SearchError)
    → Reads way m input k → HasReadNoQuit way m input k → GoesTo way m input 0 k begun mid
    → UnitFails way m input k mid new e → FailsAtUnit way m input begun new e
pass_stopped way m input k begun mid new e reads clean all fails =
    record { place = k; reads = reads; clean = clean; mid = mid; run = goes_all all; fails = fails }

-- once the units before it are read, reading the last unit is the rest of a pass
pub last_rest :
    (way : Direction) (m : Machine) (input : Input) (begun mid new : Known)
    (r : Result (Option HalfMatch) SearchError) → input.end - input.start ≡ length (tape_in way input).bytes
    → Reads way m input (input.end - input.start) → HasReadNoQuit way m input (input.end - input.start)
    → GoesTo way m input 0 (input.end - input.start) begun mid → IsLastRead way m input mid new r
    → IsRest way m input begun new r
last_rest way m input begun mid new (Ok half) units reads clean before last = record {
  answer = last.answer;
  ended =
      pass_last way m input (input.end - input.start) begun last.mid new reads
      (stops_last way m input (input.end - input.start) units (suc (input.end - input.start)) (omega arith))
      (λ j byte less unit. last.answer.clean.1 j byte
      (reads_before way m input j (input.end - input.start) (omega (arith, less)) reads) unit)
      (goes_more way m input 0 begun (input.end - input.start) mid last.mid before last.read) last.ended;
}
last_rest way m input begun mid new (Err e) units reads clean before last =
    pass_stopped way m input (input.end - input.start) begun mid new e reads clean before last

-- once a pass has its start state and its search has begun, the pass returns what its rest returns
pub rest_passes :
    (way : Direction) (m : Machine) (input : Input) (old mid begun new : Known)
    (r : Result (Option HalfMatch) SearchError) → IsStartRun m input.anchored (tape_in way input).before old mid
    → begun ≡ known.begun (given_up_offset way input 0) mid → IsRest way m input begun new r
    → IsPassResult way m input old new r
rest_passes way m input old mid begun new (Ok half) starts begins rest = record {
  answer = rest.answer;
  ends = record {
    may = starts.may;
    begun = begun;
    starts = ap (option_map (known.begun (given_up_offset way input 0))) starts.does ∙ ap Some (sym begins);
    ends = rest.ended;
  };
}
rest_passes way m input old mid begun new (Err e) starts begins rest =
    FailsLater starts.may begun
    (ap (option_map (known.begun (given_up_offset way input 0))) starts.does ∙ ap Some (sym begins)) rest

-- a pass whose start state is dead reads nothing
pub pass_dies :
    (way : Direction) (m : Machine) (input : Input) (begun new : Known) → (Reads way m input 0 → ⊥)
    → new ≡ ended (given_up_offset way input 0) begun → UnitsEnd way m input begun new
unfolding after_many
pass_dies way m input begun new none last = record {
  units = 0;
  reads = (λ j less. absurd (omega (arith, less)), none);
  clean = λ j byte less unit. absurd (omega (arith, less));
  run = ap Some (sym last);
}

-- a pass without a start state fails
pub start_fails_pass :
    (way : Direction) (m : Machine) (input : Input) (old new : Known) (e : SearchError)
    → StartFailsAt m input.anchored (tape_in way input).before (behind_offset way input) (offset_in way input 0)
    old new e
    → PassFails way m input old new e
start_fails_pass way m input old new e f = go f.error f.fails f.reported where
  go :
      (error : StartError) → StartFails m input.anchored (tape_in way input).before old new error
      → e ≡ start_search_error error (behind_offset way input) (offset_in way input 0) → PassFails way m input old new e
  go error (IsQuitBehind byte quits is same) reported =
      QuitsBehind byte quits
      (reported ∙ ap (λ x. start_search_error x (behind_offset way input) (offset_in way input 0)) is) same
  go error (IsNotSupported clear lacks is same) reported =
      LacksMode clear lacks
      (reported ∙ ap (λ x. start_search_error x (behind_offset way input) (offset_in way input 0)) is) same
  go error (GivesUpOnStart may unknown none err is same) reported =
      CannotStart may (record {
        unknown = unknown;
        unchanged = same;
        why = GivesUp none
            (reported ∙ ap (λ x. start_search_error x (behind_offset way input) (offset_in way input 0)) is);
      })
  go error (RunsOutOnStart may unknown is same) reported =
      CannotStart may (record {
        unknown = unknown;
        unchanged = same;
        why = LacksMemory
            (reported ∙ ap (λ x. start_search_error x (behind_offset way input) (offset_in way input 0)) is);
      })

-- the search has reached the unit at a place at its offset, from an ID that names the state there
module _ (s : Trace) (way : Direction) (m : Machine) (input : Input) (k id at : ℕ) (unit : Option ℕ) (c new : CacheView)
    (is : next (tape_in way input) k ≡ unit) (place : given_up_offset way input k ≡ at)
    (named : Names c.store.table id (s.state k)) where
  -- the unit is read
  pub taken_along :
      ((q : Powerset) → Names c.store.table id q → StepMakes m q unit at c new)
      → after_unit s way m input k (known_of c) ≡ Some (known_of new)
  taken_along taken =
      ap (λ a. after_event m (unit_event s way input k) (moved a (known_of c)) (known_of c)) place
      ∙ ap (λ u. after_event m (Step (s.state k) u) (moved at (known_of c)) (known_of c)) is
      ∙ taken (s.state k) named

  -- reading the unit fails
  pub left_along :
      (quit_at : ℕ) (e : SearchError)
      → ((q : Powerset) → Names c.store.table id q → ReadFails m q unit quit_at at at (known_of c) (known_of new) e)
      → ReadFails m (s.state k) (next (tape_in way input) k) quit_at (given_up_offset way input k)
      (given_up_offset way input k) (known_of c) (known_of new) e
  left_along quit_at e fails =
      subst (λ a. ReadFails m (s.state k) (next (tape_in way input) k) quit_at a a (known_of c) (known_of new) e)
      (sym place)
      (subst (λ u. ReadFails m (s.state k) u quit_at at at (known_of c) (known_of new) e) (sym is)
      (fails (s.state k) named))

-- the same in a pass
module _ (way : Direction) (m : Machine) (input : Input) (k id at : ℕ) (unit : Option ℕ) (c new : CacheView)
    (is : next (tape_in way input) k ≡ unit) (place : given_up_offset way input k ≡ at)
    (named : Names c.store.table id (state_in way m input k)) where
  pub taken_here :
      ((q : Powerset) → Names c.store.table id q → StepMakes m q unit at c new)
      → after_unit (pass_trace way m input) way m input k (known_of c) ≡ Some (known_of new)
  taken_here = taken_along (pass_trace way m input) way m input k id at unit c new is place named

  pub left_here :
      (quit_at : ℕ) (e : SearchError) → unit_offset way input k ≡ quit_at
      → ((q : Powerset) → Names c.store.table id q → ReadFails m q unit quit_at at at (known_of c) (known_of new) e)
      → UnitFails way m input k (known_of c) (known_of new) e
  left_here quit_at e quits fails =
      subst (λ a. ReadFails m (state_in way m input k) (next (tape_in way input) k) a (given_up_offset way input k)
      (given_up_offset way input k) (known_of c) (known_of new) e)
      (sym quits)
      (left_along (pass_trace way m input) way m input k id at unit c new is place named quit_at e fails)

-- a search begins at the offset of its first unit
pub begun_here :
    (way : Direction) (input : Input) (at : ℕ) (old new : CacheView) → given_up_offset way input 0 ≡ at
    → new ≡ with_store old (with_searched old.store (progress_started old.store.searched at))
    → known_of new ≡ known.begun (given_up_offset way input 0) (known_of old)
begun_here way input at old new place begins =
    ap known_of begins ∙ ap (λ a. known.begun a (known_of old)) (sym place)

-- a search ends at the offset of a unit
pub ended_here :
    (way : Direction) (input : Input) (k at : ℕ) (mid new : CacheView) → given_up_offset way input k ≡ at
    → new ≡ with_store mid (with_searched mid.store (progress_finished mid.store.searched at))
    → known_of new ≡ ended (given_up_offset way input k) (known_of mid)
ended_here way input k at mid new place last = ap known_of last ∙ ap (λ a. ended a (known_of mid)) (sym place)
