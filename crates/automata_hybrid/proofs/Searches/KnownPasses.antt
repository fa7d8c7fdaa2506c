-- Passes over cached transitions only: how they end, and their effect on what the cache knows.
use Rattle.std.proofs.Common.{ℕ, suc, ◌≡◌, ◌+◌, ◌<◌, ◌≤◌, ◌⊎◌, inl, inr, length, Option, None, Some, true, false}
use Rattle.std.proofs.Common.{refl, sym, ap, subst, arith}
use Rattle.std.proofs.lemmas.Bool.{cases_lt}
use Rattle.automata_hybrid.proofs.Words.{CacheView, dead, Direction, given_up_offset, half_at, HalfMatch, HasDeadTag}
use Rattle.automata_hybrid.proofs.Words.{HasReadNoQuit, Input, IsCacheOf, IsMachine, IsStepAnswer, IsStoreOf, IsUnit}
use Rattle.automata_hybrid.proofs.Words.{known_of, KnowsStep, Leads, Machine, next, offset_in, Powerset}
use Rattle.automata_hybrid.proofs.Words.{progress_started, quit_id, quits_on, Reads, Rows, saturated, state_in, tape_in}
use Rattle.automata_hybrid.proofs.Words.{total_len, unit_class, UnitsEnd, with_searched, with_store}
use Rattle.automata_hybrid.specs.Cache.Progress.{distance}
use Rattle.automata_hybrid.specs.Private.Cache.Table.{IsSoundTable}
use Rattle.automata_hybrid.specs.Cache.Ids.{HasQuitTag}
use Rattle.automata_hybrid.specs.Known.Known as known
use Rattle.automata_hybrid.specs.Searches.PassContracts.{IsPassAnswer}
use Rattle.automata_hybrid.specs.Private.Searches.PassContracts.{IsKnownEnd, IsKnownUpto}
use Rattle.automata_hybrid.specs.Private.Searches.PassState.{HasLearnedUnit}
use Rattle.automata_hybrid.specs.Private.Searches.Units.{IsReadAnswer}
use Rattle.automata_hybrid.proofs.Searches.PassContracts.{dead_answer, dead_stops, first_answer, first_stops}
use Rattle.automata_hybrid.proofs.Searches.PassContracts.{last_answer}
use Rattle.automata_hybrid.proofs.Searches.PassState.{at_reads, more_leads, reads_before, stops_last}
use Rattle.automata_hybrid.proofs.Steps.Steps.{no_quit_unit}
use Rattle.automata_hybrid.proofs.Storage.Searched.{searched_sound}
use Rattle.automata_hybrid.proofs.Steps.Ids.{dead_tagged, unquit}
use Rattle.automata_hybrid.proofs.Searches.Goes.{goes_known, goes_none, pass_last}

-- a unit whose step leads to an ID without the quit tag is not a quit byte
pub clean_unit :
    (m : Machine) (t : Rows) (to : ℕ) (unit : Option ℕ) → t.of ≡ m → t.of.stride ≤ 512 → (HasQuitTag to → ⊥)
    → (quits_on m unit ≡ true → to ≡ quit_id m.stride) → quits_on m unit ≡ false
clean_unit m t to None of small clear quit = refl
clean_unit m t to (Some byte) of small clear quit = unquit m t to byte of small clear quit

module _ (way : Direction) (m : Machine) (input : Input) (k id : ℕ) (c : CacheView) where
  -- the effect of such a pass on its cache, once its bytes are counted
  module _ (half : Option HalfMatch) (new : CacheView) (machine : IsMachine m)
      (units_are : (j : ℕ) → IsUnit (next (tape_in way input) j)) (end : IsKnownEnd way m c input k id half)
      (sound : IsStoreOf c.store m)
      (counted : new ≡ with_store c (with_searched c.store (record {
        bytes =
            saturated (total_len c.store.searched
            + distance (record { start = given_up_offset way input 0; place = given_up_offset way input k }));
        running = None;
      }))) where
    pub known_ended : UnitsEnd way m input (known.begun (given_up_offset way input 0) (known_of c)) (known_of new)
    known_ended =
        pass_last way m input k (known_of begun) (known_of begun) (known_of new) end.reads
        (end.stops (suc k) (omega arith)) clean
        (goes_known way m input 0 (known_of begun) machine units_are 0 (suc k) begun there
        (goes_none way m input 0 (known_of begun)) (omega arith) clean
        (λ j from less. upto j (omega (arith, less)) (cases_lt j k)))
        (ap known_of counted)
      where
        begun : CacheView
        begun = with_store c (with_searched c.store (progress_started c.store.searched (given_up_offset way input 0)))

        there : IsStoreOf begun.store m
        there = searched_sound m c.store _ sound

        clean : HasReadNoQuit way m input (suc k)
        clean j byte less unit =
            end.answer.clean.1 j byte (reads_before way m input j k (omega (arith, less)) end.reads) unit

        upto : (j : ℕ) → j ≤ k → (j < k) ⊎ (k ≤ j) → HasLearnedUnit way m c.store input j
        upto j less (inl before) = end.upto.known j before
        upto j less (inr more) =
            let same : k ≡ j = omega (arith, less, more) in
            subst (HasLearnedUnit way m c.store input) same end.known

-- everything before the current place of a pass is cached, and so is the transition on the unit there, which is not a
-- quit byte
module _ (way : Direction) (m : Machine) (input : Input) (k id : ℕ) (c : CacheView) (before : Option HalfMatch) (to : ℕ)
    (of : IsCacheOf c m) (sound : IsSoundTable c.store.table) (upto : IsKnownUpto way m c.store input k id before)
    (few : k ≤ length (tape_in way input).bytes) (knows : KnowsStep m c.store id (next (tape_in way input) k))
    (step : IsStepAnswer m id (next (tape_in way input) k) c c to)
    (below : unit_class m (next (tape_in way input) k) < m.stride) (clear : HasQuitTag to → ⊥) where
  answer : IsReadAnswer m id (next (tape_in way input) k) c c to
  answer =
      let clean : quits_on m (next (tape_in way input) k) ≡ false =
      clean_unit m c.store.table to (next (tape_in way input) k) of sound.template.small clear
      (step.quit (sound.low id (state_in way m input k) upto.at.at.named)) in
      record { clean = clean; named = step.named clean }

  pub known_leads : Leads c.store.table to (state_in way m input (suc k))
  known_leads =
      more_leads way m c.store.table c.store.table input k id to (next (tape_in way input) k) before None upto.at.at
      refl answer.named
      (no_quit_unit m (next (tape_in way input) k) answer.clean)

  here : HasLearnedUnit way m c.store input k
  here = (
    (id, upto.at.at.named, knows),
    subst (λ (d : Machine). unit_class m (next (tape_in way input) k) < d.stride) (sym of) below,
  )

  -- a pass ends with this unit
  ends_known :
      (half : Option HalfMatch) → ((j : ℕ) → suc k ≤ j → Reads way m input j → ⊥) → IsPassAnswer way m input half
      → IsKnownEnd way m c input k id half
  ends_known half stops answer = record {
    before = before;
    upto = upto;
    answer = answer;
    reads = at_reads way m c.store.table input k id before upto.at.at few (sound.alive id);
    stops = stops;
    known = here;
  }

  -- it ends if the state after the unit is dead
  pub known_dead : HasDeadTag to → IsKnownEnd way m c input k id before
  known_dead dead_to =
      ends_known before
      (dead_stops way m input k id (next (tape_in way input) k) before c c upto.at refl to None answer dies)
      (dead_answer way m input k id (next (tape_in way input) k) before c c upto.at refl to None answer dies few)
    where
      dies : Leads c.store.table to (state_in way m input (suc k)) → state_in way m input (suc k) ≡ dead
      dies l =
          (dead_tagged c.store.table to (sound.low to) sound.template.small (state_in way m input (suc k)) l).0 dead_to

  module _ (half : Option HalfMatch) (at : ℕ) (place : at ≡ offset_in way input k)
      (reports : (q : Powerset) → Leads c.store.table to q → half ≡ half_at q.patterns at before) where
    -- it ends if this is the last unit
    pub known_last : k ≡ length (tape_in way input).bytes → IsKnownEnd way m c input k id half
    known_last last =
        ends_known half (stops_last way m input k last)
        (last_answer way m input k id (next (tape_in way input) k) before c c upto.at refl to half answer at place
        reports last)

    -- it ends if it is earliest and has found something
    pub known_first : input.earliest ≡ true → (half ≡ None → ⊥) → IsKnownEnd way m c input k id half
    known_first early some =
        ends_known half
        (first_stops way m input k id (next (tape_in way input) k) before c c upto.at refl to half answer at place
        reports early some)
        (first_answer way m input k id (next (tape_in way input) k) before c c upto.at refl to half answer at place
        reports early some few)
