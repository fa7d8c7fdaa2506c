-- What a pass answers, by what its parts answer.
use Rattle.std.proofs.Common.{ℕ, suc, ◌≡◌, ◌≤◌, length, Option, Some, None, true, false, List, Bool}
use Rattle.automata_hybrid.proofs.Words.{Anchored, CacheView, dead, Direction, half_at, HalfMatch, Input, is_quit}
use Rattle.automata_hybrid.proofs.Words.{Leads, Machine, next, offset_in, Powerset, Reads, state_in, tape_in}
use Rattle.automata_base.specs.declared.util.search.Span.{Span}
use Rattle.automata_hybrid.specs.Searches.PassContracts.{IsPassAnswer, IsUnderway}
use Rattle.automata_hybrid.specs.Private.Searches.PassContracts.{input_at}
use Rattle.automata_hybrid.specs.Private.Searches.Units.{IsReadAnswer}
use Rattle.automata_hybrid.proofs.Searches.PassState.{clean_dead, clean_ends, clean_last, more_dead, more_ends}
use Rattle.automata_hybrid.proofs.Searches.PassState.{more_last, stops_dead, stops_ends}
use Rattle.automata_hybrid.proofs.Steps.Steps.{no_quit_unit}

-- rebuilding an input from its parts gives the input
pub same_input :
    (input : Input) (haystack : List ℕ) (span : Span) (anchored : Anchored) (earliest : Bool)
    → haystack ≡ input.haystack → span.start ≡ input.start → span.end ≡ input.end → anchored ≡ input.anchored
    → earliest ≡ input.earliest
    → input_at haystack span anchored earliest ≡ input
same_input input haystack span anchored earliest h s e a f = λ i. record {
  haystack = h i;
  start = s i;
  end = e i;
  anchored = a i;
  earliest = f i;
}

-- a pass reads the unit at its current place
module _ (way : Direction) (m : Machine) (input : Input) (k id : ℕ) (u : Option ℕ) (found : Option HalfMatch)
    (old after : CacheView) (underway : IsUnderway way m old.store.table input k id found)
    (unit : next (tape_in way input) k ≡ u) where
  -- what the pass answers
  module _ (n : ℕ) (half : Option HalfMatch) (a : IsReadAnswer m id u old after n) where
    free : (byte : ℕ) → u ≡ Some byte → is_quit m.quits byte ≡ false
    free = no_quit_unit m u a.clean

    -- the unit was the last one
    pub last_answer :
        (at : ℕ) → at ≡ offset_in way input k
        → ((q : Powerset) → Leads after.store.table n q → half ≡ half_at q.patterns at found)
        → k ≡ length (tape_in way input).bytes → IsPassAnswer way m input half
    last_answer at place reports last = record {
      found =
          more_last way m old.store.table after.store.table input k id n u found half underway.at unit a.named free
          (at, place, reports) last;
      clean =
          clean_last way m old.store.table after.store.table input k id n u found half underway.at unit a.named free
          last underway.may.0;
      supported = underway.may.1;
    }

    -- the state after the unit is dead
    module _
        (dies : Leads after.store.table n (state_in way m input (suc k)) → state_in way m input (suc k) ≡ dead) where
      pub dead_answer : k ≤ length (tape_in way input).bytes → IsPassAnswer way m input found
      dead_answer few = record {
        found =
            more_dead way m old.store.table after.store.table input k id n u found half underway.at unit a.named free
            dies few;
        clean =
            clean_dead way m old.store.table after.store.table input k id n u found half underway.at unit a.named free
            dies underway.may.0;
        supported = underway.may.1;
      }

      pub dead_stops : (j : ℕ) → suc k ≤ j → Reads way m input j → ⊥
      dead_stops =
          stops_dead way m old.store.table after.store.table input k id n u found half underway.at unit a.named free
          dies

    -- an earliest pass has found something
    module _ (at : ℕ) (place : at ≡ offset_in way input k)
        (reports : (q : Powerset) → Leads after.store.table n q → half ≡ half_at q.patterns at found)
        (early : input.earliest ≡ true) (some : half ≡ None → ⊥) where
      pub first_answer : k ≤ length (tape_in way input).bytes → IsPassAnswer way m input half
      first_answer few = record {
        found =
            more_ends way m old.store.table after.store.table input k id n u found half underway.at unit a.named free
            (at, place, reports) few early some;
        clean =
            clean_ends way m old.store.table after.store.table input k id n u found half underway.at unit a.named free
            (at, place, reports) early some underway.may.0;
        supported = underway.may.1;
      }

      pub first_stops : (j : ℕ) → suc k ≤ j → Reads way m input j → ⊥
      first_stops =
          stops_ends way m old.store.table after.store.table input k id n u found half underway.at unit a.named free
          (at, place, reports) early some
