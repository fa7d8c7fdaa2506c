-- If nothing else can prevent an answer, the only error of a call is out of memory, by what a cache knows.
use Rattle.std.proofs.Common.{ℕ, ◌≡◌, ◌∙◌, ◌+◌, ◌≤◌, Bool, true, false, cond, length, Option, None, Some, refl, sym, ap}
use Rattle.std.proofs.Common.{arith}
use Rattle.automata_hybrid.proofs.Words.{Backward, CannotStart, CannotStep, cleared, Direction, Err, Event, EventFails}
use Rattle.automata_hybrid.proofs.Words.{FailsLater, fits, Forward, given_up_offset, GivesUp, has_state, IfErr, Input}
use Rattle.automata_hybrid.proofs.Words.{is_quit, IsSearchRun, Known, LacksMemory, LacksMode, later, Machine, made}
use Rattle.automata_hybrid.proofs.Words.{MeetsQuit, minimum_cache_clear_count_of, moved, offset_in, Ok, option_map}
use Rattle.automata_hybrid.proofs.Words.{pass_trace, PassFails, QuitsBehind, Result, result_err, Row, SearchError}
use Rattle.automata_hybrid.proofs.Words.{slot_behind, Start, start_event, start_state_of, Step, supports, tape_in}
use Rattle.automata_hybrid.proofs.Words.{row_cost, unit_class, unit_event, UnitFails, with_row}
use Rattle.automata_base.proofs.Paths.Orders.{some_none}
use Rattle.automata_hybrid.specs.Known.Effects.{asked_row}
use Rattle.automata_hybrid.specs.Known.Events.{refuses_past, refuses_to_clear, with_start, with_state}
use Rattle.automata_hybrid.specs.Known.Events.{with_step}
use Rattle.automata_hybrid.specs.Known.Known.{cleared_saving}
use Rattle.automata_hybrid.specs.Known.Passes.{FailsFor}
use Rattle.automata_hybrid.specs.Known.Passes.{SearchFails}
use Rattle.automata_hybrid.specs.Searches.Contracts.{IsMemory, IsUnhindered}
use Rattle.automata_hybrid.proofs.Searches.Directions.{later_anchored}
use Rattle.automata_hybrid.proofs.Searches.PassState.{false_true}
use Rattle.automata_hybrid.proofs.Searches.Reach.{InReach, behind_reach, is_behind, later_reach, unit_reach}

-- without a limit on clears, a clear is always allowed
never_refuses :
    (m : Machine) (c : Known) → minimum_cache_clear_count_of m.config ≡ None → refuses_to_clear m c ≡ false
never_refuses m c free = ap (refuses_past m c) free

-- so a state can always be added
pub state_made :
    (m : Machine) (emptied : Known) (r : Row) (c : Known) → minimum_cache_clear_count_of m.config ≡ None
    → with_state m emptied r c ≡ None → ⊥
state_made m emptied r c free none = there (has_state c r.state) none where
  cleared_first : (b : Bool) → b ≡ false → ◌≡◌ {A = Option Known} (cond b None (Some (with_row r emptied))) None → ⊥
  cleared_first true refuses none = false_true (sym refuses)
  cleared_first false refuses none = some_none none

  absent :
      (b : Bool)
      → ◌≡◌ {A = Option Known}
      (cond b (Some (with_row r c)) (cond (refuses_to_clear m c) None (Some (with_row r emptied)))) None
      → ⊥
  absent true none = some_none none
  absent false none = cleared_first (refuses_to_clear m c) (never_refuses m c free) none

  there :
      (b : Bool)
      → ◌≡◌ {A = Option Known}
      (cond b (Some c) (cond (fits m c (row_cost r)) (Some (with_row r c))
      (cond (refuses_to_clear m c) None (Some (with_row r emptied)))))
      None → ⊥
  there true none = some_none none
  there false none = absent (fits m c (row_cost r)) none

none_mapped : {A B : Type 0} (f : A → B) (o : Option A) → option_map f o ≡ None → o ≡ None
none_mapped f None none = refl
none_mapped f (Some x) none = absurd (some_none none)

event_made :
    (m : Machine) (e : Event) (c : Known) → minimum_cache_clear_count_of m.config ≡ None → made m e c ≡ None → ⊥
event_made m (Start mode behind) c free none =
    state_made m (cleared c) (asked_row m (Start mode behind)) c free
    (none_mapped (with_start (slot_behind m mode behind) (start_state_of m.nfa mode behind))
    (with_state m (cleared c) (asked_row m (Start mode behind)) c) none)
event_made m (Step q unit) c free none =
    state_made m (cleared_saving q c) (asked_row m (Step q unit)) c free
    (none_mapped (with_step q (unit_class m unit))
    (with_state m (cleared_saving q c) (asked_row m (Step q unit)) c) none)

-- then the only error of an event is out of memory
pub event_memory :
    (m : Machine) (e : Event) (at : ℕ) (old new : Known) (error : SearchError)
    → minimum_cache_clear_count_of m.config ≡ None → EventFails m e at old new error → IsMemory error
event_memory m e at old new error free fails = go fails.why where
  go : FailsFor m e at old error → IsMemory error
  go (GivesUp none is) = absurd (event_made m e old free none)
  go (LacksMemory is) = is

-- a pass over a span with no quit byte in reach
module _ (way : Direction) (m : Machine) (input : Input) (undone : input.start ≤ input.end)
    (few : input.end ≤ length input.haystack) (clean : (byte : ℕ) → InReach input byte → is_quit m.quits byte ≡ false)
    (mode : supports m input.anchored ≡ true) (free : minimum_cache_clear_count_of m.config ≡ None) where
  pub unit_memory :
      (place : ℕ) (mid new : Known) (error : SearchError) → place ≤ length (tape_in way input).bytes
      → UnitFails way m input place mid new error → IsMemory error
  unit_memory place mid new error within (MeetsQuit byte unit quits is same) =
      absurd (false_true (sym (clean byte (unit_reach way input place byte undone few within unit)) ∙ quits))
  unit_memory place mid new error within (CannotStep steps fails) =
      event_memory m (unit_event (pass_trace way m input) way input place) (given_up_offset way input place)
      (moved (given_up_offset way input place) mid) new error free fails

  pub pass_memory : (old new : Known) (error : SearchError) → PassFails way m input old new error → IsMemory error
  pass_memory old new error (QuitsBehind byte quits is same) =
      let b = is_behind m (tape_in way input).before byte quits in
      absurd (false_true (sym (clean byte (behind_reach way input byte undone b.0)) ∙ b.1))
  pass_memory old new error (LacksMode clear lacks is same) = absurd (false_true (sym lacks ∙ mode))
  pass_memory old new error (CannotStart may fails) =
      event_memory m (start_event way input) (offset_in way input 0) old new error free fails
  pass_memory old new error (FailsLater may first starts f) = unit_memory f.place f.mid new error f.reads.0 f.fails

-- the only error of a search that nothing else can prevent is out of memory
pub search_memory :
    (way : Direction) (m : Machine) (input : Input) (old new : Known) (error : SearchError)
    → input.end ≤ length input.haystack → IsUnhindered m input → SearchFails way m input old new error → IsMemory error
search_memory way m input old new error few free e =
    let ahead = inside way in
    pass_memory way m (later way e.passes input) ahead.0 ahead.1 clean
    (ap (supports m) (later_anchored way e.passes input) ∙ free.supported) free.clears e.mid new error e.fails
  where
    within : input.start + e.passes ≤ input.end
    within = (e.tried e.passes (omega arith)).1

    inside :
        (w : Direction)
        → ((later w e.passes input).start ≤ (later w e.passes input).end)
        × ((later w e.passes input).end ≤ length (later w e.passes input).haystack)
    inside Forward = (within, few)
    inside Backward = (omega (arith, within), omega (arith, few))

    clean : (byte : ℕ) → InReach (later way e.passes input) byte → is_quit m.quits byte ≡ false
    clean byte r =
        let o : InReach input byte = later_reach way e.passes input byte within r in free.reach o.0 byte o.1 o.2 o.3

-- the same for the result of a search
pub call_memory :
    {A : Type 0} (way : Direction) (m : Machine) (input : Input) (old new : Known) (r : Result A SearchError)
    → input.end ≤ length input.haystack → IsUnhindered m input → IsSearchRun way m input old new (result_err r)
    → IfErr r IsMemory
call_memory way m input old new (Ok found) few free run = tt
call_memory way m input old new (Err e) few free run = search_memory way m input old new e few free run
