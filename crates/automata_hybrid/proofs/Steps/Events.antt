-- What an event asks of a cache, by its rows and cells.
use Rattle.std.specs.Prelude.{ℕ, ◌≡◌, ◌<◌, false, ⊤}
use Rattle.automata_hybrid.proofs.Words.{Event, IsKnownStart, IsUnit, KnowsStep, Machine, match_kind_of}
use Rattle.automata_hybrid.proofs.Words.{MayStart, Names, Powerset, quits_on, slot_behind, Start, start_state_of, Step}
use Rattle.automata_hybrid.proofs.Words.{Stored, successor, unit_class}

-- what an event asks for is cached; the anchored mode of a pattern that is out of range asks for nothing
abbrev pub IsCached : Machine → Stored → Event → Type 0
IsCached m c (Start mode behind) = slot_behind m mode behind < m.slots → IsKnownStart c (slot_behind m mode behind)
IsCached m c (Step q unit) = (id : ℕ) × Names c.table id q × KnowsStep m c id unit

-- an event may be asked for: a search may start in the mode, or the unit to step on is not a quit byte and rows have
-- its class
abbrev pub MayAsk : Machine → Event → Type 0
MayAsk m (Start mode behind) = MayStart m mode behind
MayAsk m (Step q unit) = (quits_on m unit ≡ false) × (unit_class m unit < m.stride)

-- an event's unit is a byte or the end
abbrev pub AsksForUnit : Event → Type 0
AsksForUnit (Start mode behind) = ⊤
AsksForUnit (Step q unit) = IsUnit unit

-- the state that an event asks for
abbrev pub asked_state : Machine → Event → Powerset
asked_state m (Start mode behind) = start_state_of m.nfa mode behind
asked_state m (Step q unit) = successor m.nfa (match_kind_of m.config) q unit
