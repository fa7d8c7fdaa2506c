-- The start states in the slots of a cache.
use Rattle.std.proofs.Common.{ℕ, inl, inr, Option, refl, subst, arith}
use Rattle.std.proofs.lemmas.Option.{slice_get-get_or}
use Rattle.automata_hybrid.proofs.Words.{AllStarts, Anchored, IsSlot, Leads, slot_behind, start_state_of, Stored}
use Rattle.automata_hybrid.specs.Cache.States.{LeadsAsStart}
use Rattle.automata_hybrid.specs.Steps.Starts.{known_start}

-- the ID in a slot leads to the start state of that slot
pub leads_as_start :
    (c : Stored) → AllStarts c.table c.starts → (mode : Anchored) (behind : Option ℕ) → LeadsAsStart c mode behind
leads_as_start c starts mode behind within low =
    go (starts slot id (slice_get-get_or c.starts slot 0 within)) where
      slot : ℕ
      slot = slot_behind c.table.of mode behind

      id : ℕ
      id = known_start c.table.of c mode behind

      go : IsSlot c.table slot id → Leads c.table id (start_state_of c.table.of.nfa mode behind)
      go (inl unknown) = absurd (omega (arith, low, unknown))
      go (inr (q, leads, first)) = subst (Leads c.table id) (first mode behind refl) leads
