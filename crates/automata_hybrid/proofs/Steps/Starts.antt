-- Start states: what a call answers and changes, by what its parts do.
use Rattle.automata_hybrid.proofs.Words.{Anchored, CacheView, HoldsRow, IsCacheOf, IsSlot, IsStartAnswer, Leads}
use Rattle.automata_hybrid.proofs.Words.{LeadsToDead, LeadsToNamed, LeadsToStart, Machine, Powerset, Rows}
use Rattle.automata_hybrid.proofs.Words.{slice_index, slot_behind, start_state_of, unknown_id}
use Rattle.std.proofs.Common.{ℕ, ◌≡◌, ◌<◌, Option, sym, ap, ◌∙◌, subst, arith, inl, inr}
use Rattle.automata_hybrid.specs.Cache.Table.{HasItsMatchTag}
use Rattle.automata_hybrid.specs.Steps.Starts.{known_start}
use Rattle.automata_hybrid.specs.Private.Steps.Starts.{IsStartSlot}
use Rattle.automata_hybrid.proofs.Machines.StartSlots.{starts_alike}

-- an ID that leads to the start state of a mode leads to all start states of that mode's slot
pub slot_leads :
    (m : Machine) (mode : Anchored) (behind : Option ℕ) (slot : ℕ) (t : Rows) (id : ℕ) (q : Powerset)
    → IsStartSlot m mode behind slot → t.of ≡ m → q ≡ start_state_of m.nfa mode behind → Leads t id q
    → LeadsToStart t id slot
slot_leads m mode behind slot t id q at of same leads = (
  q,
  leads,
  λ other look here.
      let slots : slot_behind m mode behind ≡ slot_behind m other look =
      sym at.at ∙ sym (subst (λ (d : Machine). slot_behind d other look ≡ slot) of here) in
      same ∙ (starts_alike m mode other behind look slots
      ∙ ap (λ (d : Machine). start_state_of d.nfa other look) (sym of)),
)

-- an ID that leads to a state has a row
pub leads_row : (c : CacheView) (id : ℕ) (q : Powerset) → Leads c.store.table id q → HoldsRow c id
leads_row c id q (LeadsToDead is dies) = inl is
leads_row c id q (LeadsToNamed names) = inr (inr (q, names))

-- a cached start state is returned, and nothing changes
pub known_answer :
    (m : Machine) (mode : Anchored) (behind : Option ℕ) (c : CacheView) (slot id : ℕ)
    → IsCacheOf c m → IsStartSlot m mode behind slot → id ≡ slice_index c.store.starts slot → id < unknown_id
    → IsSlot c.store.table slot id
    → HasItsMatchTag c.store.table id → IsStartAnswer m mode behind c c id
known_answer m mode behind c slot id of at value low may tag = record {
  may = at.may;
  row = leads_row c id _ (named may);
  named = named may;
  tag = tag;
  past = λ l. absurd (omega (arith, l, at.at, at.within));
  cached = λ _. sym stands;
} where
  stands : id ≡ known_start m c.store mode behind
  stands = value ∙ ap (slice_index c.store.starts) at.at

  named : IsSlot c.store.table slot id → Leads c.store.table id (start_state_of m.nfa mode behind)
  named (inl is) = absurd (omega (arith, is, low))
  named (inr (q, leads, first)) =
      subst (λ (p : Powerset). Leads c.store.table id p)
      (first mode behind (ap (λ (d : Machine). slot_behind d mode behind) of ∙ sym at.at)
      ∙ ap (λ (d : Machine). start_state_of d.nfa mode behind) of) leads

-- what computing a start state answers
pub computed_answer :
    (m : Machine) (mode : Anchored) (behind : Option ℕ) (old new : CacheView) (slot id : ℕ)
    → Leads new.store.table id (start_state_of m.nfa mode behind) → slice_index new.store.starts slot ≡ id
    → IsStartSlot m mode behind slot → HasItsMatchTag new.store.table id → IsStartAnswer m mode behind old new id
computed_answer m mode behind old new slot id leads written at tag = record {
  may = at.may;
  row = leads_row new id _ leads;
  named = leads;
  tag = tag;
  past = λ l. absurd (omega (arith, l, at.at, at.within));
  cached = λ _. subst (λ s. slice_index new.store.starts s ≡ id) at.at written;
}
