-- Steps: what a call answers and changes, by what its parts do.
use Rattle.std.proofs.Common.{ℕ, ◌≡◌, ◌+◌, ◌<◌, ◌≤◌, Bool, true, false, Option, None, Some, refl, sym, ap, ◌∙◌, subst}
use Rattle.std.proofs.Common.{arith, inl, inr, ◌^◌}
use Rattle.automata_hybrid.proofs.Words.{CacheView, cell_of, CellLeads, CellQuits, CellUnknown, class_in}
use Rattle.automata_hybrid.proofs.Words.{with_count, fixed_from, HoldsRow, is_quit, IsCacheOf, IsCell, IsCellRead}
use Rattle.automata_hybrid.proofs.Words.{IsMachine, IsRowId, IsStepAnswer, IsUnit, known_step}
use Rattle.automata_hybrid.proofs.Words.{KnowsStep, Leads, LeadsToNamed, Machine, match_kind_of, Names, Powerset}
use Rattle.automata_hybrid.proofs.Words.{quit_id, quits_on, Rows, Searched, slice_index, Step, Stored, successor}
use Rattle.automata_hybrid.proofs.Words.{unit_class, unknown_id, with_next, with_searched, with_store}
use Rattle.automata_base.proofs.Paths.Orders.{none_some, some_inj}
use Rattle.automata_hybrid.specs.Private.Cache.Stores.{IsKnownTransition}
use Rattle.automata_hybrid.specs.Private.Cache.Growth.{HasAddedNext}
use Rattle.automata_hybrid.proofs.Steps.Events.{IsCached}
use Rattle.automata_hybrid.specs.Private.Cache.Table.{HasCells, LeadsByClass}
use Rattle.automata_hybrid.specs.Cache.Table.{HasItsMatchTag}
use Rattle.automata_hybrid.proofs.Steps.Effects.{cached-written, one_id}
use Rattle.automata_hybrid.proofs.Searches.PassState.{false_true}
use Rattle.automata_hybrid.proofs.Steps.Starts.{leads_row}
use Rattle.automata_hybrid.proofs.Storage.Rows.{leads_on}

-- a step that is not cached from an ID is not cached from that ID's state
pub step_unknown :
    (m : Machine) (id : ℕ) (unit : Option ℕ) (c : CacheView) → (KnowsStep m c.store id unit → ⊥)
    → (q : Powerset) → Names c.store.table id q → IsCached m c.store (Step q unit) → ⊥
step_unknown m id unit c unknown q named (other, names, known) =
    let one : other ≡ id = one_id c.store.table other id q names named in
    unknown (subst (λ k. KnowsStep m c.store k unit) one known)

-- a search that moved before it took a step
module _ (m : Machine) (id : ℕ) (unit : Option ℕ) (s : Searched) (old new : CacheView) where
  pub moved_answer :
      (next : ℕ) → IsStepAnswer m id unit (with_store old (with_searched old.store s)) new next
      → IsStepAnswer m id unit old new next
  moved_answer next a = record {
    row = a.row;
    tag = a.tag;
    fixed = a.fixed;
    quit = a.quit;
    named = a.named;
    cached = a.cached;
  }

-- reading a cell returns its value
pub cell_read :
    (m : Machine) (c : Stored) (id : ℕ) (unit : Option ℕ) (cell : ℕ) → cell ≡ known_step m c id unit
    → IsCellRead m c id unit cell
cell_read m c id unit cell same = (λ _. same, λ free known. absurd (omega (arith, free, known, same)))

-- a step from dead or quit returns the same ID
pub fixed_answer :
    (m : Machine) (id : ℕ) (unit : Option ℕ) (c : CacheView)
    → fixed_from ≤ id → ((q : Powerset) → Names c.store.table id q → id < fixed_from) → HoldsRow c id
    → IsStepAnswer m id unit c c id
fixed_answer m id unit c high below row = record {
  row = row;
  tag = λ q n. absurd (apart q n);
  fixed = λ h. refl;
  quit = λ low q. absurd (omega (arith, low, high));
  named = λ clean q n. absurd (apart q n);
  cached = λ q n. absurd (apart q n);
} where
  apart : (q : Powerset) → Names c.store.table id q → ⊥
  apart q n = let low : id < fixed_from = below q n in absurd (omega (arith, low, high))

-- what the cell at the class of a unit says
module _ (m : Machine) (id : ℕ) (unit : Option ℕ) (c : CacheView) (class next : ℕ) (of : IsCacheOf c m)
    (valid : IsRowId c.store.table id)
    (at : class ≡ unit_class m unit) (small : m.stride ≤ 512)
    (quit : quits_on m unit ≡ true → slice_index m.template class ≡ quit_id m.stride)
    (free : quits_on m unit ≡ false → slice_index m.template class ≡ unknown_id)
    (value : next ≡ cell_of c.store id class)
    (cell : (q : Powerset) → Names c.store.table id q → IsCell c.store.table q class next) where
  -- a class is not both marked for quit bytes and free
  clash : slice_index m.template class ≡ quit_id m.stride → slice_index m.template class ≡ unknown_id → ⊥
  clash a b = absurd (omega (arith, a, b, small))

  stands_quit :
      slice_index c.store.table.of.template class ≡ quit_id c.store.table.of.stride
      → slice_index m.template class ≡ quit_id m.stride
  stands_quit a = subst (λ (d : Machine). slice_index d.template class ≡ quit_id d.stride) of a

  stands_free : slice_index c.store.table.of.template class ≡ unknown_id → slice_index m.template class ≡ unknown_id
  stands_free a = subst (λ (d : Machine). slice_index d.template class ≡ unknown_id) of a

  -- a unit whose cell is empty is not a quit byte
  pub unknown_clean : unknown_id ≤ next → quits_on m unit ≡ false
  unknown_clean l = go (quits_on m unit) refl (cell valid.0 valid.1) where
    go : (b : Bool) → quits_on m unit ≡ b → IsCell c.store.table valid.0 class next → quits_on m unit ≡ false
    go false e h = e
    go true e (CellQuits a is) =
        let s : c.store.table.of.stride ≡ m.stride = ap (λ (d : Machine). d.stride) of in
        absurd (omega (arith, is, s, small, l))
    go true e (CellUnknown a h) = absurd (clash (quit e) (stands_free a))
    go true e (CellLeads a h) = absurd (clash (quit e) (stands_free a))

  pub unknown_free : unknown_id ≤ next → KnowsStep m c.store id unit → ⊥
  unknown_free l k =
      let here : cell_of c.store id class < unknown_id = subst (IsKnownTransition c.store id) (sym at) k in
      absurd (omega (arith, here, value, l))

  pub cell_known : next < unknown_id → KnowsStep m c.store id unit
  cell_known low = subst (IsKnownTransition c.store id) at (subst (λ n. n < unknown_id) value low)

  here :
      IsUnit unit → (q : Powerset) → LeadsByClass c.store.table next q class
      → Leads c.store.table next (successor c.store.table.of.nfa (match_kind_of c.store.table.of.config) q unit)
  here is q h = h unit is (ap (λ (d : Machine). unit_class d unit) of ∙ sym at)

  -- a quit byte leads to quit
  pub cell_quits : quits_on m unit ≡ true → next ≡ quit_id m.stride
  cell_quits q = go (cell valid.0 valid.1) where
    go : IsCell c.store.table valid.0 class next → next ≡ quit_id m.stride
    go (CellQuits a is) = is ∙ ap (λ (d : Machine). quit_id d.stride) of
    go (CellUnknown a h) = absurd (clash (quit q) (stands_free a))
    go (CellLeads a h) = absurd (clash (quit q) (stands_free a))

  -- any other unit leads to the successor, if the transition is cached
  pub cell_leads :
      IsUnit unit → quits_on m unit ≡ false → next < unknown_id → (q : Powerset) → Names c.store.table id q
      → Leads c.store.table next (successor m.nfa (match_kind_of m.config) q unit)
  cell_leads is clean low q n = go (cell q n) where
    go : IsCell c.store.table q class next → Leads c.store.table next (successor m.nfa (match_kind_of m.config) q unit)
    go (CellQuits a e) = absurd (clash (stands_quit a) (free clean))
    go (CellUnknown a e) = absurd (omega (arith, e, low))
    go (CellLeads a h) =
        subst (λ (d : Machine). Leads c.store.table next (successor d.nfa (match_kind_of d.config) q unit)) of
        (here is q h)

  -- a cached cell is the answer
  pub known_answer :
      id < fixed_from → next < unknown_id → HasItsMatchTag c.store.table next
      → IsUnit unit
      → IsStepAnswer m id unit c c next
  known_answer below low tag is = record {
    row = rowed (cell valid.0 valid.1);
    tag = tag;
    fixed = λ high. absurd (omega (arith, below, high));
    quit = λ _ q. cell_quits q;
    named = λ clean q n. cell_leads is clean low q n;
    cached = λ q n. (id, n, sym (value ∙ ap (cell_of c.store id) at));
  } where
    rowed : IsCell c.store.table valid.0 class next → HoldsRow c next
    rowed (CellQuits a is) = inr (inl is)
    rowed (CellUnknown a is) = absurd (omega (arith, is, low))
    rowed (CellLeads a h) = leads_row c next _ (here is valid.0 h)

-- a cached cell holds the ID of a row
pub cell_row :
    (c : CacheView) (q : Powerset) (class id : ℕ) (unit : Option ℕ) → IsUnit unit
    → unit_class c.store.table.of unit ≡ class
    → IsCell c.store.table q class id → id < unknown_id → HoldsRow c id
cell_row c q class id unit is at (CellQuits a e) low = inr (inl e)
cell_row c q class id unit is at (CellUnknown a e) low = absurd (omega (arith, e, low))
cell_row c q class id unit is at (CellLeads a leads) low = leads_row c id _ (leads unit is at)

-- if the cell of a byte's class does not hold a fixed ID, the byte leads to the ID in it and is not a quit byte
pub byte_leads :
    (m : Machine) (c : Stored) (q : Powerset) (to byte : ℕ)
    → IsMachine m → c.table.of ≡ m → to < 2 ^ 29 → byte < 256 → IsCell c.table q (class_in m.classes byte) to
    → (is_quit m.quits byte ≡ false) × Leads c.table to (successor m.nfa (match_kind_of m.config) q (Some byte))
byte_leads m c q to byte machine of plain few cell = (go (is_quit m.quits byte) refl cell, lead cell) where
  class : ℕ
  class = class_in m.classes byte

  -- a class that is not marked has no quit byte
  marked_not : is_quit m.quits byte ≡ true → slice_index c.table.of.template class ≡ unknown_id → ⊥
  marked_not e unmarked =
      let quit : slice_index m.template class ≡ quit_id m.stride = machine.quit byte few e in
      let free : slice_index m.template class ≡ unknown_id =
      subst (λ (k : Machine). slice_index k.template class ≡ unknown_id) of unmarked in
      omega (arith, quit, free, machine.template.small)

  go : (b : Bool) → is_quit m.quits byte ≡ b → IsCell c.table q class to → is_quit m.quits byte ≡ false
  go false e is = e
  go true e (CellQuits marked quits) = absurd (omega (arith, quits, plain))
  go true e (CellUnknown unmarked unknown) = absurd (marked_not e unmarked)
  go true e (CellLeads unmarked leads) = absurd (marked_not e unmarked)

  lead : IsCell c.table q class to → Leads c.table to (successor m.nfa (match_kind_of m.config) q (Some byte))
  lead (CellQuits marked quits) = absurd (omega (arith, quits, plain))
  lead (CellUnknown free unknown) = absurd (omega (arith, unknown, plain))
  lead (CellLeads free leads) =
      subst (λ (k : Machine). Leads c.table to (successor k.nfa (match_kind_of k.config) q (Some byte))) of
      (leads (Some byte) few (ap (λ (k : Machine). class_in k.classes byte) of))

-- an ID that leads to the key of a step leads where each unit of the class does
pub key_leads :
    (m : Machine) (t : Rows) (q key : Powerset) (unit : Option ℕ) (class to : ℕ) → t.of ≡ m → class ≡ unit_class m unit
    → ((other : Option ℕ) → IsUnit other → unit_class m other ≡ unit_class m unit
    → key ≡ successor m.nfa (match_kind_of m.config) q other)
    → Leads t to key → LeadsByClass t to q class
key_leads m t q key unit class to of at alike leads other is here =
    let same : unit_class m other ≡ unit_class m unit =
    subst (λ (d : Machine). unit_class d other ≡ class) of here ∙ at in
    subst (λ (d : Machine). Leads t to (successor d.nfa (match_kind_of d.config) q other)) (sym of)
    (subst (Leads t to) (alike other is same) leads)

-- a transition was computed and written
pub record ComputesStep (m : Machine) (id : ℕ) (unit : Option ℕ) (old new : CacheView) (class next : ℕ) : Type 0 where
  -- its ID leads to the successor
  pub leads :
      (q : Powerset) → Names old.store.table id q
      → Leads new.store.table next (successor m.nfa (match_kind_of m.config) q unit)
  -- it was written in the row of the state, last of all
  pub written :
      (q : Powerset) → Names old.store.table id q
      → (from : ℕ) × (between : Stored) × (new.store ≡ with_next between from class next)
      × Names between.table from q

-- the next state was already there
pub computes_known :
    (m : Machine) (id : ℕ) (unit : Option ℕ) (old mid new : CacheView) (class next : ℕ) (key : Powerset)
    → mid ≡ with_count old (old.count + 1) → new ≡ with_store mid (with_next mid.store id class next)
    → Leads mid.store.table next key
    → ((q : Powerset) → Names old.store.table id q → key ≡ successor m.nfa (match_kind_of m.config) q unit)
    → ComputesStep m id unit old new class next
computes_known m id unit old mid new class next key was e leads same =
    subst (λ (v : CacheView). ComputesStep m id unit old v class next)
    (sym (e ∙ ap (λ (v : CacheView). with_store v (with_next v.store id class next)) was))
    (record {
      leads = λ q n. leads_on old.store.table id class next (there q n);
      written = λ q n. (id, old.store, refl, n);
    })
  where
    there :
        (q : Powerset) → Names old.store.table id q
        → Leads old.store.table next (successor m.nfa (match_kind_of m.config) q unit)
    there q n =
        subst (λ (v : CacheView). Leads v.store.table next (successor m.nfa (match_kind_of m.config) q unit)) was
        (subst (λ (p : Powerset). Leads mid.store.table next p) (same q n) leads)

-- the next state was added
pub computes_new :
    (m : Machine) (id : ℕ) (unit : Option ℕ) (old mid between new : CacheView) (class from next : ℕ)
    (state key : Powerset)
    → mid ≡ with_count old (old.count + 1) → HasAddedNext mid between id state from next
    → new ≡ with_store between (with_next between.store from class next) → state ≡ key
    → ((q : Powerset) → Names old.store.table id q → key ≡ successor m.nfa (match_kind_of m.config) q unit)
    → ComputesStep m id unit old new class next
computes_new m id unit old mid between new class from next state key was added e is same =
    subst (λ (v : CacheView). ComputesStep m id unit old v class next) (sym e)
    (record {
      leads = λ q n. LeadsToNamed
          (subst (λ (p : Powerset). Names between.store.table next p) (is ∙ same q n) added.named);
      written = λ q n. (
        from,
        between.store,
        refl,
        added.saved q (subst (λ (v : CacheView). Names v.store.table id q) (sym was) n),
      );
    })

-- what computing a step answers
pub computed_answer :
    (m : Machine) (id : ℕ) (unit : Option ℕ) (old new : CacheView) (class next : ℕ)
    → ComputesStep m id unit old new class next → IsRowId old.store.table id → id < fixed_from
    → quits_on m unit ≡ false → class ≡ unit_class m unit → class < m.stride → IsCacheOf new m
    → HasCells new.store.table → HasItsMatchTag new.store.table next → IsStepAnswer m id unit old new next
computed_answer m id unit old new class next step valid low clean at below of cells tag = record {
  row = leads_row new next _ (step.leads valid.0 valid.1);
  tag = tag;
  fixed = λ high. absurd (omega (arith, low, high));
  quit = λ _ q. absurd (false_true (sym clean ∙ q));
  named = λ _ q n. step.leads q n;
  cached = λ q n.
      (let w = step.written q n in
      subst (λ k. (now : ℕ) × Names new.store.table now q × (cell_of new.store now k ≡ next)) at
      (cached-written w.1 new.store w.0 class next q w.2 w.3 cells
      (subst (λ (d : Machine). class < d.stride) (sym of) below)));
}

-- a unit that is not a quit byte, stated in two ways
pub unit_no_quit :
    (m : Machine) (unit : Option ℕ) → ((byte : ℕ) → unit ≡ Some byte → is_quit m.quits byte ≡ false)
    → quits_on m unit ≡ false
unit_no_quit m None free = refl
unit_no_quit m (Some byte) free = free byte refl

pub no_quit_unit :
    (m : Machine) (unit : Option ℕ) → quits_on m unit ≡ false → (byte : ℕ) → unit ≡ Some byte
    → is_quit m.quits byte ≡ false
no_quit_unit m None clean byte e = absurd (none_some e)
no_quit_unit m (Some read) clean byte e = subst (λ b. is_quit m.quits b ≡ false) (some_inj e) clean
