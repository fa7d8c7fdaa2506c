use Rattle.std.proofs.Common.{arith, ◌≡◌, ◌+◌, ◌<◌, ◌≤◌, [], ◌∷◌, ◌++◌, List, ℕ, length, reverse, Vec, vec_len}
use Rattle.std.proofs.Common.{vec_capacity, get_or, refl, sym, ap, ◌∙◌, subst, inl, rules}
use Rattle.std.proofs.lemmas.List.{nil_from_length}
use Rattle.std.specs.declared.alloc.Global.{Global}
use Rattle.automata_base.specs.declared.nfa.thompson.state.State.{State}
use Rattle.automata_base.specs.Nfas.Accepted.{IsChecked}
use Rattle.automata_base.specs.Nfas.Nodes.{Automaton, stack_room, node_of}
use Rattle.automata_base.specs.Haystacks.LookSets.{truth_of}
use Rattle.automata_base.specs.Powersets.Closure.{children_at, IsUnderWay}
use Rattle.automata_base.specs.Powersets.Members.{Members}
use Rattle.automata_base.proofs.Powersets.Walking.{Walking, work, walk_begins, walk_ends, pushed_top}
use Rattle.automata_base.proofs.Powersets.Walking.{step_room}
use Rattle.automata_base.proofs.Powersets.Leaves.{passed_step, expanded_step, children_below}
use Rattle.automata_base.specs.Nfas.Nodes.{nfa_of}
use Rattle.automata_base.specs.Retraced.Expanding.{Extends, IsExpanded}
use Rattle.automata_base.proofs.Powersets.Walking.{state_read}
use Rattle.automata_base.specs.Lists.{In}
use Rattle.automata_base.proofs.nfa.thompson.closure.close_by.Goals as goal
use Rattle.automata_base.proofs.nfa.thompson.closure.close_by.Goals.{then-discover+in_default, else-discover}

pub visit-init : goal.visit-init
visit-init c = (
  subst (λ s. Walking c.args.nfa.now c.args.looks c.args.set.now.items c.args.start c.args.set.now.items
      (c.args.start ∷ reverse s))
      (sym c.requires.room.empty)
      (walk_begins c.args.nfa.now c.args.looks c.args.set.now.items c.args.start c.requires.start),
  c.requires.room.whole,
  omega arith,
)

pub discover-requires-clause-below : goal.discover-requires-clause-below
discover-requires-clause-below c =
    let below : c.visit.id < length c.args.nfa.now.states = c.visit.invariant.0.below c.visit.id (inl refl) in
    omega arith

pub state_at-requires-clause-id : goal.state_at-requires-clause-id
state_at-requires-clause-id c =
    let below : c.visit.id < length c.args.nfa.now.states = c.visit.invariant.0.below c.visit.id (inl refl) in
    let same = ap length c.states-states.ensures.same in
    omega (arith, below, same)

pub expand-requires-clause-below : goal.expand-requires-clause-below
expand-requires-clause-below c =
    children_below c.args.nfa.now c.args.looks c.args.set.now.items c.args.start c.visit.set.items
    c.discover.new.set.items (reverse c.visit.stack.items) c.visit.id c.state_at.result.now
    c.state_at.ensures.checked
    (state_read c.args.nfa.now.states c.visit.id c.state_at.result.now c.state_at.ensures.same)
    (c.if-discover.ensures.new refl) (c.if-discover.ensures.added refl) c.visit.invariant.0

pub expand-requires-clause-whole : goal.expand-requires-clause-whole
expand-requires-clause-whole c = c.if-discover.ensures.capacity ∙ c.visit.invariant.1

pub expand-requires-clause-room : goal.expand-requires-clause-room
expand-requires-clause-room c =
    let room : length c.visit.stack.items + length (children_at (node_of c.state_at.result.now) (truth_of c.args.looks))
    ≤ stack_room c.args.nfa.now.states =
    step_room c.args.nfa.now c.args.looks c.args.set.now.items c.args.start c.visit.set.items c.visit.stack.items
    c.visit.id c.state_at.result.now
    (state_read c.args.nfa.now.states c.visit.id c.state_at.result.now c.state_at.ensures.same)
    (c.if-discover.ensures.new refl) c.visit.invariant.0 in
    let len : vec_len c.visit.stack ≡ length c.visit.stack.items = c.visit.stack.ok.0 in
    let kept : vec_capacity c.args.stack.now ≤ vec_capacity c.visit.stack = c.visit.invariant.2 in
    let enough : stack_room c.args.nfa.now.states ≤ vec_capacity c.args.stack.now = c.requires.room.places in
    omega arith

-- A new state with a child.
followed : (c : goal.In-Some) →
    Walking c.args.nfa.now c.args.looks c.args.set.now.items c.args.start c.expand.new.set.items
    (c.in-Some.next ∷ reverse c.expand.new.stack.items)
    × (work c.args.nfa.now c.expand.new.set.items (c.in-Some.next ∷ reverse c.expand.new.stack.items)
    < work c.args.nfa.now c.visit.set.items (c.visit.id ∷ reverse c.visit.stack.items))
followed c =
    expanded_step c.args.nfa.now c.args.looks c.args.set.now.items c.args.start c.visit.set.items
    c.discover.new.set.items c.expand.new.set.items (reverse c.visit.stack.items)
    (c.in-Some.next ∷ reverse c.expand.new.stack.items) c.visit.id c.state_at.result.now
    c.state_at.ensures.checked
    (state_read c.args.nfa.now.states c.visit.id c.state_at.result.now c.state_at.ensures.same)
    (c.if-discover.ensures.new refl) (c.if-discover.ensures.added refl) c.in-Some.ensures.expanded c.visit.invariant.0

pub visit-smaller-in-Some : goal.visit-smaller-in-Some
visit-smaller-in-Some c = (followed c).1

pub visit-preserved-in-Some : goal.visit-preserved-in-Some
visit-preserved-in-Some c =
    let kept : vec_capacity c.args.stack.now ≤ vec_capacity c.visit.stack = c.visit.invariant.2 in
    let more : vec_capacity c.visit.stack ≤ vec_capacity c.expand.new.stack = c.in-Some.ensures.capacity in
    ((followed c).0, c.in-Some.ensures.whole ∙ (c.if-discover.ensures.capacity ∙ c.visit.invariant.1), omega arith)

-- The state of the loop after a visit without a child, before the next state is popped.
record Visited (a : Automaton) (looks : ℕ) (old : List ℕ) (start : ℕ) (before after : List ℕ) (id capacity : ℕ)
    (was stack : Vec ℕ Global) : Type 0 where
  pub walking : Walking a looks old start after (reverse stack.items)
  pub less : work a after (reverse stack.items) < work a before (id ∷ reverse was.items)
  pub room : capacity ≤ vec_capacity stack

next_way : (a : Automaton) (looks : ℕ) (old : List ℕ) (start : ℕ) (before after : List ℕ) (id capacity : ℕ)
    (was stack rest : Vec ℕ Global) (top : ℕ) → stack.items ≡ rest.items ++ top ∷ []
    → Visited a looks old start before after id capacity was stack
    → Walking a looks old start after (top ∷ reverse rest.items)
    × (work a after (top ∷ reverse rest.items) < work a before (id ∷ reverse was.items))
next_way a looks old start before after id capacity was stack rest top e v =
    let P : List ℕ → Type 0 =
    λ s. Walking a looks old start after s × (work a after s < work a before (id ∷ reverse was.items)) in
    subst P (pushed_top stack.items rest.items top e) (v.walking, v.less)

-- The state was new, and its children were visited or pushed.
new_visit : (a : Automaton) (looks : ℕ) (old : List ℕ) (start : ℕ) (before seen after : List ℕ) (id capacity : ℕ)
    (was stack : Vec ℕ Global) (state : State)
    → IsChecked a → state ≡ get_or a.states id state → (In id before → ⊥) → seen ≡ before ++ id ∷ []
    → IsExpanded (nfa_of a) (truth_of looks) (children_at (node_of state) (truth_of looks)) seen after
    (reverse was.items) (reverse stack.items)
    → Walking a looks old start before (id ∷ reverse was.items)
    → capacity ≤ vec_capacity was → vec_capacity was ≤ vec_capacity stack
    → Visited a looks old start before after id capacity was stack
new_visit a looks old start before seen after id capacity was stack state checked is new grown put walking kept more =
    let step =
    expanded_step a looks old start before seen after (reverse was.items) (reverse stack.items) id state checked is new
    grown put walking in
    record { walking = step.0; less = step.1; room = omega arith }

-- Nothing remains to be visited from the state.
passed_visit :
    (a : Automaton) (looks : ℕ) (old : List ℕ) (start : ℕ) (before after : List ℕ) (id capacity : ℕ)
    (was : Vec ℕ Global)
    → ((roots tail : List ℕ) → IsUnderWay (nfa_of a) (truth_of looks) roots (id ∷ tail) before
    → IsUnderWay (nfa_of a) (truth_of looks) roots tail after)
    → Extends before after → Walking a looks old start before (id ∷ reverse was.items) → capacity ≤ vec_capacity was
    → Visited a looks old start before after id capacity was was
passed_visit a looks old start before after id capacity was way grown walking kept =
    let step = passed_step a looks old start before after (reverse was.items) id way grown walking in
    record { walking = step.0; less = step.1; room = kept }

visited : (c : goal.In-Some-pop) →
    Visited c.args.nfa.now c.args.looks c.args.set.now.items c.args.start c.visit.set.items c.if-discover.set.items
    c.visit.id
    (vec_capacity c.args.stack.now) c.visit.stack c.if-discover.stack
visited c = elim c.if-discover.branch [
  | then-discover+in_default w ↦ subst
      (λ (m : Members). Visited c.args.nfa.now c.args.looks c.args.set.now.items c.args.start c.visit.set.items m.items
      c.visit.id (vec_capacity c.args.stack.now) c.visit.stack c.if-discover.stack) (sym w.set-is)
      (subst (Visited c.args.nfa.now c.args.looks c.args.set.now.items c.args.start c.visit.set.items
      w.expand.new.set.items c.visit.id (vec_capacity c.args.stack.now) c.visit.stack) (sym w.stack-is)
      (new_visit c.args.nfa.now c.args.looks c.args.set.now.items c.args.start c.visit.set.items
      c.discover.new.set.items w.expand.new.set.items c.visit.id (vec_capacity c.args.stack.now) c.visit.stack
      w.expand.new.stack w.state_at.result.now
      w.state_at.ensures.checked
      (state_read c.args.nfa.now.states c.visit.id w.state_at.result.now w.state_at.ensures.same)
      (w.if-discover.ensures.new refl) (w.if-discover.ensures.added refl) w.in_default.ensures.expanded
      c.visit.invariant.0 c.visit.invariant.2 w.in_default.ensures.capacity))
  | else-discover w ↦ subst
      (λ (m : Members). Visited c.args.nfa.now c.args.looks c.args.set.now.items c.args.start c.visit.set.items m.items
      c.visit.id (vec_capacity c.args.stack.now) c.visit.stack c.if-discover.stack) (sym w.set-is)
      (subst (Visited c.args.nfa.now c.args.looks c.args.set.now.items c.args.start c.visit.set.items
      c.discover.new.set.items c.visit.id (vec_capacity c.args.stack.now) c.visit.stack) (sym w.stack-is)
      (passed_visit c.args.nfa.now c.args.looks c.args.set.now.items c.args.start c.visit.set.items
      c.discover.new.set.items c.visit.id (vec_capacity c.args.stack.now) c.visit.stack
      (w.if-discover.ensures.passed refl c.args.looks) w.if-discover.ensures.grown c.visit.invariant.0
      c.visit.invariant.2))
]

same_set : (c : goal.In-Some-pop) → c.if-discover.set.capacity ≡ c.discover.new.set.capacity
same_set c = elim c.if-discover.branch [
  | then-discover+in_default w ↦ ap (λ (m : Members). m.capacity) w.set-is ∙ w.in_default.ensures.whole
  | else-discover w ↦ ap (λ (m : Members). m.capacity) w.set-is
]

pub visit-smaller : goal.visit-smaller
visit-smaller c =
    (next_way c.args.nfa.now c.args.looks c.args.set.now.items c.args.start c.visit.set.items c.if-discover.set.items
    c.visit.id (vec_capacity c.args.stack.now) c.visit.stack c.if-discover.stack
    c.pop.new.self c.in-Some-pop.top c.in-Some-pop.ensures.items (visited c)).1

pub visit-preserved : goal.visit-preserved
visit-preserved c =
    let v = visited c in
    let kept : vec_capacity c.args.stack.now ≤ vec_capacity c.if-discover.stack = v.room in
    let same : vec_capacity c.pop.new.self ≡ vec_capacity c.if-discover.stack = c.in-Some-pop.ensures.capacity in (
      (next_way c.args.nfa.now c.args.looks c.args.set.now.items c.args.start c.visit.set.items c.if-discover.set.items
          c.visit.id (vec_capacity c.args.stack.now) c.visit.stack c.if-discover.stack
          c.pop.new.self c.in-Some-pop.top c.in-Some-pop.ensures.items v).0,
      same_set c ∙ (c.discover.ensures.capacity ∙ c.visit.invariant.1),
      omega arith,
    )

done : (c : goal.In-None) →
    Visited c.args.nfa.now c.args.looks c.args.set.now.items c.args.start c.visit.set.items c.if-discover.set.items
    c.visit.id
    (vec_capacity c.args.stack.now) c.visit.stack c.if-discover.stack
done c = elim c.if-discover.branch [
  | then-discover+in_default w ↦ subst
      (λ (m : Members). Visited c.args.nfa.now c.args.looks c.args.set.now.items c.args.start c.visit.set.items m.items
      c.visit.id (vec_capacity c.args.stack.now) c.visit.stack c.if-discover.stack) (sym w.set-is)
      (subst (Visited c.args.nfa.now c.args.looks c.args.set.now.items c.args.start c.visit.set.items
      w.expand.new.set.items c.visit.id (vec_capacity c.args.stack.now) c.visit.stack) (sym w.stack-is)
      (new_visit c.args.nfa.now c.args.looks c.args.set.now.items c.args.start c.visit.set.items
      c.discover.new.set.items w.expand.new.set.items c.visit.id (vec_capacity c.args.stack.now) c.visit.stack
      w.expand.new.stack w.state_at.result.now
      w.state_at.ensures.checked
      (state_read c.args.nfa.now.states c.visit.id w.state_at.result.now w.state_at.ensures.same)
      (w.if-discover.ensures.new refl) (w.if-discover.ensures.added refl) w.in_default.ensures.expanded
      c.visit.invariant.0 c.visit.invariant.2 w.in_default.ensures.capacity))
  | else-discover w ↦ subst
      (λ (m : Members). Visited c.args.nfa.now c.args.looks c.args.set.now.items c.args.start c.visit.set.items m.items
      c.visit.id (vec_capacity c.args.stack.now) c.visit.stack c.if-discover.stack) (sym w.set-is)
      (subst (Visited c.args.nfa.now c.args.looks c.args.set.now.items c.args.start c.visit.set.items
      c.discover.new.set.items c.visit.id (vec_capacity c.args.stack.now) c.visit.stack) (sym w.stack-is)
      (passed_visit c.args.nfa.now c.args.looks c.args.set.now.items c.args.start c.visit.set.items
      c.discover.new.set.items c.visit.id (vec_capacity c.args.stack.now) c.visit.stack
      (w.if-discover.ensures.passed refl c.args.looks) w.if-discover.ensures.grown c.visit.invariant.0
      c.visit.invariant.2))
]

same_set_done : (c : goal.In-None) → c.if-discover.set.capacity ≡ c.discover.new.set.capacity
same_set_done c = elim c.if-discover.branch [
  | then-discover+in_default w ↦ ap (λ (m : Members). m.capacity) w.set-is ∙ w.in_default.ensures.whole
  | else-discover w ↦ ap (λ (m : Members). m.capacity) w.set-is
]

pub returns-clause-way : goal.returns-clause-way
returns-clause-way c =
    let none : c.if-discover.stack.items ≡ [] =
    nil_from_length c.if-discover.stack.items (sym c.if-discover.stack.ok.0 ∙ c.in-None.ensures.cases.0) in
    walk_ends c.args.nfa.now c.args.looks c.args.set.now.items c.args.start c.if-discover.set.items
    (subst (Walking c.args.nfa.now c.args.looks c.args.set.now.items c.args.start c.if-discover.set.items)
    (ap reverse none) (done c).walking)

pub returns-clause-room : goal.returns-clause-room
returns-clause-room c =
    let kept : vec_capacity c.args.stack.now ≤ vec_capacity c.if-discover.stack = (done c).room in
    let same : vec_capacity c.pop.new.self ≡ vec_capacity c.if-discover.stack = c.in-None.ensures.capacity in
    let enough : stack_room c.args.nfa.now.states ≤ vec_capacity c.args.stack.now = c.requires.room.places in
    record {
      whole = same_set_done c
          ∙ (c.discover.ensures.capacity ∙ c.visit.invariant.1);
      empty = search rules;
      places = omega arith;
    }
