use Rattle.std.proofs.Common.{ℕ, ◌≡◌, ◌+◌, ◌-◌, ◌<◌, ◌⊎◌, true, Some, None, length, take, inl, inr, refl, sym, ◌∙◌}
use Rattle.std.proofs.Common.{subst, arith}
use Rattle.automata_base.specs.declared.nfa.thompson.state.State.{State}
use Rattle.automata_base.specs.declared.nfa.thompson.finishing.Edge.{Edge}
use Rattle.automata_base.specs.Lists.{In}
use Rattle.std.specs.Prelude.{slice_get}
use Rattle.automata_base.specs.Nfas.Nodes.{node_of}
use Rattle.automata_base.specs.Paths.Paths.{all_true}
use Rattle.automata_base.specs.Nfas.Errors.{state_below}
use Rattle.automata_base.specs.Powersets.Closure.{children_at}
use Rattle.automata_base.proofs.Powersets.ListTests.{node_fits}
use Rattle.automata_base.proofs.Paths.Checked.{children_below}
use Rattle.automata_base.proofs.Paths.Orders.{none_some}
use Rattle.automata_base.proofs.Nfas.Reach.DepthFirst.{nth_none, take_next}
use Rattle.automata_base.proofs.nfa.thompson.finishing.next_edge.Goals as goal
use Rattle.automata_base.proofs.Paths.Searches.{nth_inside}
use Rattle.automata_base.proofs.Paths.Sets.{nth_in}

same_edge : (a b : Edge) → Some a ≡ Some b → a ≡ b
same_edge a b e = cc

is_few : (found : _) (t k : ℕ) → found ≡ Some t → (found ≡ None) ⊎ (k < 9223372036854775808) → k < 9223372036854775808
is_few found t k e (inl none) = absurd (none_some (sym none ∙ e))
is_few found t k e (inr l) = l

inside :
    (n : ℕ) (state : State) (k x : ℕ) → state_below n state ≡ true
    → slice_get (children_at (node_of state) all_true) k ≡ Some x → x < n
inside n state k x range e =
    children_below n (node_of state) all_true x (node_fits n state range)
    (nth_in (children_at (node_of state) all_true) k x e)

pub contains-requires : goal.contains-requires
contains-requires c =
    inside c.args.visited.now.capacity c.args.state.now c.loop-target.number c.in-Some.target c.requires.range
    (sym c.epsilon_target.ensures.same ∙ c.in-Some.is)

pub returns-then-not-contains-clause-some : goal.returns-then-not-contains-clause-some
returns-then-not-contains-clause-some c = λ edge e.
    subst (λ (z : Edge). (slice_get (children_at (node_of c.args.state.now) all_true) z.number ≡ Some z.target)
    × (In z.target c.args.visited.now.items → ⊥) × (z.number < 9223372036854775808)
    × (z.target < c.args.visited.now.capacity))
    (same_edge (record { number = c.loop-target.number; target = c.in-Some.target }) edge e) (
      sym c.epsilon_target.ensures.same ∙ c.in-Some.is,
      c.if-not-contains.ensures.new refl,
      is_few c.epsilon_target.result c.in-Some.target c.loop-target.number c.in-Some.is c.epsilon_target.ensures.few,
      inside c.args.visited.now.capacity c.args.state.now c.loop-target.number c.in-Some.target c.requires.range
          (sym c.epsilon_target.ensures.same ∙ c.in-Some.is),
    )

pub returns-then-not-contains-clause-followed : goal.returns-then-not-contains-clause-followed
returns-then-not-contains-clause-followed c = λ edge r e i.
    c.loop-target.invariant r
    (subst (λ (z : Edge). In r (take z.number (children_at (node_of c.args.state.now) all_true)))
    (sym (same_edge (record { number = c.loop-target.number; target = c.in-Some.target }) edge e)) i)

pub loop-target-smaller : goal.loop-target-smaller
loop-target-smaller c =
    let within : c.loop-target.number < length (children_at (node_of c.args.state.now) all_true) =
    nth_inside (children_at (node_of c.args.state.now) all_true) c.loop-target.number c.in-Some.target
    (sym c.epsilon_target.ensures.same ∙ c.in-Some.is) in
    let less :
    length (children_at (node_of c.args.state.now) all_true) - (c.loop-target.number + 1)
    < length (children_at (node_of c.args.state.now) all_true) - c.loop-target.number = omega arith in
    less

pub loop-target-preserved : goal.loop-target-preserved
loop-target-preserved c = λ r i.
    go r (take_next (children_at (node_of c.args.state.now) all_true) c.loop-target.number c.in-Some.target r
    (sym c.epsilon_target.ensures.same ∙ c.in-Some.is) i)
  where
    go :
        (r : ℕ) → In r (take c.loop-target.number (children_at (node_of c.args.state.now) all_true))
        ⊎ (r ≡ c.in-Some.target)
        → In r c.args.visited.now.items
    go r (inl j) = c.loop-target.invariant r j
    go r (inr e) =
        subst (λ z. In z c.args.visited.now.items) (sym e)
        (c.if-not-contains.ensures.had refl)

pub returns-clause-none : goal.returns-clause-none
returns-clause-none c = λ r _ i.
    c.loop-target.invariant r
    (subst (λ z. In r z)
    (sym (nth_none (children_at (node_of c.args.state.now) all_true) c.loop-target.number
    (sym c.epsilon_target.ensures.same ∙ c.in_default.is))) i)
