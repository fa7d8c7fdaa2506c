use Rattle.std.proofs.Common.{ℕ, ◌≡◌, ◌+◌, ◌<◌, ◌∷◌, length, reverse, take, refl, sym, ap, ◌∙◌, subst, arith}
use Rattle.automata_base.specs.declared.nfa.thompson.finishing.Frame.{Frame}
use Rattle.automata_base.specs.declared.nfa.thompson.reach.Edges.TheVariants.{Epsilon}
use Rattle.automata_base.specs.Retraced.DepthFirst.{IsUnderSearch}
use Rattle.automata_base.specs.Lists.{In}
use Rattle.std.specs.Prelude.{slice_get}
use Rattle.automata_base.specs.Retraced.Reach.{targets_of}
use Rattle.automata_base.specs.Nfas.Errors.{states_below}
use Rattle.automata_base.proofs.Nfas.Reach.Adding.{state_at_below}
use Rattle.automata_base.proofs.Nfas.Reach.DepthFirst.{search_done, search_enters, stack_two, read_at, edges_at}
use Rattle.automata_base.proofs.nfa.thompson.finishing.step.Goals as goal

pub next_edge-requires-clause-range : goal.next_edge-requires-clause-range
next_edge-requires-clause-range c =
    state_at_below c.args.visited.now.capacity c.args.states.now c.args.frame.state c.index-states-as_usize.result
    (ap (λ z. states_below z c.args.states.now) c.requires.rooms.0 ∙ c.requires.range) c.requires.search.follows.0
    (read_at c.args.states.now c.as_usize.result c.args.frame.state c.index-states-as_usize.result
    c.as_usize.ensures.value c.index-states-as_usize.is)

pub next_edge-requires-clause-followed : goal.next_edge-requires-clause-followed
next_edge-requires-clause-followed c = λ r i.
    c.requires.search.follows.1 r
    (subst (λ z. In r (take c.args.frame.edge z))
    (sym (edges_at c.args.states.now c.as_usize.result c.args.frame.state c.index-states-as_usize.result
    c.requires.search.follows.0 c.as_usize.ensures.value c.index-states-as_usize.is)) i)

pub mark-requires-clause-below : goal.mark-requires-clause-below
mark-requires-clause-below c = (c.in-Some.ensures.some c.in-Some.edge refl).3

pub mark-requires-clause-new : goal.mark-requires-clause-new
mark-requires-clause-new c = (c.in-Some.ensures.some c.in-Some.edge refl).1

pub overflow_add-edge : goal.overflow_add-edge
overflow_add-edge c =
    let few : c.in-Some.edge.number < 9223372036854775808 = (c.in-Some.ensures.some c.in-Some.edge refl).2 in
    omega arith

pub returns-in-None-clause-search : goal.returns-in-None-clause-search
returns-in-None-clause-search c =
    search_done (length c.args.states.now) (targets_of Epsilon c.args.states.now) c.args.visited.now.items
    c.args.finished.now.items
    c.args.frame (reverse c.args.stack.now.items) c.requires.search c.insert.new.self.items c.insert.result
    (λ r i. c.in-None.ensures.none r refl
    (subst (λ z. In r z)
    (edges_at c.args.states.now c.as_usize.result c.args.frame.state c.index-states-as_usize.result
    c.requires.search.follows.0 c.as_usize.ensures.value c.index-states-as_usize.is) i))
    c.insert.ensures.new c.insert.ensures.added c.insert.ensures.had c.insert.ensures.unchanged

pub returns-in_ok-push-in-Some-2-clause-search : goal.returns-in_ok-push-in-Some-2-clause-search
returns-in_ok-push-in-Some-2-clause-search c =
    let some = c.in-Some.ensures.some c.in-Some.edge refl in
    let edge : ℕ = c.in-Some.edge.number in
    let id : ℕ = c.in-Some.edge.target in
    let again : Frame = record { state = c.args.frame.state; edge = edge + 1 } in
    let next : Frame = record { state = id; edge = 0 } in
    let below : id < length c.args.states.now = subst (λ z. id < z) c.requires.rooms.0 some.3 in
    let turned : reverse c.push-in-Some.new.self.items ≡ next ∷ again ∷ reverse c.args.stack.now.items =
    stack_two c.args.stack.now.items c.push.new.self.items c.push-in-Some.new.self.items again next
    c.in_ok-push-in-Some.ensures.items c.in_ok-push-in-Some-2.ensures.items in
    subst (λ z. IsUnderSearch (length c.args.states.now) (targets_of Epsilon c.args.states.now) c.mark.new.visited.items
    c.args.finished.now.items z) (sym turned)
    (subst (λ z. IsUnderSearch (length c.args.states.now) (targets_of Epsilon c.args.states.now) z
    c.args.finished.now.items (next ∷ again ∷ reverse c.args.stack.now.items))
    (sym c.mark.ensures.items)
    (search_enters (length c.args.states.now) (targets_of Epsilon c.args.states.now) c.args.visited.now.items
    c.args.finished.now.items
    c.args.frame (reverse c.args.stack.now.items) c.requires.search again next edge id refl refl refl refl below
    (ap (λ z. slice_get z edge)
    (edges_at c.args.states.now c.as_usize.result c.args.frame.state c.index-states-as_usize.result
    c.requires.search.follows.0 c.as_usize.ensures.value c.index-states-as_usize.is) ∙ some.0)
    (λ r i. c.in-Some.ensures.followed c.in-Some.edge r refl
    (subst (λ z. In r (take edge z))
    (edges_at c.args.states.now c.as_usize.result c.args.frame.state c.index-states-as_usize.result
    c.requires.search.follows.0 c.as_usize.ensures.value c.index-states-as_usize.is) i))))
