use Rattle.std.proofs.Common.{◌≡◌, ◌<◌, ◌≤◌, ◌+◌, ◌-◌, ◌*◌, ◌/◌, ◌%◌, length, refl, get_or, sym, ap, ◌∙◌, arith}
use Rattle.automata_base.specs.Retraced.Decoders.{pairs_of, node_pairs}
use Rattle.automata_base.specs.Nfas.Nodes.{node_of}
use Rattle.automata_base.specs.Retraced.Once.{once_from}
use Rattle.automata_base.specs.Retraced.Reach.{node_in}
use Rattle.automata_base.specs.Nfas.Errors.{states_below}
use Rattle.automata_base.proofs.Powersets.Walking.{node_at}
use Rattle.automata_base.proofs.Nfas.Reach.Adding.{state_at_below}
use Rattle.automata_base.proofs.Nfas.Reach.Walked.{walk_steps, walk_ends}
use Rattle.automata_base.proofs.Nfas.Utf8.Product.{walk_from}
use Rattle.automata_base.proofs.nfa.thompson.utf8.follow.Goals as goal

pub loop-id-init : goal.loop-id-init
loop-id-init c = record {
  walked = walk_from (pairs_of c.args.classes.now c.args.states.now) c.args.set.now.items;
  capacity = c.requires.capacity;
}

pub bounds-states-number : goal.bounds-states-number
bounds-states-number c =
    let below : c.in-Some.id < c.loop-id.set.capacity = (c.in-Some.ensures.some c.in-Some.id refl).2 in
    let whole : c.loop-id.set.capacity ≡ length c.args.states.now * 11 = c.loop-id.invariant.capacity in
    let same : c.as_usize-number.result ≡ c.in-Some.id = c.as_usize-number.ensures.value in
    omega arith

pub add_state-requires-clause-below : goal.add_state-requires-clause-below
add_state-requires-clause-below c =
    let below : c.in-Some.id < c.loop-id.set.capacity = (c.in-Some.ensures.some c.in-Some.id refl).2 in
    let whole : c.loop-id.set.capacity ≡ length c.args.states.now * 11 = c.loop-id.invariant.capacity in
    let same : c.as_usize-number.result ≡ c.in-Some.id = c.as_usize-number.ensures.value in
    let inside : c.as_usize-number.result / 11 < length c.args.states.now = omega arith in
    let room : c.loop-id.set.capacity / 11 ≡ length c.args.states.now = omega arith in
    state_at_below (c.loop-id.set.capacity / 11) c.args.states.now (c.as_usize-number.result / 11)
    c.index-states-number.result
    (ap (λ z. states_below z c.args.states.now) room ∙ c.requires.range) inside c.index-states-number.is

pub overflow_add-at : goal.overflow_add-at
overflow_add-at c =
    let within : c.loop-id.at < c.loop-id.set.capacity = (c.in-Some.ensures.some c.in-Some.id refl).3 in
    let whole : c.loop-id.set.capacity ≡ length c.args.states.now * 11 = c.loop-id.invariant.capacity in
    let few : length c.args.states.now ≤ 134217728 = c.requires.few in
    omega arith

pub loop-id-smaller : goal.loop-id-smaller
loop-id-smaller c =
    let within : c.loop-id.at < c.loop-id.set.capacity = (c.in-Some.ensures.some c.in-Some.id refl).3 in
    let whole : c.loop-id.set.capacity ≡ length c.args.states.now * 11 = c.loop-id.invariant.capacity in
    let less : length c.args.states.now * 11 - (c.loop-id.at + 1) < length c.args.states.now * 11 - c.loop-id.at =
    omega arith in
    less

pub loop-id-preserved : goal.loop-id-preserved
loop-id-preserved c =
    let some = c.in-Some.ensures.some c.in-Some.id refl in
    let below : c.in-Some.id < c.loop-id.set.capacity = some.2 in
    let whole : c.loop-id.set.capacity ≡ length c.args.states.now * 11 = c.loop-id.invariant.capacity in
    let same : c.as_usize-number.result ≡ c.in-Some.id = c.as_usize-number.ensures.value in
    let inside : c.in-Some.id / 11 < length c.args.states.now = omega arith in
    let here : node_in c.args.states.now (c.in-Some.id / 11) ≡ node_of c.index-states-number.result =
    node_at c.args.states.now (c.in-Some.id / 11) c.index-states-number.result c.index-states-number.result inside
    (c.index-states-number.is ∙ ap (λ z. get_or c.args.states.now (z / 11) c.index-states-number.result) same) in
    record {
      walked =
          walk_steps (pairs_of c.args.classes.now c.args.states.now) c.args.set.now.items c.loop-id.at
          c.loop-id.set.items c.add_state.new.set.items c.in-Some.id
          some.0 some.1
          (c.add_state.ensures.items
          ∙ (ap (λ z. once_from c.loop-id.set.items
          (node_pairs c.args.classes.now (z % 11) (node_of c.index-states-number.result))) same
          ∙ ap (λ m. once_from c.loop-id.set.items (node_pairs c.args.classes.now (c.in-Some.id % 11) m)) (sym here)))
          c.loop-id.invariant.walked;
      capacity = c.add_state.ensures.capacity ∙ whole;
    }

pub returns-clause-reached : goal.returns-clause-reached
returns-clause-reached c = λ x.
    walk_ends (pairs_of c.args.classes.now c.args.states.now) c.args.set.now.items c.loop-id.at c.loop-id.set.items
    (c.in_default.ensures.none refl) c.loop-id.invariant.walked x
