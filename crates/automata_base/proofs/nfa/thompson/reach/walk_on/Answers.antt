use Rattle.std.proofs.Common.{◌≡◌, ◌<◌, ◌≤◌, ◌+◌, ◌-◌, length, refl, get_or, sym, ap, ◌∙◌, arith}
use Rattle.automata_base.specs.Nfas.Nodes.{node_of}
use Rattle.automata_base.specs.Retraced.Once.{once_from}
use Rattle.automata_base.specs.Retraced.Reach.{node_in, targets_at, targets_of}
use Rattle.automata_base.specs.Nfas.Errors.{states_below}
use Rattle.automata_base.proofs.Powersets.Walking.{node_at}
use Rattle.automata_base.proofs.Nfas.Reach.Adding.{state_at_below}
use Rattle.automata_base.proofs.Nfas.Reach.Walked.{walk_starts, walk_steps, walk_ends}
use Rattle.automata_base.proofs.nfa.thompson.reach.walk_on.Goals as goal

pub loop-id-init : goal.loop-id-init
loop-id-init c = record {
  walked = walk_starts (targets_of c.args.edges c.args.states.now) c.args.done c.args.set.now.items c.requires.walked;
  capacity = c.requires.capacity;
}

pub bounds-states-as_usize : goal.bounds-states-as_usize
bounds-states-as_usize c =
    let below : c.in-Some.id < c.loop-id.set.capacity = (c.in-Some.ensures.some c.in-Some.id refl).2 in
    let whole : c.loop-id.set.capacity ≡ length c.args.states.now = c.loop-id.invariant.capacity in
    let same : c.as_usize.result ≡ c.in-Some.id = c.as_usize.ensures.value in
    omega arith

pub add_targets-requires : goal.add_targets-requires
add_targets-requires c =
    let below : c.in-Some.id < c.loop-id.set.capacity = (c.in-Some.ensures.some c.in-Some.id refl).2 in
    let whole : c.loop-id.set.capacity ≡ length c.args.states.now = c.loop-id.invariant.capacity in
    let same : c.as_usize.result ≡ c.in-Some.id = c.as_usize.ensures.value in
    let inside : c.as_usize.result < length c.args.states.now = omega arith in
    state_at_below c.loop-id.set.capacity c.args.states.now c.as_usize.result c.index-states-as_usize.result
    (ap (λ z. states_below z c.args.states.now) whole ∙ c.requires.range) inside c.index-states-as_usize.is

pub overflow_add-at : goal.overflow_add-at
overflow_add-at c =
    let within : c.loop-id.at < c.loop-id.set.capacity = (c.in-Some.ensures.some c.in-Some.id refl).3 in
    let whole : c.loop-id.set.capacity ≡ length c.args.states.now = c.loop-id.invariant.capacity in
    let few : length c.args.states.now ≤ 134217728 = c.requires.few in
    omega arith

pub loop-id-smaller : goal.loop-id-smaller
loop-id-smaller c =
    let within : c.loop-id.at < c.loop-id.set.capacity = (c.in-Some.ensures.some c.in-Some.id refl).3 in
    let whole : c.loop-id.set.capacity ≡ length c.args.states.now = c.loop-id.invariant.capacity in
    let less : length c.args.states.now - (c.loop-id.at + 1) < length c.args.states.now - c.loop-id.at = omega arith in
    less

pub loop-id-preserved : goal.loop-id-preserved
loop-id-preserved c =
    let some = c.in-Some.ensures.some c.in-Some.id refl in
    let below : c.in-Some.id < c.loop-id.set.capacity = some.2 in
    let whole : c.loop-id.set.capacity ≡ length c.args.states.now = c.loop-id.invariant.capacity in
    let inside : c.in-Some.id < length c.args.states.now = omega arith in
    let here : node_in c.args.states.now c.in-Some.id ≡ node_of c.index-states-as_usize.result =
    node_at c.args.states.now c.in-Some.id c.index-states-as_usize.result c.index-states-as_usize.result inside
    (c.index-states-as_usize.is
    ∙ ap (λ z. get_or c.args.states.now z c.index-states-as_usize.result) c.as_usize.ensures.value) in
    record {
      walked =
          walk_steps (targets_of c.args.edges c.args.states.now) c.args.set.now.items c.loop-id.at c.loop-id.set.items
          c.add_targets.new.set.items c.in-Some.id
          some.0 some.1
          (c.add_targets.ensures.items ∙ ap (λ m. once_from c.loop-id.set.items (targets_at c.args.edges m)) (sym here))
          c.loop-id.invariant.walked;
      capacity = c.add_targets.ensures.capacity ∙ whole;
    }

pub returns-clause-reached : goal.returns-clause-reached
returns-clause-reached c = λ q.
    walk_ends (targets_of c.args.edges c.args.states.now) c.args.set.now.items c.loop-id.at c.loop-id.set.items
    (c.in_default.ensures.none refl) c.loop-id.invariant.walked q
