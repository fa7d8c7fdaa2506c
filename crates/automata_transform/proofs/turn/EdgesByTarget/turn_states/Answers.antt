use Rattle.std.proofs.Common.{◌<◌, length, ap, ◌∙◌, arith}
use Rattle.automata_base.specs.Nfas.Errors.{states_below}
use Rattle.automata_transform.specs.Retraced.ReversedEdges.{turns_of, turn_states}
use Rattle.automata_transform.proofs.Nfas.Mirrors.Lists.{err_is, states_next}
use Rattle.automata_transform.proofs.Nfas.Mirrors.Sizes.{state_large}
use Rattle.automata_base.proofs.Nfas.Reach.Adding.{id_below, state_at_below}
use Rattle.automata_transform.proofs.turn.EdgesByTarget.turn_states.Goals as goal

pub bounds-states-as_usize : goal.bounds-states-as_usize
bounds-states-as_usize c =
    let below : c.id-item.result < length c.args.states.now =
    id_below (length c.args.states.now) c.args.ids.now c.loop-id.id-index c.id-item.result c.requires.below
    c.loop-id-test.true c.id-item.is in
    omega (arith, below, c.as_usize.ensures.value)

pub turn_state-requires : goal.turn_state-requires
turn_state-requires c =
    let below : c.id-item.result < length c.args.states.now =
    id_below (length c.args.states.now) c.args.ids.now c.loop-id.id-index c.id-item.result c.requires.below
    c.loop-id-test.true c.id-item.is in
    state_at_below (length c.loop-id.self.lists.items) c.args.states.now c.as_usize.result
    c.index-states-as_usize.result
    (ap (λ z. states_below z c.args.states.now) c.loop-id.invariant.few ∙ c.requires.range)
    (omega (arith, below, c.as_usize.ensures.value)) c.index-states-as_usize.is

pub loop-id-preserved : goal.loop-id-preserved
loop-id-preserved c =
    let below : c.id-item.result < length c.args.states.now =
    id_below (length c.args.states.now) c.args.ids.now c.loop-id.id-index c.id-item.result c.requires.below
    c.loop-id-test.true c.id-item.is in
    record {
      rest =
          states_next (turns_of c.loop-id.self) (turns_of c.turn_state.new.self) c.args.states.now c.args.ids.now
          c.loop-id.id-index
          c.id-item.result c.as_usize.result c.index-states-as_usize.result
          (turn_states (turns_of c.args.self.now) c.args.states.now c.args.ids.now)
          c.loop-id-test.true c.id-item.is (omega (arith, below, c.as_usize.ensures.value)) c.as_usize.ensures.value
          c.index-states-as_usize.is c.in_ok-turn_state.ensures.turned c.loop-id.invariant.rest;
      few = c.in_ok-turn_state.ensures.few ∙ c.loop-id.invariant.few;
    }

pub returns-in_err-turn_state-clause-large : goal.returns-in_err-turn_state-clause-large
returns-in_err-turn_state-clause-large c = λ e.
    let below : c.id-item.result < length c.args.states.now =
    id_below (length c.args.states.now) c.args.ids.now c.loop-id.id-index c.id-item.result c.requires.below
    c.loop-id-test.true c.id-item.is in
    state_large (turns_of c.loop-id.self) c.args.states.now c.args.ids.now c.loop-id.id-index c.id-item.result
    c.as_usize.result
    c.index-states-as_usize.result (turn_states (turns_of c.args.self.now) c.args.states.now c.args.ids.now)
    c.loop-id-test.true c.id-item.is
    (omega (arith, below, c.as_usize.ensures.value)) c.as_usize.ensures.value c.index-states-as_usize.is
    c.loop-id.invariant.rest
    (c.in_err-turn_state.ensures.large (err_is c.from_residual.result _ _ c.from_residual.ensures.1 e))
