use Rattle.automata_hybrid.proofs.Known.Bounds.{HasBounds, dfa_bounds}
use Rattle.automata_hybrid.proofs.Known.Makes.{events_follow, starts_follow, steps_follow}
use Rattle.automata_hybrid.proofs.laws.steps_follow.Goals as goal
use Rattle.automata_hybrid.proofs.laws.steps_follow.Goals.{After-states_are_bounded}

bounds : (c : After-states_are_bounded) → HasBounds c.args.dfa.now
bounds c =
    dfa_bounds c.args.dfa.now c.states_are_bounded.ensures.machine.sizes.greatest
    c.states_are_bounded.ensures.machine.enough c.states_are_bounded.ensures.own

pub returns-clause-events : goal.returns-clause-events
returns-clause-events c = events_follow c.args.dfa.now (bounds c)

pub returns-clause-steps : goal.returns-clause-steps
returns-clause-steps c = steps_follow c.args.dfa.now (bounds c)

pub returns-clause-starts : goal.returns-clause-starts
returns-clause-starts c = starts_follow c.args.dfa.now (bounds c)
