use Rattle.automata_hybrid.proofs.Known.Bounds.{HasBounds, dfa_bounds}
use Rattle.automata_hybrid.proofs.Known.SearchesFollow.{passes_cost, searches_follow}
use Rattle.automata_hybrid.proofs.laws.searches_follow.Goals as goal
use Rattle.automata_hybrid.proofs.laws.searches_follow.Goals.{After-states_are_bounded}

bounds : (c : After-states_are_bounded) → HasBounds c.args.dfa.now
bounds c =
    dfa_bounds c.args.dfa.now c.states_are_bounded.ensures.machine.sizes.greatest
    c.states_are_bounded.ensures.machine.enough c.states_are_bounded.ensures.own

pub returns-clause-searches : goal.returns-clause-searches
returns-clause-searches c = searches_follow c.args.dfa.now (bounds c)

pub returns-clause-passes : goal.returns-clause-passes
returns-clause-passes c = passes_cost c.args.dfa.now (bounds c)
