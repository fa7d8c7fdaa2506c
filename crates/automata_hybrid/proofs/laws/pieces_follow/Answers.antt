use Rattle.automata_hybrid.proofs.Known.Bounds.{HasBounds, dfa_bounds}
use Rattle.automata_hybrid.proofs.Known.PiecesFollow.{piece_answers_follow, pieces_follow}
use Rattle.automata_hybrid.proofs.laws.pieces_follow.Goals as goal
use Rattle.automata_hybrid.proofs.laws.pieces_follow.Goals.{After-states_are_bounded}

bounds : (c : After-states_are_bounded) → HasBounds c.args.dfa.now
bounds c =
    dfa_bounds c.args.dfa.now c.states_are_bounded.ensures.machine.sizes.greatest
    c.states_are_bounded.ensures.machine.enough c.states_are_bounded.ensures.own

pub returns-clause-pieces : goal.returns-clause-pieces
returns-clause-pieces c = pieces_follow c.args.dfa.now (bounds c)

pub returns-clause-answers : goal.returns-clause-answers
returns-clause-answers c = piece_answers_follow c.args.dfa.now (bounds c)
