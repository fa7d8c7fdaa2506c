use Rattle.std.proofs.Common.{subst, sym}
use Rattle.automata_hybrid.proofs.Words.{known_of, result_err}
use Rattle.automata_hybrid.specs.Known.Pieces.{IsWalkEndRun}
use Rattle.automata_hybrid.specs.Pieces.State.{IsPiecesOf, PiecesView}
use Rattle.automata_hybrid.proofs.dfa.DFA.end_walk.Goals as goal

pub end_pieces_walk-requires-clause-pieces : goal.end_pieces_walk-requires-clause-pieces
end_pieces_walk-requires-clause-pieces c =
    subst (λ (p : PiecesView). IsPiecesOf p c.args.self.now) (sym c.walk.view_is) c.requires.walk

pub returns-clause-effect : goal.returns-clause-effect
returns-clause-effect c =
    subst
    (λ (w : PiecesView). IsWalkEndRun c.args.self.now c.args.look_ahead w (known_of c.args.cache.now)
    (known_of c.end_pieces_walk.new.cache) (result_err c.end_pieces_walk.result))
    c.walk.view_is c.end_pieces_walk.ensures.effect
