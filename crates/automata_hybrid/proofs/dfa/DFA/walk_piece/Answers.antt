use Rattle.std.proofs.Common.{subst, sym}
use Rattle.automata_hybrid.proofs.Words.{known_of, result_err}
use Rattle.automata_hybrid.specs.Known.Pieces.{IsWalkCallRun}
use Rattle.automata_hybrid.specs.Pieces.State.{IsPiecesOf, PiecesView}
use Rattle.automata_hybrid.proofs.dfa.DFA.walk_piece.Goals as goal

pub walk_pieces-requires-clause-pieces : goal.walk_pieces-requires-clause-pieces
walk_pieces-requires-clause-pieces c =
    subst (λ (p : PiecesView). IsPiecesOf p c.args.self.now) (sym c.walk.view_is) c.requires.walk

pub returns-clause-effect : goal.returns-clause-effect
returns-clause-effect c =
    subst
    (λ (w : PiecesView). IsWalkCallRun c.args.self.now c.args.piece.now w c.walk_pieces.new.pieces
    (known_of c.args.cache.now) (known_of c.walk_pieces.new.cache) (result_err c.walk_pieces.result))
    c.walk.view_is c.walk_pieces.ensures.effect
