use Rattle.std.proofs.Common.{◌∙◌, ap, refl, sym, subst}
use Rattle.automata_hybrid.proofs.Words.{known_of, SearchError}
use Rattle.automata_hybrid.specs.Known.Walks.{IsNotRestored}
use Rattle.automata_hybrid.specs.Pieces.State.{IsPiecesOf, PiecesView}
use Rattle.automata_hybrid.specs.Private.Pieces.State.{held_state}
use Rattle.automata_hybrid.proofs.search.pieces.resume_pieces.Goals as goal

pub row_of-requires-clause-state : goal.row_of-requires-clause-state
row_of-requires-clause-state c =
    subst (λ (p : PiecesView). IsPiecesOf p c.args.dfa.now) (sym c.pieces.view_is) c.requires.pieces
    c.in-Some.handle.state (ap held_state c.in-Some.is)

pub returns-in_default-clause-resumed : goal.returns-in_default-clause-resumed
returns-in_default-clause-resumed c =
    (sym (ap (λ (p : PiecesView). p.state) c.pieces.view_is) ∙ ap held_state c.in_default.is, refl)

pub returns-in-Ok-clause-resumed : goal.returns-in-Ok-clause-resumed
returns-in-Ok-clause-resumed c = record {
  state = c.in-Some.handle.state;
  stood = sym (ap (λ (p : PiecesView). p.state) c.pieces.view_is) ∙ ap held_state c.in-Some.is;
  back = c.in-Ok.ensures.back.back;
  named = c.in-Ok.ensures.back.named;
}

pub returns-in-Err-clause-resumed : goal.returns-in-Err-clause-resumed
returns-in-Err-clause-resumed c = record {
  state = c.in-Some.handle.state;
  stood = sym (ap (λ (p : PiecesView). p.state) c.pieces.view_is) ∙ ap held_state c.in-Some.is;
  fails =
      subst
      (λ (p : PiecesView). IsNotRestored c.args.dfa.now c.in-Some.handle.state p.read (known_of c.args.cache.now)
      (known_of c.row_of.new.cache) c.step_error.result)
      c.pieces.view_is
      (subst
      (λ (e : SearchError). IsNotRestored c.args.dfa.now c.in-Some.handle.state c.pieces.inside.read
      (known_of c.args.cache.now) (known_of c.row_of.new.cache) e)
      (sym c.step_error.ensures) (c.in-Err.ensures.back c.pieces.inside.read));
}
