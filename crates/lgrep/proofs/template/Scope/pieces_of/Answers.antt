use Rattle.std.proofs.Common.{◌+◌, ◌∷◌, [], arith, length-drop, refl}
use Rattle.std.proofs.lemmas.List.{append_assoc}
use Rattle.meta.specs.Names.{group_names}
use Rattle.lgrep.specs.Templates.{group_for, pieces_of}
use Rattle.lgrep.proofs.Reading.{read_turn}
use Rattle.lgrep.proofs.template.Scope.pieces_of.Goals as goal
use Rattle.lgrep.proofs.template.Scope.pieces_of.Goals.{in-Some+in_ok-push, in_default}

pub loop-at-preserved : goal.loop-at-preserved
loop-at-preserved c =
    let g = group_for (group_names c.args.self.now.programs.now c.args.self.now.pattern) c.args.self.now.before in
    let t = c.args.template.now in
    let within = rw c.after-rest.ensures at c.piece_at-piece.ensures.within in (
      omega (arith, within, length-drop (c.loop-at.at + 1) t),
      read_turn g t c.loop-at.at c.piece_at-piece.result c.loop-at.pieces.items c.match-piece.pieces.items
          (pieces_of g t 0) c.loop-at-test.true (rw c.after-rest.ensures at c.piece_at-piece.ensures.piece)
          (λ rest. elim c.match-piece.branch [
            | in-Some+in_ok-push w ↦
                rw (w.pieces-is, w.in_ok-push.ensures.items, w.in-Some.is)
                (append_assoc c.loop-at.pieces.items (w.in-Some.piece ∷ []) rest)
            | in_default w ↦ rw (w.pieces-is, w.in_default.is) refl
          ])
          c.loop-at.invariant.1,
    )
