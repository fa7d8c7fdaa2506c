use Rattle.std.proofs.Common.{subst, sym, Some, None}
use Rattle.automata_hybrid.specs.Machines.Machine.{Machine}
use Rattle.automata_hybrid.specs.Pieces.State.{IsPiecesOf}
use Rattle.automata_hybrid.specs.Known.Pieces.{IsWalkCallRun}
use Rattle.automata_hybrid.specs.Known.Stores.{known_of}
use Rattle.patterns.specs.declared.pattern.Pattern.{Pattern}
use Rattle.lazydfa_c.specs.Streams.{WalkView}
use Rattle.lazydfa_c.proofs.walk.Walk.read.Goals as goal

pub walk_piece-requires-clause-walk : goal.walk_piece-requires-clause-walk
walk_piece-requires-clause-walk c =
    let p = c.self.inside.walk in
    subst (λ (m : Machine). IsPiecesOf p m) (sym c.forward.ensures)
    (subst (λ (v : Pattern). IsPiecesOf p v.regex.forward) (sym c.deref.ensures) c.self.invariant)

pub invariant_of-self : goal.invariant_of-self
invariant_of-self c =
    let p = c.walk_piece.new.walk in
    subst (λ (v : Pattern). IsPiecesOf p v.regex.forward) c.deref.ensures
    (subst (λ (m : Machine). IsPiecesOf p m) c.forward.ensures c.walk_piece.ensures.walk)

pub invariant_of-self-in-Err : goal.invariant_of-self-in-Err
invariant_of-self-in-Err c =
    let p = c.walk_piece.new.walk in
    subst (λ (v : Pattern). IsPiecesOf p v.regex.forward) c.deref.ensures
    (subst (λ (m : Machine). IsPiecesOf p m) c.forward.ensures c.walk_piece.ensures.walk)

pub returns-in-Ok-clause-effect : goal.returns-in-Ok-clause-effect
returns-in-Ok-clause-effect c =
    let w = c.self.inside.walk in let next = c.walk_piece.new.walk in let piece = c.args.piece.now in
    let old = c.args.cache.now in let new = c.walk_piece.new.cache in
    subst (λ (v : WalkView). IsWalkCallRun v.machine piece v.walk next (known_of old) (known_of new) None)
    c.self.view_is
    (subst (λ (v : Pattern). IsWalkCallRun v.regex.forward piece w next (known_of old) (known_of new) None)
    c.deref.ensures
    (subst (λ (m : Machine). IsWalkCallRun m piece w next (known_of old) (known_of new) None) c.forward.ensures
    c.in-Ok.ensures.effect))

pub returns-in-Err-clause-effect : goal.returns-in-Err-clause-effect
returns-in-Err-clause-effect c =
    let w = c.self.inside.walk in let next = c.walk_piece.new.walk in let piece = c.args.piece.now in
    let old = c.args.cache.now in let new = c.walk_piece.new.cache in let e = c.in-Err.error in
    subst (λ (v : WalkView). IsWalkCallRun v.machine piece v.walk next (known_of old) (known_of new) (Some e))
    c.self.view_is
    (subst (λ (v : Pattern). IsWalkCallRun v.regex.forward piece w next (known_of old) (known_of new) (Some e))
    c.deref.ensures
    (subst (λ (m : Machine). IsWalkCallRun m piece w next (known_of old) (known_of new) (Some e)) c.forward.ensures
    c.in-Err.ensures.effect))
