use Rattle.std.proofs.Common.{◌≡◌, ◌∙◌, refl, sym, subst}
use Rattle.automata_base.proofs.Paths.Orders.{some_inj}
use Rattle.automata_hybrid.proofs.Words.{IsRowState, Machine}
use Rattle.automata_hybrid.specs.Known.Pieces.{CannotHoldStart, LacksStart}
use Rattle.automata_hybrid.proofs.Pieces.Answers.{begun_alive, begun_dead, start_named}
use Rattle.automata_hybrid.proofs.Pieces.Walks.{walk_begun_alive, walk_begun_dead}
use Rattle.automata_hybrid.proofs.Searches.PassState.{false_true}
use Rattle.automata_hybrid.proofs.search.pieces.start_pieces.Goals as goal

pub returns-then-is_dead-clause-begun : goal.returns-then-is_dead-clause-begun
returns-then-is_dead-clause-begun c =
    begun_dead c.args.dfa.now c.args.config.now.anchored c.args.config.now.look_behind c.args.earliest c.args.cache.now
    c.start_state.new.cache
    c.in-Ok.id (c.skips.ensures.no c.if-skips.false) c.in-Ok.ensures.answer
    (c.reveal_invariant_of.ensures.table.low c.in-Ok.id)
    c.reveal_invariant_of.ensures.store.small
    (c.if-is_dead.ensures.0 refl)

pub invariant_of-result-in-Ok-handle : goal.invariant_of-result-in-Ok-handle
invariant_of-result-in-Ok-handle c =
    let named = start_named c.args.dfa.now c.args.config.now.anchored c.args.config.now.look_behind c.args.cache.now
    c.start_state.new.cache
    c.in-Ok.id c.in-Ok.ensures.answer (c.reveal_invariant_of.ensures.table.low c.in-Ok.id)
    c.reveal_invariant_of.ensures.store.small
    (λ b. false_true (c.if-is_dead.ensures.1 b)) in
    let handle = c.in-Ok-handle.ensures _ named in
    (refl, subst (λ q. c.in-Ok-handle.handle.key ≡ q) (sym handle.0) handle.1)

pub returns-in-Ok-handle-clause-pieces : goal.returns-in-Ok-handle-clause-pieces
returns-in-Ok-handle-clause-pieces c q e =
    let named = start_named c.args.dfa.now c.args.config.now.anchored c.args.config.now.look_behind c.args.cache.now
    c.start_state.new.cache
    c.in-Ok.id c.in-Ok.ensures.answer (c.reveal_invariant_of.ensures.table.low c.in-Ok.id)
    c.reveal_invariant_of.ensures.store.small
    (λ b. false_true (c.if-is_dead.ensures.1 b)) in
    subst (λ (m : Machine). IsRowState m q) c.start_state.ensures.of
    (subst (IsRowState c.start_state.new.cache.store.table.of)
    (c.snapshot-state.ensures.state _ named ∙ (sym (c.in-Ok-handle.ensures _ named).0 ∙ some_inj e))
    c.snapshot-state.ensures.row)

pub returns-in-Ok-handle-clause-begun : goal.returns-in-Ok-handle-clause-begun
returns-in-Ok-handle-clause-begun c =
    begun_alive c.args.dfa.now c.args.config.now.anchored c.args.config.now.look_behind c.args.earliest
    c.args.cache.now c.start_state.new.cache
    c.in-Ok.id (c.skips.ensures.no c.if-skips.false) c.in-Ok.ensures.answer
    (c.reveal_invariant_of.ensures.table.low c.in-Ok.id)
    c.reveal_invariant_of.ensures.store.small
    c.in-Ok-handle.handle.state (λ b. false_true (c.if-is_dead.ensures.1 b)) (λ q n. (c.in-Ok-handle.ensures q n).0)

pub returns-in-Err-clause-effect : goal.returns-in-Err-clause-effect
returns-in-Err-clause-effect c = (c.skips.ensures.no c.if-skips.false, LacksStart c.in-Err.ensures.refusal)

pub returns-clause-effect : goal.returns-clause-effect
returns-clause-effect c = (c.skips.ensures.no c.if-skips.false, CannotHoldStart c.in-Ok.ensures.run refl)

pub returns-then-is_dead-clause-walk : goal.returns-then-is_dead-clause-walk
returns-then-is_dead-clause-walk c =
    walk_begun_dead c.args.dfa.now c.args.config.now.anchored c.args.config.now.look_behind c.args.earliest
    c.args.cache.now c.start_state.new.cache
    c.in-Ok.id (c.skips.ensures.no c.if-skips.false) c.in-Ok.ensures.answer
    (c.reveal_invariant_of.ensures.table.low c.in-Ok.id)
    c.reveal_invariant_of.ensures.store.small
    (c.if-is_dead.ensures.0 refl)

pub returns-in-Ok-handle-clause-walk : goal.returns-in-Ok-handle-clause-walk
returns-in-Ok-handle-clause-walk c =
    walk_begun_alive c.args.dfa.now c.args.config.now.anchored c.args.config.now.look_behind c.args.earliest
    c.args.cache.now c.start_state.new.cache
    c.in-Ok.id (c.skips.ensures.no c.if-skips.false) c.in-Ok.ensures.answer
    (c.reveal_invariant_of.ensures.table.low c.in-Ok.id)
    c.reveal_invariant_of.ensures.store.small
    c.in-Ok-handle.handle.state (λ b. false_true (c.if-is_dead.ensures.1 b)) (λ q n. (c.in-Ok-handle.ensures q n).0)
