use Rattle.std.proofs.Common.{suc, ◌≡◌, ◌∙◌, ◌+◌, None, ap, arith, refl, sym, subst}
use Rattle.std.specs.Prelude.{not}
use Rattle.automata_hybrid.proofs.Words.{begun, known_of, result_err}
use Rattle.automata_base.specs.declared.util.search.MatchErrorKind.TheVariants.{GaveUp}
use Rattle.automata_config.specs.declared.error.SearchError.TheVariants as search
use Rattle.automata_hybrid.specs.Known.Pieces.{AsSearch, IsWalkCallRun, NotHeld, NotHeldAt, NotRestored, TooLong}
use Rattle.automata_hybrid.specs.Known.Pieces.{WalksThrough, WalksUpto}
use Rattle.automata_hybrid.specs.Pieces.State.{IsPiecesOf, PiecesView}
use Rattle.automata_hybrid.specs.Private.Pieces.State.{found_in}
use Rattle.automata_hybrid.specs.Pieces.Walks.{IsWalked}
use Rattle.automata_hybrid.specs.Private.Pieces.Walks.{IsPiecesWalk}
use Rattle.automata_hybrid.specs.Searches.PieceRuns.{piece_state}
use Rattle.automata_hybrid.proofs.Pieces.Progress.{begins_piece, run_left, run_through, run_upto}
use Rattle.automata_hybrid.proofs.Pieces.Runs.{found_fits}
use Rattle.automata_hybrid.proofs.Pieces.Walks.{alive_upto, named_upto, stands_as, walks_dead, walks_match, walks_none}
use Rattle.automata_hybrid.proofs.Pieces.Walks.{walks_through}
use Rattle.automata_hybrid.proofs.Searches.PassState.{none_is, some_is}
use Rattle.automata_hybrid.proofs.Searches.Reads.{at_err}
use Rattle.automata_hybrid.proofs.search.pieces.walk.walk_pieces.Goals as goal

pub returns-in_err-from-clause-effect : goal.returns-in_err-from-clause-effect
returns-in_err-from-clause-effect c =
    let left = c.in_err-from.ensures.resumed in
    at_err c.from_residual.result _
    (λ r. IsWalkCallRun c.args.dfa.now c.args.piece.now c.args.pieces.now c.args.pieces.now
    (known_of c.args.cache.now) (known_of c.resume_pieces.new.cache) (result_err r))
    c.from_residual.ensures.1 (AsSearch (NotRestored left.state left.stood left.fails))

pub returns-in_default-clause-walked : goal.returns-in_default-clause-walked
returns-in_default-clause-walked c =
    let none = (rw c.in_default.is at c.in_ok-from.ensures.resumed).0 in
    walks_none c.args.dfa.now c.args.piece.now c.args.pieces.now none (c.requires.walk.none none)

pub returns-in_default-checked_add-clause-effect : goal.returns-in_default-checked_add-clause-effect
returns-in_default-checked_add-clause-effect c =
    let on = rw c.in-Some.is at c.in_ok-from.ensures.resumed in
    AsSearch (TooLong on.state on.stood on.back
    (let e = c.bytes_read-base.ensures in let over = c.in_default-checked_add.ensures in omega (arith, e, over))
    (ap (λ e. search.Match e) (c.gave_up.ensures ∙ ap (λ at. GaveUp at) c.bytes_read-base.ensures)))

pub returns-in_err-at-clause-effect : goal.returns-in_err-at-clause-effect
returns-in_err-at-clause-effect c =
    let on = rw c.in-Some.is at c.in_ok-from.ensures.resumed in
    at_err c.from_residual-in_err-at.result _
    (λ r. IsWalkCallRun c.args.dfa.now c.args.piece.now c.args.pieces.now c.args.pieces.now
    (known_of c.args.cache.now) (known_of c.run_piece.new.cache) (result_err r))
    c.from_residual-in_err-at.ensures.1
    (AsSearch (run_left on c.args.piece.now c.run_piece.new.cache (sym c.requires.walk.early)
    c.bytes_read-base.ensures (let a = c.in-Some-checked_add.ensures in omega (arith, a)) c.in_err-at.ensures.ran))

pub returns-then-is_none-clause-walked : goal.returns-then-is_none-clause-walked
returns-then-is_none-clause-walked c =
    let on = rw c.in-Some.is at c.in_ok-from.ensures.resumed in
    let over =
    run_upto on c.args.piece.now c.run_piece.new.cache (sym c.requires.walk.early) c.in_ok-at.field-0
    c.in_ok-at.ensures.ran c.in-Over.is in
    let none : c.in-Over.found ≡ None = none_is c.in-Over.found (c.is_none.ensures ∙ ap not c.if-is_none.true) in
    walks_dead c.args.dfa.now on.state c.args.piece.now c.args.pieces.now c.end.new.self on.stood c.requires.walk.early
    c.in-Over.at c.in-Over.found (begun 0 (known_of c.resume_pieces.new.cache)) (known_of c.run_piece.new.cache)
    over.upto over.reported none c.end.ensures.state c.end.ensures.found

pub returns-then-is_none-clause-effect : goal.returns-then-is_none-clause-effect
returns-then-is_none-clause-effect c =
    let on = rw c.in-Some.is at c.in_ok-from.ensures.resumed in
    let over =
    run_upto on c.args.piece.now c.run_piece.new.cache (sym c.requires.walk.early) c.in_ok-at.field-0
    c.in_ok-at.ensures.ran c.in-Over.is in
    WalksUpto on.state _ c.in-Over.at
    (begins_piece on c.args.piece.now c.bytes_read-base.result c.bytes_read-base.ensures
    (let a = c.in-Some-checked_add.ensures in omega (arith, a)))
    over.upto
    (let e = c.bytes_read-base.ensures in let r = c.end.ensures.read in omega (arith, e, r))

pub found_in-found-requires : goal.found_in-found-requires
found_in-found-requires c =
    let on = rw c.in-Some.is at c.in_ok-from.ensures.resumed in
    let over =
    run_upto on c.args.piece.now c.run_piece.new.cache (sym c.requires.walk.early) c.in_ok-at.field-0
    c.in_ok-at.ensures.ran c.in-Over.is in
    found_fits c.args.pieces.now.earliest (λ k. piece_state c.args.dfa.now c.args.piece.now on.state k)
    (suc c.in-Over.at)
    c.args.piece.now c.bytes_read-base.result c.in-Over.found over.reported
    (let l = over.upto.reads.0 in omega (arith, l)) (let e = c.in-Some-checked_add.ensures in omega (arith, e))

pub returns-in_err-hold_row-in-Over-clause-walk : goal.returns-in_err-hold_row-in-Over-clause-walk
returns-in_err-hold_row-in-Over-clause-walk c =
    let same = c.in_err-hold_row-in-Over.ensures.fails.1 in (
      subst (λ (p : PiecesView). IsPiecesOf p c.args.dfa.now) (sym same) c.requires.pieces,
      subst (λ (p : PiecesView). IsPiecesWalk p) (sym same) c.requires.walk,
    )

pub returns-in_err-hold_row-in-Over-clause-effect : goal.returns-in_err-hold_row-in-Over-clause-effect
returns-in_err-hold_row-in-Over-clause-effect c =
    let on = rw c.in-Some.is at c.in_ok-from.ensures.resumed in
    let over =
    run_upto on c.args.piece.now c.run_piece.new.cache (sym c.requires.walk.early) c.in_ok-at.field-0
    c.in_ok-at.ensures.ran c.in-Over.is in
    at_err c.from_residual-in_err-hold_row-in-Over.result _
    (λ r. IsWalkCallRun c.args.dfa.now c.args.piece.now c.args.pieces.now c.hold_row.new.pieces
    (known_of c.args.cache.now) (known_of c.run_piece.new.cache) (result_err r))
    c.from_residual-in_err-hold_row-in-Over.ensures.1
    (NotHeldAt on.state _ c.in-Over.at
    (begins_piece on c.args.piece.now c.bytes_read-base.result c.bytes_read-base.ensures
    (let a = c.in-Some-checked_add.ensures in omega (arith, a)))
    over.upto
    (alive_upto c.args.dfa.now on.state c.args.piece.now c.args.pieces.now c.hold_row.new.pieces on.stood
    c.requires.walk.early c.in-Over.at c.in-Over.found (begun 0 (known_of c.resume_pieces.new.cache))
    (known_of c.run_piece.new.cache) over.upto over.reported
    (some_is c.in-Over.found (sym (c.is_none.ensures ∙ ap not c.if-is_none.false))))
    c.in_err-hold_row-in-Over.ensures.fails.0)

pub returns-in_err-hold_row-in-At-clause-walk : goal.returns-in_err-hold_row-in-At-clause-walk
returns-in_err-hold_row-in-At-clause-walk c =
    let same = c.in_err-hold_row-in-At.ensures.fails.1 in (
      subst (λ (p : PiecesView). IsPiecesOf p c.args.dfa.now) (sym same) c.requires.pieces,
      subst (λ (p : PiecesView). IsPiecesWalk p) (sym same) c.requires.walk,
    )

pub returns-in_err-hold_row-in-At-clause-effect : goal.returns-in_err-hold_row-in-At-clause-effect
returns-in_err-hold_row-in-At-clause-effect c =
    let on = rw c.in-Some.is at c.in_ok-from.ensures.resumed in
    let through =
    run_through on c.args.piece.now c.run_piece.new.cache (sym c.requires.walk.early) c.in_ok-at.field-0
    c.in_ok-at.ensures.ran c.in-At.is in
    at_err c.from_residual-in_err-hold_row-in-At.result _
    (λ r. IsWalkCallRun c.args.dfa.now c.args.piece.now c.args.pieces.now c.hold_row-in-At.new.pieces
    (known_of c.args.cache.now) (known_of c.run_piece.new.cache) (result_err r))
    c.from_residual-in_err-hold_row-in-At.ensures.1
    (AsSearch (NotHeld on.state _
    (begins_piece on c.args.piece.now c.bytes_read-base.result c.bytes_read-base.ensures
    (let a = c.in-Some-checked_add.ensures in omega (arith, a)))
    through.all c.in_err-hold_row-in-At.ensures.fails.0))

pub returns-in_ok-hold_row-in-Over-clause-walked : goal.returns-in_ok-hold_row-in-Over-clause-walked
returns-in_ok-hold_row-in-Over-clause-walked c =
    let on = rw c.in-Some.is at c.in_ok-from.ensures.resumed in
    let over =
    run_upto on c.args.piece.now c.run_piece.new.cache (sym c.requires.walk.early) c.in_ok-at.field-0
    c.in_ok-at.ensures.ran c.in-Over.is in
    let some = some_is c.in-Over.found (sym (c.is_none.ensures ∙ ap not c.if-is_none.false)) in
    let more : suc c.in-Over.at ≡ c.in-Over.at + 1 = omega arith in
    subst (λ n. IsWalked c.args.dfa.now c.args.piece.now c.args.pieces.now c.hold_row.new.pieces n) more
    (walks_match c.args.dfa.now on.state c.args.piece.now c.args.pieces.now c.hold_row.new.pieces on.stood
    c.requires.walk.early c.in-Over.at c.in-Over.found (begun 0 (known_of c.resume_pieces.new.cache))
    (known_of c.run_piece.new.cache) over.upto over.reported c.run_piece.new.cache.store.table c.in-Over.id some
    (stands_as c.run_piece.new.cache.store.table c.in-Over.id _ _ _ _ c.args.pieces.now c.hold_row.new.pieces
    c.in_ok-hold_row-in-Over.ensures.stands.1 (let e = c.bytes_read-base.ensures in omega (arith, e))
    (c.found_in-found.ensures ∙ ap (λ b. found_in c.in-Over.found b None) c.bytes_read-base.ensures))
    (named_upto c.args.dfa.now on.state c.args.piece.now c.args.pieces.now c.hold_row.new.pieces on.stood
    c.requires.walk.early c.in-Over.at c.in-Over.found (begun 0 (known_of c.resume_pieces.new.cache))
    (known_of c.run_piece.new.cache) over.upto over.reported c.run_piece.new.cache.store.table c.in-Over.id some
    over.leads))

pub returns-in_ok-hold_row-in-Over-clause-effect : goal.returns-in_ok-hold_row-in-Over-clause-effect
returns-in_ok-hold_row-in-Over-clause-effect c =
    let on = rw c.in-Some.is at c.in_ok-from.ensures.resumed in
    let over =
    run_upto on c.args.piece.now c.run_piece.new.cache (sym c.requires.walk.early) c.in_ok-at.field-0
    c.in_ok-at.ensures.ran c.in-Over.is in
    WalksUpto on.state _ c.in-Over.at
    (begins_piece on c.args.piece.now c.bytes_read-base.result c.bytes_read-base.ensures
    (let a = c.in-Some-checked_add.ensures in omega (arith, a)))
    over.upto
    (let e = c.bytes_read-base.ensures in let r = c.in_ok-hold_row-in-Over.ensures.stands.1.read in
    omega (arith, e, r))

pub returns-in_ok-hold_row-in-At-clause-walked : goal.returns-in_ok-hold_row-in-At-clause-walked
returns-in_ok-hold_row-in-At-clause-walked c =
    let on = rw c.in-Some.is at c.in_ok-from.ensures.resumed in
    let through =
    run_through on c.args.piece.now c.run_piece.new.cache (sym c.requires.walk.early) c.in_ok-at.field-0
    c.in_ok-at.ensures.ran c.in-At.is in
    walks_through c.args.dfa.now on.state c.args.piece.now c.args.pieces.now c.hold_row-in-At.new.pieces on.stood
    c.requires.walk.early c.run_piece.new.cache.store.table c.in-At.id c.in-At.field-1
    (stands_as c.run_piece.new.cache.store.table c.in-At.id _ _ _ _ c.args.pieces.now
    c.hold_row-in-At.new.pieces c.in_ok-hold_row-in-At.ensures.stands.1
    (let e = c.bytes_read-base.ensures in let a = c.in-Some-checked_add.ensures in omega (arith, e, a)) refl)
    through.at

pub returns-in_ok-hold_row-in-At-clause-effect : goal.returns-in_ok-hold_row-in-At-clause-effect
returns-in_ok-hold_row-in-At-clause-effect c =
    let on = rw c.in-Some.is at c.in_ok-from.ensures.resumed in
    let through =
    run_through on c.args.piece.now c.run_piece.new.cache (sym c.requires.walk.early) c.in_ok-at.field-0
    c.in_ok-at.ensures.ran c.in-At.is in
    WalksThrough on.state _
    (begins_piece on c.args.piece.now c.bytes_read-base.result c.bytes_read-base.ensures
    (let a = c.in-Some-checked_add.ensures in omega (arith, a)))
    through.all
    (let e = c.bytes_read-base.ensures in let r = c.in_ok-hold_row-in-At.ensures.stands.1.read in
    let a = c.in-Some-checked_add.ensures in omega (arith, e, r, a))

pub hold_row-requires-clause-valid : goal.hold_row-requires-clause-valid
hold_row-requires-clause-valid c =
    let on = rw c.in-Some.is at c.in_ok-from.ensures.resumed in
    let over =
    run_upto on c.args.piece.now c.run_piece.new.cache (sym c.requires.walk.early) c.in_ok-at.field-0
    c.in_ok-at.ensures.ran c.in-Over.is in
    let some = some_is c.in-Over.found (sym (c.is_none.ensures ∙ ap not c.if-is_none.false)) in (
      _,
      named_upto c.args.dfa.now on.state c.args.piece.now c.args.pieces.now c.args.pieces.now on.stood
          c.requires.walk.early c.in-Over.at c.in-Over.found (begun 0 (known_of c.resume_pieces.new.cache))
          (known_of c.run_piece.new.cache) over.upto over.reported c.run_piece.new.cache.store.table c.in-Over.id some
          over.leads,
    )

pub hold_row-requires-in-At-clause-valid : goal.hold_row-requires-in-At-clause-valid
hold_row-requires-in-At-clause-valid c =
    let on = rw c.in-Some.is at c.in_ok-from.ensures.resumed in
    let through =
    run_through on c.args.piece.now c.run_piece.new.cache (sym c.requires.walk.early) c.in_ok-at.field-0
    c.in_ok-at.ensures.ran c.in-At.is in
    (_, through.at.named)
