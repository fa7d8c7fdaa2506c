use Rattle.std.proofs.Common.{suc, ◌≡◌, ◌∙◌, ◌-◌, ap, ap₂, arith, length, refl}
use Rattle.automata_hybrid.proofs.Words.{begun, known_of, result_err}
use Rattle.automata_config.specs.declared.error.SearchError.TheVariants as search
use Rattle.automata_base.specs.declared.util.search.MatchErrorKind.TheVariants.{GaveUp}
use Rattle.automata_hybrid.specs.Known.Pieces.{IsPieceRun, NotHeld, NotRestored, Through, TooLong, Upto}
use Rattle.automata_hybrid.specs.Private.Pieces.State.{found_in}
use Rattle.automata_hybrid.specs.Searches.PieceRuns.{piece_state}
use Rattle.automata_hybrid.proofs.Pieces.Answers.{reads_over, reads_through}
use Rattle.automata_hybrid.proofs.Pieces.Progress.{begins_piece, run_left, run_through, run_upto}
use Rattle.automata_hybrid.proofs.Pieces.Runs.{found_fits}
use Rattle.automata_hybrid.proofs.Searches.Reads.{at_err}
use Rattle.automata_hybrid.proofs.dfa.DFA.read_piece.Goals as goal

pub returns-in_err-from-clause-effect : goal.returns-in_err-from-clause-effect
returns-in_err-from-clause-effect c =
    let left = c.in_err-from.ensures.resumed in
    at_err c.from_residual.result _
    (λ r. IsPieceRun c.args.self.now c.args.piece.now c.args.pieces.now c.args.pieces.now (known_of c.args.cache.now)
    (known_of c.resume_pieces.new.cache) (result_err r))
    c.from_residual.ensures.1 (NotRestored left.state left.stood left.fails)

pub returns-in_default-checked_add-clause-effect : goal.returns-in_default-checked_add-clause-effect
returns-in_default-checked_add-clause-effect c =
    let on = rw c.in-Some.is at c.in_ok-from.ensures.resumed in
    TooLong on.state on.stood on.back
    (let e = c.bytes_read-base.ensures in let over = c.in_default-checked_add.ensures in omega (arith, e, over))
    (ap (λ e. search.Match e) (c.gave_up.ensures ∙ ap (λ at. GaveUp at) c.bytes_read-base.ensures))

pub returns-in_err-at-clause-effect : goal.returns-in_err-at-clause-effect
returns-in_err-at-clause-effect c =
    let on = rw c.in-Some.is at c.in_ok-from.ensures.resumed in
    at_err c.from_residual-in_err-at.result _
    (λ r. IsPieceRun c.args.self.now c.args.piece.now c.args.pieces.now c.args.pieces.now (known_of c.args.cache.now)
    (known_of c.run_piece.new.cache) (result_err r))
    c.from_residual-in_err-at.ensures.1
    (run_left on c.args.piece.now c.run_piece.new.cache c.is_earliest.ensures c.bytes_read-base.ensures
    (let a = c.in-Some-checked_add.ensures in omega (arith, a)) c.in_err-at.ensures.ran)

pub found_in-found-requires : goal.found_in-found-requires
found_in-found-requires c =
    let on = rw c.in-Some.is at c.in_ok-from.ensures.resumed in
    let over =
    run_upto on c.args.piece.now c.run_piece.new.cache c.is_earliest.ensures c.in_ok-at.field-0 c.in_ok-at.ensures.ran
    c.in-Over.is in
    found_fits c.args.pieces.now.earliest (λ k. piece_state c.args.self.now c.args.piece.now on.state k)
    (suc c.in-Over.at) c.args.piece.now c.bytes_read-base.result c.in-Over.found over.reported
    (let l = over.upto.reads.0 in omega (arith, l)) (let e = c.in-Some-checked_add.ensures in omega (arith, e))

pub found_in-found-requires-in-At : goal.found_in-found-requires-in-At
found_in-found-requires-in-At c =
    let on = rw c.in-Some.is at c.in_ok-from.ensures.resumed in
    let through =
    run_through on c.args.piece.now c.run_piece.new.cache c.is_earliest.ensures c.in_ok-at.field-0
    c.in_ok-at.ensures.ran c.in-At.is in
    found_fits c.args.pieces.now.earliest (λ k. piece_state c.args.self.now c.args.piece.now on.state k)
    (length c.args.piece.now - 0) c.args.piece.now c.bytes_read-base.result c.in-At.found through.at.reported
    (omega arith) (let e = c.in-Some-checked_add.ensures in omega (arith, e))

pub returns-in_err-handle-in-At-clause-effect : goal.returns-in_err-handle-in-At-clause-effect
returns-in_err-handle-in-At-clause-effect c =
    let on = rw c.in-Some.is at c.in_ok-from.ensures.resumed in
    let through =
    run_through on c.args.piece.now c.run_piece.new.cache c.is_earliest.ensures c.in_ok-at.field-0
    c.in_ok-at.ensures.ran c.in-At.is in
    at_err c.from_residual-in_err-handle-in-At.result search.OutOfMemory
    (λ r. IsPieceRun c.args.self.now c.args.piece.now c.args.pieces.now c.args.pieces.now (known_of c.args.cache.now)
    (known_of c.run_piece.new.cache) (result_err r))
    c.from_residual-in_err-handle-in-At.ensures.1 (NotHeld on.state _
    (begins_piece on c.args.piece.now c.bytes_read-base.result c.bytes_read-base.ensures
    (let a = c.in-Some-checked_add.ensures in omega (arith, a)))
    through.all refl)

pub returns-in-Over-clause-reads : goal.returns-in-Over-clause-reads
returns-in-Over-clause-reads c =
    let on = rw c.in-Some.is at c.in_ok-from.ensures.resumed in
    let over =
    run_upto on c.args.piece.now c.run_piece.new.cache c.is_earliest.ensures c.in_ok-at.field-0 c.in_ok-at.ensures.ran
    c.in-Over.is in
    reads_over c.args.self.now on.state c.args.piece.now c.args.pieces.now c.end.new.self on.stood
    c.end.ensures.earliest c.in-Over.found
    (c.end.ensures.found ∙ (c.found_in-found.ensures
    ∙ ap₂ (λ base before. found_in c.in-Over.found base before) c.bytes_read-base.ensures c.get_match.ensures))
    c.in-Over.at (begun 0 (known_of c.resume_pieces.new.cache)) (known_of c.run_piece.new.cache) c.end.ensures.state
    over.upto over.reported

pub returns-in-Over-clause-effect : goal.returns-in-Over-clause-effect
returns-in-Over-clause-effect c =
    let on = rw c.in-Some.is at c.in_ok-from.ensures.resumed in
    let over =
    run_upto on c.args.piece.now c.run_piece.new.cache c.is_earliest.ensures c.in_ok-at.field-0 c.in_ok-at.ensures.ran
    c.in-Over.is in
    Upto on.state _ c.in-Over.at
    (begins_piece on c.args.piece.now c.bytes_read-base.result c.bytes_read-base.ensures
    (let a = c.in-Some-checked_add.ensures in omega (arith, a)))
    over.upto c.end.ensures.state
    (let e = c.bytes_read-base.ensures in let r = c.end.ensures.read in omega (arith, e, r))

pub returns-in_ok-handle-in-At-clause-reads : goal.returns-in_ok-handle-in-At-clause-reads
returns-in_ok-handle-in-At-clause-reads c =
    let on = rw c.in-Some.is at c.in_ok-from.ensures.resumed in
    let through =
    run_through on c.args.piece.now c.run_piece.new.cache c.is_earliest.ensures c.in_ok-at.field-0
    c.in_ok-at.ensures.ran c.in-At.is in
    let all : length c.args.piece.now - 0 ≡ length c.args.piece.now = omega arith in
    reads_through c.args.self.now on.state c.args.piece.now c.args.pieces.now c.stand.new.self on.stood
    c.stand.ensures.earliest c.in-At.found
    (c.stand.ensures.found ∙ (c.found_in-found-in-At.ensures
    ∙ ap₂ (λ base before. found_in c.in-At.found base before) c.bytes_read-base.ensures c.get_match-in-At.ensures))
    c.run_piece.new.cache.store.table c.in-At.id c.in_ok-handle-in-At.handle.state c.stand.ensures.state
    ((c.in_ok-handle-in-At.ensures _ through.at.named).0
    ∙ ap (λ k. piece_state c.args.self.now c.args.piece.now on.state k) all)
    (let e = c.bytes_read-base.ensures in let r = c.stand.ensures.read in let a = c.in-Some-checked_add.ensures in
    omega (arith, e, r, a))
    through.at

pub returns-in_ok-handle-in-At-clause-effect : goal.returns-in_ok-handle-in-At-clause-effect
returns-in_ok-handle-in-At-clause-effect c =
    let on = rw c.in-Some.is at c.in_ok-from.ensures.resumed in
    let through =
    run_through on c.args.piece.now c.run_piece.new.cache c.is_earliest.ensures c.in_ok-at.field-0
    c.in_ok-at.ensures.ran c.in-At.is in
    Through on.state _
    (begins_piece on c.args.piece.now c.bytes_read-base.result c.bytes_read-base.ensures
    (let a = c.in-Some-checked_add.ensures in omega (arith, a)))
    through.all
    (let e = c.bytes_read-base.ensures in let r = c.stand.ensures.read in let a = c.in-Some-checked_add.ensures in
    omega (arith, e, r, a))
