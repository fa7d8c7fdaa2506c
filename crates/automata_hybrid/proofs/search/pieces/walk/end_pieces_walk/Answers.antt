use Rattle.std.proofs.Common.{subst, sym}
use Rattle.automata_hybrid.proofs.Words.{known_of, Leads, match_kind_of, Powerset, result_err, Rows, successor}
use Rattle.automata_hybrid.specs.Known.Pieces.{AsForAnswer, CannotHoldEnd, IsWalkEndRun, EndNotRestored}
use Rattle.automata_hybrid.proofs.Pieces.Progress.{answer_ends, answer_left, named_there}
use Rattle.automata_hybrid.proofs.Pieces.Walks.{walk_ends, walk_ends_none}
use Rattle.automata_hybrid.proofs.Searches.Reads.{at_err}
use Rattle.automata_hybrid.proofs.Storage.Sound.{sound_searched, sound_still}
use Rattle.automata_hybrid.proofs.search.pieces.walk.end_pieces_walk.Goals as goal

pub returns-in_err-from-clause-effect : goal.returns-in_err-from-clause-effect
returns-in_err-from-clause-effect c =
    let left = c.in_err-from.ensures.resumed in
    at_err c.from_residual.result _
    (λ r. IsWalkEndRun c.args.dfa.now c.args.look_ahead c.args.pieces.now (known_of c.args.cache.now)
    (known_of c.resume_pieces.new.cache) (result_err r))
    c.from_residual.ensures.1 (AsForAnswer (EndNotRestored left.state left.stood left.fails))

pub returns-in_default-clause-ends : goal.returns-in_default-clause-ends
returns-in_default-clause-ends c =
    walk_ends_none c.args.dfa.now c.args.look_ahead c.args.pieces.now
    (rw c.in_default.is at c.in_ok-from.ensures.resumed).0

pub returns-in_err-next-clause-effect : goal.returns-in_err-next-clause-effect
returns-in_err-next-clause-effect c =
    let on = rw c.in-Some.is at c.in_ok-from.ensures.resumed in
    at_err c.from_residual-in_err-next.result _
    (λ r. IsWalkEndRun c.args.dfa.now c.args.look_ahead c.args.pieces.now (known_of c.args.cache.now)
    (known_of c.read.new.cache) (result_err r))
    c.from_residual-in_err-next.ensures.1
    (AsForAnswer
    (answer_left on c.bytes_read-at.ensures c.search_start.ensures.value c.in_err-next.ensures.read))

pub end_at-requires-clause-leads : goal.end_at-requires-clause-leads
end_at-requires-clause-leads c =
    let on = rw c.in-Some.is at c.in_ok-from.ensures.resumed in
    let s : Powerset = successor c.args.dfa.now.nfa (match_kind_of c.args.dfa.now.config) on.state
    c.args.look_ahead in (
      s,
      subst (λ (t : Rows). Leads t c.in_ok-next.next s) (sym c.end_search.ensures.table)
          (c.in_ok-next.ensures.read.answer.named on.state
          (named_there on c.bytes_read-at.ensures c.search_start.ensures.value)),
    )

pub returns-in-Ok-clause-ends : goal.returns-in-Ok-clause-ends
returns-in-Ok-clause-ends c =
    let on = rw c.in-Some.is at c.in_ok-from.ensures.resumed in
    walk_ends c.args.dfa.now c.args.look_ahead c.args.pieces.now on.state c.search_start.new.self c.read.new.cache
    c.in-Some.from c.in_ok-next.next c.in-Ok.end on.stood
    (named_there on c.bytes_read-at.ensures c.search_start.ensures.value) c.in_ok-next.ensures.read.answer
    (λ s l. c.in-Ok.ensures.patterns s
    (subst (λ (t : Rows). Leads t c.in_ok-next.next s) (sym c.end_search.ensures.table) l))

pub returns-in-Ok-clause-effect : goal.returns-in-Ok-clause-effect
returns-in-Ok-clause-effect c =
    let on = rw c.in-Some.is at c.in_ok-from.ensures.resumed in
    answer_ends on c.bytes_read-at.ensures c.search_start.ensures.value c.in_ok-next.ensures.read
    c.end_search.ensures.value

pub returns-in-Err-clause-effect : goal.returns-in-Err-clause-effect
returns-in-Err-clause-effect c =
    let on = rw c.in-Some.is at c.in_ok-from.ensures.resumed in
    CannotHoldEnd on.state on.stood
    (answer_ends on c.bytes_read-at.ensures c.search_start.ensures.value c.in_ok-next.ensures.read
    c.end_search.ensures.value)
    (c.in-Err.ensures.error.1 _
    (subst (λ (t : Rows). Leads t c.in_ok-next.next (successor c.args.dfa.now.nfa
    (match_kind_of c.args.dfa.now.config) on.state c.args.look_ahead)) (sym c.end_search.ensures.table)
    (c.in_ok-next.ensures.read.answer.named on.state
    (named_there on c.bytes_read-at.ensures c.search_start.ensures.value))))
    c.in-Err.ensures.error.0

pub read-requires-clause-sound : goal.read-requires-clause-sound
read-requires-clause-sound c =
    sound_still c.search_start.ensures.value (sound_searched _ c.in_ok-from.ensures.sound)

pub end_at-requires-clause-sound : goal.end_at-requires-clause-sound
end_at-requires-clause-sound c =
    sound_still c.end_search.ensures.value (sound_searched _ c.in_ok-next.ensures.sound)
