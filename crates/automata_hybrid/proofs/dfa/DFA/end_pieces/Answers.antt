use Rattle.std.proofs.Common.{◌∙◌, ap₂, subst, sym}
use Rattle.automata_hybrid.proofs.Words.{Automaton, half_at, known_of, Leads, ReportedEndsAreRight, ReportedIsRight}
use Rattle.automata_hybrid.proofs.Words.{ReportedLiesWithin, result_err, Rows}
use Rattle.automata_hybrid.specs.Known.Pieces.{IsAnswerRun, EndNotRestored}
use Rattle.automata_hybrid.specs.Pieces.Answers.{EndsHere}
use Rattle.automata_hybrid.proofs.Pieces.Answers.{ends_none, ends_some}
use Rattle.automata_hybrid.proofs.Pieces.Progress.{answer_ends, answer_left, named_there}
use Rattle.automata_hybrid.proofs.Searches.Reads.{at_err}
use Rattle.automata_hybrid.proofs.Storage.Sound.{sound_searched, sound_still}
use Rattle.automata_hybrid.proofs.dfa.DFA.end_pieces.Goals as goal

pub returns-in_err-from-clause-effect : goal.returns-in_err-from-clause-effect
returns-in_err-from-clause-effect c =
    let left = c.in_err-from.ensures.resumed in
    at_err c.from_residual.result _
    (λ r. IsAnswerRun c.args.self.now c.args.look_ahead c.args.pieces.now (known_of c.args.cache.now)
    (known_of c.resume_pieces.new.cache) (result_err r))
    c.from_residual.ensures.1 (EndNotRestored left.state left.stood left.fails)

pub returns-in_default-clause-answer : goal.returns-in_default-clause-answer
returns-in_default-clause-answer c =
    let law = subst (λ (a : Automaton). ReportedIsRight a) c.get_nfa.ensures c.reported_is_right.ensures.answer in
    let ends = subst (λ (a : Automaton). ReportedEndsAreRight a) c.get_nfa.ensures c.reported_is_right.ensures.ends in
    let lies = subst ReportedLiesWithin c.get_nfa.ensures c.reported_is_right.ensures.within in
    subst (EndsHere c.args.self.now c.args.pieces.now c.args.look_ahead) (sym c.get_match.ensures)
    (ends_none c.args.self.now law ends lies c.args.look_ahead c.args.pieces.now
    (rw c.in_default.is at c.in_ok-from.ensures.resumed).0)

pub returns-in_err-next-clause-effect : goal.returns-in_err-next-clause-effect
returns-in_err-next-clause-effect c =
    let on = rw c.in-Some.is at c.in_ok-from.ensures.resumed in
    at_err c.from_residual-in_err-next.result _
    (λ r. IsAnswerRun c.args.self.now c.args.look_ahead c.args.pieces.now (known_of c.args.cache.now)
    (known_of c.read.new.cache) (result_err r))
    c.from_residual-in_err-next.ensures.1
    (answer_left on c.bytes_read-at.ensures c.search_start.ensures.value c.in_err-next.ensures.read)

pub returns-clause-answer : goal.returns-clause-answer
returns-clause-answer c =
    let law = subst (λ (a : Automaton). ReportedIsRight a) c.get_nfa.ensures c.reported_is_right.ensures.answer in
    let ends = subst (λ (a : Automaton). ReportedEndsAreRight a) c.get_nfa.ensures c.reported_is_right.ensures.ends in
    let lies = subst ReportedLiesWithin c.get_nfa.ensures c.reported_is_right.ensures.within in
    let on = rw c.in-Some.is at c.in_ok-from.ensures.resumed in
    ends_some c.args.self.now c.args.look_ahead c.args.pieces.now on.state c.search_start.new.self c.read.new.cache
    c.in-Some.from c.in_ok-next.next c.found_at.result on.stood
    (named_there on c.bytes_read-at.ensures c.search_start.ensures.value) c.in_ok-next.ensures.read.answer
    (λ s l.
    c.found_at.ensures s (subst (λ (t : Rows). Leads t c.in_ok-next.next s) (sym c.end_search.ensures.table) l)
    ∙ ap₂ (λ at found. half_at s.patterns at found) c.bytes_read-at.ensures c.get_match-2.ensures)
    law ends lies

pub returns-clause-effect : goal.returns-clause-effect
returns-clause-effect c =
    let on = rw c.in-Some.is at c.in_ok-from.ensures.resumed in
    answer_ends on c.bytes_read-at.ensures c.search_start.ensures.value c.in_ok-next.ensures.read
    c.end_search.ensures.value

pub read-requires-clause-sound : goal.read-requires-clause-sound
read-requires-clause-sound c =
    sound_still c.search_start.ensures.value (sound_searched _ c.in_ok-from.ensures.sound)

pub found_at-requires-clause-sound : goal.found_at-requires-clause-sound
found_at-requires-clause-sound c =
    sound_still c.end_search.ensures.value (sound_searched _ c.in_ok-next.ensures.sound)
