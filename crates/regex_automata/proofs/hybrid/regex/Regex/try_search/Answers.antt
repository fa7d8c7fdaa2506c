use Rattle.std.proofs.Common.{subst}
use Rattle.std.proofs.lemmas.Result.{IfOk-weaker}
use Rattle.std.specs.Result.{result_err}
use Rattle.automata_base.specs.Nfas.Nodes.{Automaton}
use Rattle.automata_base.specs.Answers.Spans.{Found}
use Rattle.automata_determinize.specs.Answers.OfPasses.{ReportedEndsAreRight, ReportedIsRight}
use Rattle.regex_automata.proofs.Spans.Returned.{span_returned}
use Rattle.regex_automata.proofs.Spans.ByPaths.{match_right, outcome_right, refusals}
use Rattle.regex_automata.proofs.Spans.Follows.{span_refused}
use Rattle.regex_automata.proofs.hybrid.regex.Regex.try_search.Goals as goal

pub returns-clause-of : goal.returns-clause-of
returns-clause-of c = c.search.ensures.of

pub returns-clause-returned : goal.returns-clause-returned
returns-clause-returned c =
    let s = c.search.ensures in
    let front = subst (λ (a : Automaton). ReportedIsRight a) c.get_nfa.ensures c.reported_is_right.ensures.answer in
    let rear = subst (λ (a : Automaton). ReportedIsRight a) c.get_nfa-2.ensures c.reported_is_right-2.ensures.answer in
    let ends =
    subst (λ (a : Automaton). ReportedEndsAreRight a) c.get_nfa-2.ensures c.reported_is_right-2.ensures.ends in
    span_returned c.args.self.now c.args.input.now c.search.result c.args.cache.now c.search.new.cache
    s.reported
    (λ cycles. IfOk-weaker c.search.result _ _
    (λ o found. outcome_right c.args.self.now front rear c.args.input.now (Found o) cycles
    (s.valid.bytes, s.valid.within.1) found)
    s.reported.found)
    (λ sound. IfOk-weaker c.search.result _ _
    (match_right c.args.self.now front ends c.start_is_right.ensures.starts sound c.args.input.now
    (s.valid.bytes, s.valid.within.1))
    s.reported.found)
    (refusals c.args.self.now front rear ends c.start_is_right.ensures.starts c.start_is_right.ensures.quits
    c.args.cache.now c.search.new.cache c.args.input.now
    (s.valid.bytes, s.valid.within.1) (result_err c.search.result)
    (span_refused c.args.self.now c.args.input.now c.args.cache.now c.search.new.cache (result_err c.search.result)
    s.effect.run))

pub returns-clause-found : goal.returns-clause-found
returns-clause-found c = c.search.ensures.reported.found
