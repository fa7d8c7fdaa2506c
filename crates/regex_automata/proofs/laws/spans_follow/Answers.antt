use Rattle.std.proofs.Common.{◌∙◌, ap, subst}
use Rattle.automata_determinize.specs.Answers.OfPasses.{ReportedEndsAreRight, ReportedIsRight}
use Rattle.automata_base.specs.Nfas.Nodes.{Automaton}
use Rattle.automata_hybrid.specs.Known.Cached.{KnownStays}
use Rattle.automata_hybrid.specs.Known.Follows.{SearchesFollow}
use Rattle.automata_hybrid.specs.Machines.Machine.{Machine}
use Rattle.regex_automata.proofs.Spans.Follows.{errors_follow, nexts_follow, spans_follow}
use Rattle.regex_automata.proofs.laws.spans_follow.Goals as goal

pub returns-clause-spans : goal.returns-clause-spans
returns-clause-spans c =
    spans_follow c.answers_agree.ensures c.args.regex.now
    (subst SearchesFollow c.forward.ensures c.searches_follow.ensures.searches)
    (subst SearchesFollow c.reverse.ensures c.searches_follow-2.ensures.searches)

pub returns-clause-refusals : goal.returns-clause-refusals
returns-clause-refusals c =
    let front = c.get_nfa.ensures ∙ ap (λ (m : Machine). m.nfa) c.forward-3.ensures in
    let rear = c.get_nfa-2.ensures ∙ ap (λ (m : Machine). m.nfa) c.reverse-3.ensures in
    errors_follow c.args.regex.now
    (subst (λ (a : Automaton). ReportedIsRight a) front c.reported_is_right.ensures.answer)
    (subst (λ (a : Automaton). ReportedIsRight a) rear c.reported_is_right-2.ensures.answer)
    (subst (λ (a : Automaton). ReportedEndsAreRight a) rear c.reported_is_right-2.ensures.ends)
    c.start_is_right.ensures.starts c.start_is_right.ensures.quits

pub returns-clause-nexts : goal.returns-clause-nexts
returns-clause-nexts c =
    nexts_follow c.answers_agree.ensures c.args.regex.now
    (subst SearchesFollow c.forward.ensures c.searches_follow.ensures.searches)
    (subst SearchesFollow c.reverse.ensures c.searches_follow-2.ensures.searches)
    (subst KnownStays c.forward-2.ensures c.known_stays.ensures)
    (subst KnownStays c.reverse-2.ensures c.known_stays-2.ensures)
