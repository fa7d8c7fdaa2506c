use Rattle.std.proofs.Common.{◌∙◌, ap, subst}
use Rattle.automata_determinize.specs.Answers.OfPasses.{ReportedEndsAreRight, ReportedIsRight}
use Rattle.automata_base.specs.Nfas.Nodes.{Automaton}
use Rattle.automata_hybrid.specs.Machines.Machine.{Machine}
use Rattle.regex_automata.proofs.Spans.OfPaths.{loops_collect, spans_of_paths}
use Rattle.regex_automata.proofs.laws.matches_are_spans.Goals as goal

pub returns-clause-spans : goal.returns-clause-spans
returns-clause-spans c =
    let front = c.get_nfa.ensures ∙ ap (λ (m : Machine). m.nfa) c.forward.ensures in
    let rear = c.get_nfa-2.ensures ∙ ap (λ (m : Machine). m.nfa) c.reverse.ensures in
    spans_of_paths c.args.regex.now
    (subst (λ (a : Automaton). ReportedIsRight a) front c.reported_is_right.ensures.answer)
    (subst (λ (a : Automaton). ReportedEndsAreRight a) rear c.reported_is_right-2.ensures.ends)
    c.start_is_right.ensures.starts

pub returns-clause-loops : goal.returns-clause-loops
returns-clause-loops c = loops_collect
