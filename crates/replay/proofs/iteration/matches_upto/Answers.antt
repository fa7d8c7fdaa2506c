use Rattle.std.proofs.Common.{◌∙◌, ap, arith, subst}
use Rattle.automata_base.specs.Nfas.Nodes.{Automaton}
use Rattle.automata_base.specs.Answers.Spans.{Found, IsSpan, TryFinds, from}
use Rattle.automata_determinize.specs.Answers.OfPasses.{ReportedEndsAreRight, ReportedIsRight}
use Rattle.automata_hybrid.specs.Machines.Machine.{Machine}
use Rattle.regex_automata.specs.Spans.Outcomes.{FindsMatch}
use Rattle.regex_automata.specs.Regexes.SoundPairs.{IsSoundPair, forward_engine, reverse_engine}
use Rattle.regex_automata.proofs.Spans.Lists.{collected_begins, collected_right}
use Rattle.regex_automata.proofs.Spans.ByPaths.{match_right, outcome_right}
use Rattle.automata_determinize.proofs.Answers.Rising.{first_few, first_rise}
use Rattle.replay.proofs.Replies.Ends.{collected_first, find_lies}
use Rattle.replay.proofs.iteration.matches_upto.Goals as goal

pub returns-clause-of : goal.returns-clause-of
returns-clause-of c = (c.take_matches.ensures.forward, c.take_matches.ensures.reverse)

pub returns-clause-returned : goal.returns-clause-returned
returns-clause-returned c =
    let p = c.args.regex.now in
    let input = c.args.input in
    let s = c.take_matches.ensures in
    let ms = c.take_matches.result.0.items in
    let error = c.take_matches.result.1 in
    let within = c.take_matches.ensures.valid.within.1 in
    let front =
    subst (λ (a : Automaton). ReportedIsRight a) (c.get_nfa.ensures ∙ ap (λ (m : Machine). m.nfa) c.forward.ensures)
    c.reported_is_right.ensures.answer in
    let rear =
    subst (λ (a : Automaton). ReportedIsRight a) (c.get_nfa-2.ensures ∙ ap (λ (m : Machine). m.nfa) c.reverse.ensures)
    c.reported_is_right-2.ensures.answer in
    let ends =
    subst (λ (a : Automaton). ReportedEndsAreRight a)
    (c.get_nfa-2.ensures ∙ ap (λ (m : Machine). m.nfa) c.reverse.ensures) c.reported_is_right-2.ensures.ends in
    let right = λ (sound : IsSoundPair p). collected_right (FindsMatch p) (IsSpan (forward_engine p)) input
    (λ start o f. match_right p front ends c.start_is_right.ensures.starts sound (from start input)
    (c.take_matches.ensures.valid.bytes, within) o f)
    ms error s.found in
    let first = collected_first p input within ms error s.found in
    record {
      answers = λ cycles. collected_right (FindsMatch p) (TryFinds (forward_engine p) (reverse_engine p)) input
          (λ start o f. outcome_right p front rear (from start input) (Found o) cycles
          (c.take_matches.ensures.valid.bytes, within) f)
          ms error s.found;
      spans = right;
      beginning =
          λ sound whole spans. collected_begins (IsSpan (forward_engine p))
          (c.start_is_right.ensures.one.span (forward_engine p)) input ms whole error (right sound) spans;
      rise = first_rise (FindsMatch p) input (find_lies p) within ms first;
      few = let k = first_few (FindsMatch p) input (find_lies p) within ms first in omega (arith, k);
      unsupported = s.unsupported;
      free = s.free;
    }

pub returns-clause-found : goal.returns-clause-found
returns-clause-found c = c.take_matches.ensures.found
