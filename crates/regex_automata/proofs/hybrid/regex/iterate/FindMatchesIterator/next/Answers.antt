use Rattle.std.proofs.Common.{◌≤◌, Some, None, refl, subst}
use Rattle.std.specs.Prelude.{Ok, Err}
use Rattle.automata_base.specs.Haystacks.Input.{Input}
use Rattle.automata_base.specs.Answers.Spans.{from}
use Rattle.regex_automata.specs.Spans.Iteration.{GoesPast, IsNextMatch, input_over}
use Rattle.regex_automata.proofs.Spans.Items.{fewer_left, gives_error, gives_match, gives_none, item_run}
use Rattle.regex_automata.proofs.Spans.Items.{lies_in_haystack, some_left}
use Rattle.regex_automata.proofs.Spans.Items.{reports_error, reports_found}
use Rattle.regex_automata.proofs.Spans.NextMatches.{some_of}
use Rattle.regex_automata.proofs.hybrid.regex.iterate.FindMatchesIterator.next.Goals as goal

pub returns-in-Ok-Some-clause-steps : goal.returns-in-Ok-Some-clause-steps
returns-in-Ok-Some-clause-steps c =
    let s = c.args.self.now in
    let now = input_over s.haystack.now s.start s.end s.anchored s.earliest in
    let goes =
    subst (λ (i : Input). GoesPast s.regex.now i s.last c.in-Ok-Some.found) c.input-input.ensures
    (some_of c.in-Ok-Some.field-0 c.in-Ok-Some.found (GoesPast s.regex.now c.input-input.result s.last)
    c.in-Ok-Some.ensures.goes_on c.in-Ok-Some.field-0-is) in (
      gives_match s.regex.now now (from c.end-self.result now) s.last s.ended c.in-Ok-Some.found c.end-self.result
          c.end.result c.if-self.false
          (subst (λ (i : Input). IsNextMatch s.regex.now i s.last (Some c.in-Ok-Some.found)) c.input-input.ensures
          (subst (IsNextMatch s.regex.now c.input-input.result s.last) c.in-Ok-Some.field-0-is
          c.in-Ok-Some.ensures.next))
          goes.0 refl c.end-self.ensures.end c.end.ensures.end,
      refl,
      refl,
      item_run s.regex.now c.input-input.result now s.last s.ended s.cache.now c.next_match.new.cache
          (Some (Ok c.in-Ok-Some.found)) c.if-self.false c.input-input.ensures
          c.in-Ok-Some.ensures.effect,
      reports_found s.regex.now c.input-input.result now s.ended _ (Some (Ok c.in-Ok-Some.found)) c.input-input.ensures
          c.in-Ok-Some.ensures.unsupported,
      refl,
      lies_in_haystack s.regex.now now c.in-Ok-Some.found goes.0 s.within.1,
    )

pub returns-in-Ok-Some-clause-goes : goal.returns-in-Ok-Some-clause-goes
returns-in-Ok-Some-clause-goes c =
    let s = c.args.self.now in
    let now = input_over s.haystack.now s.start s.end s.anchored s.earliest in
    let goes =
    subst (λ (i : Input). GoesPast s.regex.now i s.last c.in-Ok-Some.found) c.input-input.ensures
    (some_of c.in-Ok-Some.field-0 c.in-Ok-Some.found (GoesPast s.regex.now c.input-input.result s.last)
    c.in-Ok-Some.ensures.goes_on c.in-Ok-Some.field-0-is) in
    record {
      on =
          λ _. (
            tt,
            tt,
            fewer_left s.regex.now now (from c.end-self.result now) s.last s.ended c.in-Ok-Some.found
                c.end-self.result c.end.result c.if-self.false refl c.end-self.ensures.end c.end.ensures.end goes,
          );
      keeps = tt;
      rests = λ _. tt;
    }

pub returns-in-Err-clause-steps : goal.returns-in-Err-clause-steps
returns-in-Err-clause-steps c =
    let s = c.args.self.now in
    let now = input_over s.haystack.now s.start s.end s.anchored s.earliest in (
      gives_error s.regex.now now s.last s.ended c.in-Err.error c.if-self.false,
      refl,
      refl,
      item_run s.regex.now c.input-input.result now s.last s.ended s.cache.now c.next_match.new.cache
          (Some (Err c.in-Err.error)) c.if-self.false c.input-input.ensures
          c.in-Err.ensures.effect,
      reports_error s.regex.now c.input-input.result now s.ended c.in-Err.error c.input-input.ensures
          c.in-Err.ensures.unsupported,
      refl,
      tt,
    )

pub returns-in-Err-clause-goes : goal.returns-in-Err-clause-goes
returns-in-Err-clause-goes c =
    let s = c.args.self.now in
    let now = input_over s.haystack.now s.start s.end s.anchored s.earliest in
    let ahead : s.start ≤ s.end = subst (λ (i : Input). i.start ≤ i.end) c.input-input.ensures c.in-Err.ensures.ahead in
    record { on = λ _. (tt, tt, some_left now s.last s.ended c.if-self.false ahead); keeps = tt; rests = λ _. tt }

pub returns-in-Ok-None-clause-steps : goal.returns-in-Ok-None-clause-steps
returns-in-Ok-None-clause-steps c =
    let s = c.args.self.now in
    let now = input_over s.haystack.now s.start s.end s.anchored s.earliest in (
      gives_none s.regex.now now s.last s.ended c.if-self.false
          (subst (λ (i : Input). IsNextMatch s.regex.now i s.last None) c.input-input.ensures
          (subst (IsNextMatch s.regex.now c.input-input.result s.last) c.in-Ok-None.field-0-is
          c.in-Ok-None.ensures.next)),
      refl,
      refl,
      item_run s.regex.now c.input-input.result now s.last s.ended s.cache.now c.next_match.new.cache None
          c.if-self.false c.input-input.ensures
          c.in-Ok-None.ensures.effect,
      reports_found s.regex.now c.input-input.result now s.ended _ None c.input-input.ensures
          c.in-Ok-None.ensures.unsupported,
      refl,
      tt,
    )
