use Rattle.std.proofs.Common.{◌≡◌, ◌∙◌, ◌+◌, ◌-◌, ◌<◌, ◌≤◌, refl, sym, subst, arith}
use Rattle.std.proofs.lemmas.Grind.{common_steps}
use Rattle.automata_hybrid.proofs.Words.{Direction, Err, Forward, HaveTried, Input, IsFound, known_of, Ok, Skips}
use Rattle.automata_hybrid.proofs.Words.{with_base}
use Rattle.std.specs.Prelude.{Some}
use Rattle.automata_hybrid.specs.Private.Searches.Contracts.{IsSearchResult}
use Rattle.automata_hybrid.specs.Private.Searches.PassContracts.{input_at}
use Rattle.automata_hybrid.proofs.Searches.Directions.{later_none}
use Rattle.automata_hybrid.proofs.Searches.PassContracts.{same_input}
use Rattle.automata_hybrid.proofs.Searches.Progress.{tries_first}
use Rattle.automata_hybrid.proofs.Searches.Skips.{finds_no_more, finds_none, finds_some, none_stops}
use Rattle.automata_hybrid.proofs.Searches.Skips.{some_stops}
use Rattle.automata_hybrid.proofs.Searches.SpanRuns.{run_after, run_before, run_refused, spans_run}
use Rattle.automata_hybrid.proofs.search.half.search.Goals as goal
use Rattle.automata_hybrid.proofs.search.half.search.Goals.{After-get_earliest, After-pass}

-- rebuilding the input from its parts gives the input
same :
    (c : After-get_earliest)
    → input_at c.haystack.result.now c.get_span.result c.get_anchored.result c.get_earliest.result ≡ c.args.input.now
same c =
    same_input c.args.input.now c.haystack.result.now c.get_span.result c.get_anchored.result c.get_earliest.result
    c.haystack.ensures.same c.get_span.ensures.start c.get_span.ensures.end c.get_anchored.ensures
    c.get_earliest.ensures

-- the span is not done
within : (c : After-pass) → c.args.input.now.start + 0 ≤ c.args.input.now.end
within c =
    let ahead : c.args.input.now.start ≤ c.args.input.now.end = grind (arith, common_steps, c.if-is_done.ensures) in
    omega (arith, ahead)

pub returns-in-Ok-clause-searched : goal.returns-in-Ok-clause-searched
returns-in-Ok-clause-searched c =
    subst
    (λ (i : Input). IsSearchResult c.args.way c.args.dfa.now i (known_of c.args.cache.now)
    (known_of c.search_skipping.new.cache) (Ok c.in-Ok.found))
    (same (goal.at.returns-in-Ok-clause-searched c).After-get_earliest) c.in-Ok.ensures.searched

pub returns-in-Err-clause-searched : goal.returns-in-Err-clause-searched
returns-in-Err-clause-searched c =
    subst
    (λ (i : Input). IsSearchResult c.args.way c.args.dfa.now i (known_of c.args.cache.now)
    (known_of c.search_skipping.new.cache) (Err c.in-Err.error))
    (same (goal.at.returns-in-Err-clause-searched c).After-get_earliest) c.in-Err.ensures.searched

pub returns-then-is_done-clause-searched : goal.returns-then-is_done-clause-searched
returns-then-is_done-clause-searched c =
    let d : Direction = c.args.way in
    let m = c.args.dfa.now in
    let past : c.args.input.now.end < c.args.input.now.start + 0 = grind (arith, common_steps, c.if-is_done.ensures) in
    record {
      found = finds_no_more d m c.args.input.now 0 (tries_first d m c.args.input.now) past;
      effect =
          run_before d m c.args.input.now 0 (tries_first d m c.args.input.now) (known_of c.args.cache.now)
          (known_of c.args.cache.now) refl past;
      upto = λ forward. tt;
    }

pub returns-in-Ok-Some-clause-searched : goal.returns-in-Ok-Some-clause-searched
returns-in-Ok-Some-clause-searched c =
    let d : Direction = c.args.way in
    let m = c.args.dfa.now in
    let i : Input = c.args.input.now in
    let old = known_of c.args.cache.now in
    let inside = within (goal.at.returns-in-Ok-Some-clause-searched c).After-pass in
    let passed = c.in-Ok-Some.ensures.passed in
    let found = sym c.in-Ok-Some.field-0-is ∙ passed.answer.found in
    let keeps = λ (skips : Skips m). absurd (c.if-skips.ensures.no refl skips) in
    record {
      found =
          subst (λ n. IsFound d m i (Some (with_base c.in-Ok-Some.half n))) (sym c.start.ensures.start)
          (finds_some d m i i 0 (later_none d i) (tries_first d m i) inside c.in-Ok-Some.half found
          passed.answer.clean keeps);
      effect =
          run_after d m i 0 (tries_first d m i) old old refl i (later_none d i) inside (known_of c.pass.new.cache)
          passed.ends (λ j less tried past.
          some_stops d m i i 0 (later_none d i) (tries_first d m i) inside c.in-Ok-Some.half found keeps j less tried);
      upto = λ forward. (
          let base : 1 ≡ c.start.result - i.start + 1 = omega (arith, c.start.ensures.start) in
          subst (λ n. HaveTried Forward m i n old (known_of c.pass.new.cache)) base
          (subst (λ (e : Direction). HaveTried e m i 1 old (known_of c.pass.new.cache)) forward
          (spans_run d m i 0 (tries_first d m i) old old refl i (later_none d i) inside (known_of c.pass.new.cache)
          passed.ends)));
    }

pub returns-in-Ok-None-clause-searched : goal.returns-in-Ok-None-clause-searched
returns-in-Ok-None-clause-searched c =
    let d : Direction = c.args.way in
    let m = c.args.dfa.now in
    let i : Input = c.args.input.now in
    let old = known_of c.args.cache.now in
    let inside = within (goal.at.returns-in-Ok-None-clause-searched c).After-pass in
    let passed = c.in-Ok-None.ensures.passed in
    let found = sym c.in-Ok-None.field-0-is ∙ passed.answer.found in
    record {
      found = finds_none d m i i 0 (later_none d i) (tries_first d m i) inside found passed.answer.clean;
      effect =
          run_after d m i 0 (tries_first d m i) old old refl i (later_none d i) inside (known_of c.pass.new.cache)
          passed.ends (λ j less tried past.
          none_stops d m i i 0 (later_none d i) (tries_first d m i) inside found j less tried);
      upto = λ forward. tt;
    }

pub returns-in-Err-pass-clause-searched : goal.returns-in-Err-pass-clause-searched
returns-in-Err-pass-clause-searched c =
    let i : Input = c.args.input.now in
    let old = known_of c.args.cache.now in
    run_refused c.args.way c.args.dfa.now i 0 (tries_first c.args.way c.args.dfa.now i) old old refl i
    (later_none c.args.way i) (within (goal.at.returns-in-Err-pass-clause-searched c).After-pass)
    (known_of c.pass.new.cache) c.in-Err-pass.error c.in-Err-pass.ensures.passed
