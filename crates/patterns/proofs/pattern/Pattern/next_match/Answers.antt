use Rattle.std.proofs.Common.{None, Some, arith, refl, subst}
use Rattle.std.specs.Prelude.{IfErr, Ok}
use Rattle.std.specs.Result.{result_err}
use Rattle.automata_base.specs.Haystacks.Input.{Input}
use Rattle.regex_automata.specs.Spans.Errors.{IsNextError}
use Rattle.regex_automata.specs.Spans.Runs.{IsNextRun}
use Rattle.patterns.specs.Searches.{FindsAtOnce, IsAttempt, SearchesOn}
use Rattle.patterns.proofs.Items.{refused}
use Rattle.patterns.proofs.Skips.{are_bytes, begun, begun_nowhere, next_at_once, next_is_from, next_nothing}
use Rattle.patterns.proofs.Skips.{next_searched, next_unsearched, past_at_once, past_is_from}
use Rattle.patterns.proofs.pattern.Pattern.next_match.Goals as goal

pub returns-in_default-clause-found : goal.returns-in_default-clause-found
returns-in_default-clause-found c =
    next_nothing c.args.self.now c.args.hay.now c.unwrap_or.result c.args.last
    (are_bytes c.args.hay.now (λ i. let fits = c.type_inv.hay i in omega (arith, fits))) c.unwrap_or.ensures
    (begun_nowhere c.args.self.now c.args.hay.now c.unwrap_or.result c.rest-remaining.result c.narrow.result
    c.rest-remaining.ensures.input c.in_default.not-Some c.narrow.ensures.narrowed)

pub returns-in_default-clause-searched : goal.returns-in_default-clause-searched
returns-in_default-clause-searched c =
    next_unsearched c.args.self.now c.args.hay.now c.unwrap_or.result c.args.last c.args.cache.now c.args.cache.now
    (Ok None) c.unwrap_or.ensures
    (begun_nowhere c.args.self.now c.args.hay.now c.unwrap_or.result c.rest-remaining.result c.narrow.result
    c.rest-remaining.ensures.input c.in_default.not-Some c.narrow.ensures.narrowed) (refl, refl)

pub returns-clause-found : goal.returns-clause-found
returns-clause-found c =
    let b =
    begun c.args.self.now c.args.hay.now c.unwrap_or.result c.rest-remaining.result c.in-Some.input c.narrow.result
    c.rest-remaining.ensures.input c.in-Some.is c.narrow.ensures.narrowed in
    next_is_from c.args.self.now c.matches_are_spans.ensures.spans c.args.hay.now c.unwrap_or.result b.0
    c.args.last c.in-Some.input c.next_match.result b.1
    c.in-Some.ensures.valid.bytes c.in-Some.ensures.valid.within.1 c.unwrap_or.ensures
    b.2
    c.next_match.ensures.next

pub returns-clause-past : goal.returns-clause-past
returns-clause-past c =
    let b =
    begun c.args.self.now c.args.hay.now c.unwrap_or.result c.rest-remaining.result c.in-Some.input c.narrow.result
    c.rest-remaining.ensures.input c.in-Some.is c.narrow.ensures.narrowed in
    past_is_from c.args.self.now c.args.hay.now c.unwrap_or.result b.0 c.args.last c.in-Some.input
    c.next_match.result b.1 c.unwrap_or.ensures
    b.2
    c.next_match.ensures.goes_on

pub returns-clause-searched : goal.returns-clause-searched
returns-clause-searched c =
    let b =
    begun c.args.self.now c.args.hay.now c.unwrap_or.result c.rest-remaining.result c.in-Some.input c.narrow.result
    c.rest-remaining.ensures.input c.in-Some.is c.narrow.ensures.narrowed in
    let between = c.find_at_once.new.cache in
    let new = c.next_match.new.cache in
    next_searched c.args.self.now c.args.hay.now c.unwrap_or.result b.0 c.args.last c.args.cache.now new
    c.next_match.result c.unwrap_or.ensures b.2
    (SearchesOn between
    (subst (λ v. IsAttempt c.args.self.now v c.args.cache.now between) b.1 c.find_at_once.ensures.attempt) (
      subst (λ (v : Input). IsNextRun c.args.self.now.regex v c.args.last between new (result_err c.next_match.result))
          b.1 c.next_match.ensures.effect,
      subst (λ (v : Input). IfErr c.next_match.result (IsNextError c.args.self.now.regex between new v c.args.last)) b.1
          (refused c.next_match.result (IsNextError c.args.self.now.regex between new c.in-Some.input c.args.last)
          (c.spans_follow.ensures.refusals.nexts c.in-Some.input c.args.last between new
          (result_err c.next_match.result)
          (c.in-Some.ensures.valid.bytes, c.in-Some.ensures.valid.within.1) c.next_match.ensures.effect)),
    ))

pub returns-in-Some-find_at_once-clause-found : goal.returns-in-Some-find_at_once-clause-found
returns-in-Some-find_at_once-clause-found c =
    let b =
    begun c.args.self.now c.args.hay.now c.unwrap_or.result c.rest-remaining.result c.in-Some.input c.narrow.result
    c.rest-remaining.ensures.input c.in-Some.is c.narrow.ensures.narrowed in
    next_at_once c.args.self.now c.args.hay.now c.unwrap_or.result b.0 c.args.last c.in-Some.input
    c.in-Some-find_at_once.found b.1 c.in-Some.ensures.valid.bytes c.unwrap_or.ensures b.2
    c.in-Some-find_at_once.ensures.span c.in-Some-find_at_once.ensures.within.1

pub returns-in-Some-find_at_once-clause-past : goal.returns-in-Some-find_at_once-clause-past
returns-in-Some-find_at_once-clause-past c =
    let b =
    begun c.args.self.now c.args.hay.now c.unwrap_or.result c.rest-remaining.result c.in-Some.input c.narrow.result
    c.rest-remaining.ensures.input c.in-Some.is c.narrow.ensures.narrowed in
    past_at_once c.args.self.now c.args.hay.now c.unwrap_or.result b.0 c.args.last c.in-Some.input
    c.in-Some-find_at_once.found b.1 c.unwrap_or.ensures b.2 c.in-Some-find_at_once.ensures.within

pub returns-in-Some-find_at_once-clause-searched : goal.returns-in-Some-find_at_once-clause-searched
returns-in-Some-find_at_once-clause-searched c =
    let b =
    begun c.args.self.now c.args.hay.now c.unwrap_or.result c.rest-remaining.result c.in-Some.input c.narrow.result
    c.rest-remaining.ensures.input c.in-Some.is c.narrow.ensures.narrowed in
    let new = c.find_at_once.new.cache in
    next_searched c.args.self.now c.args.hay.now c.unwrap_or.result b.0 c.args.last c.args.cache.now new
    (Ok (Some c.in-Some-find_at_once.found)) c.unwrap_or.ensures b.2
    (FindsAtOnce (subst (λ v. IsAttempt c.args.self.now v c.args.cache.now new) b.1 c.find_at_once.ensures.attempt)
    (c.in-Some-find_at_once.found, refl))
