use Rattle.std.specs.Result.{result_err}
use Rattle.automata_base.proofs.Paths.Orders.{some_none}
use Rattle.std.proofs.Common.{suc, ◌≡◌, ◌∙◌, ◌+◌, None, inl, inr, refl, sym, ap, subst, arith}
use Rattle.std.specs.Prelude.{Err, IfOk, IfSome}
use Rattle.automata_base.specs.Haystacks.Input.{Input}
use Rattle.automata_base.specs.Answers.Spans.{FindsHere, from}
use Rattle.automata_config.specs.declared.error.SearchError.{SearchError}
use Rattle.regex_automata.specs.Spans.Outcomes.{FindsMatch, MatchLiesIn}
use Rattle.regex_automata.specs.Spans.Runs.{IsSpanRun}
use Rattle.regex_automata.proofs.Spans.NextMatches.{ahead_of, goes_first, goes_later, next_later, on_err}
use Rattle.regex_automata.proofs.Spans.NextMatches.{some_of}
use Rattle.regex_automata.proofs.Spans.Cached.{stands_none, stands_some}
use Rattle.regex_automata.proofs.Results.{if_ok, is_err, ok_err, same_err}
use Rattle.regex_automata.proofs.hybrid.regex.Regex.next_match.Goals as goal

pub returns-in_err-found-clause-next : goal.returns-in_err-found-clause-next
returns-in_err-found-clause-next c = if_ok c.from_residual.result _ _ c.from_residual.ensures.1

pub returns-in_err-found-clause-goes_on : goal.returns-in_err-found-clause-goes_on
returns-in_err-found-clause-goes_on c = if_ok c.from_residual.result _ _ c.from_residual.ensures.1

pub returns-in_err-found-clause-ahead : goal.returns-in_err-found-clause-ahead
returns-in_err-found-clause-ahead c =
    on_err c.from_residual.result _
    (ahead_of c.try_search.result c.in_err-found.field-0.0 None c.args.input.now.start c.args.input.now.end
    c.try_search.ensures.returned.done c.in_err-found.was)

pub returns-in_err-found-clause-effect : goal.returns-in_err-found-clause-effect
returns-in_err-found-clause-effect c =
    let error = ap result_err (is_err c.from_residual.result _ c.from_residual.ensures.1) in
    record {
      run = inl (
        subst (IsSpanRun c.args.self.now c.args.input.now c.args.cache.now c.try_search.new.cache) (sym error)
            c.in_err-found.ensures.effect,
        λ ok. absurd (some_none (sym error ∙ ok)),
      );
    }

pub returns-in_default-clause-next : goal.returns-in_default-clause-next
returns-in_default-clause-next c =
    FindsHere (subst (FindsMatch c.args.self.now c.args.input.now) c.in_default.is c.in_ok-found.ensures.found) tt

pub returns-in_default-clause-effect : goal.returns-in_default-clause-effect
returns-in_default-clause-effect c =
    record {
      run = inl (
        c.in_ok-found.ensures.effect,
        λ ok. stands_none c.matches_agree.ensures c.args.self.now c.args.input.now c.args.last
            (subst (FindsMatch c.args.self.now c.args.input.now) c.in_default.is c.in_ok-found.ensures.found),
      );
    }

pub returns-then-not-is_empty_at-clause-next : goal.returns-then-not-is_empty_at-clause-next
returns-then-not-is_empty_at-clause-next c =
    FindsHere (subst (FindsMatch c.args.self.now c.args.input.now) c.in-Some.is c.in_ok-found.ensures.found)
    (c.if-not-is_empty_at.ensures.no refl)

pub returns-then-not-is_empty_at-clause-goes_on : goal.returns-then-not-is_empty_at-clause-goes_on
returns-then-not-is_empty_at-clause-goes_on c =
    goes_first c.args.self.now c.args.input.now c.args.last c.in-Some.found
    (some_of c.in_ok-found.field-0 c.in-Some.found (MatchLiesIn c.args.self.now c.args.input.now)
    c.in_ok-found.ensures.returned.within c.in-Some.is) (c.if-not-is_empty_at.ensures.no refl)

pub returns-then-not-is_empty_at-clause-effect : goal.returns-then-not-is_empty_at-clause-effect
returns-then-not-is_empty_at-clause-effect c =
    record {
      run = inl (
        c.in_ok-found.ensures.effect,
        λ ok. stands_some c.matches_agree.ensures c.args.self.now c.args.input.now c.args.last c.in-Some.found
            (subst (FindsMatch c.args.self.now c.args.input.now) c.in-Some.is c.in_ok-found.ensures.found)
            (c.if-not-is_empty_at.ensures.no refl),
      );
    }

pub overflow_add-start : goal.overflow_add-start
overflow_add-start c =
    let lies =
    some_of c.in_ok-found.field-0 c.in-Some.found (MatchLiesIn c.args.self.now c.args.input.now)
    c.in_ok-found.ensures.returned.within c.in-Some.is in
    let few = c.start.ensures.valid.within.1 in
    omega (arith, lies.0, lies.1, lies.2, few, c.start.ensures.valid.bound, c.start.ensures.start)

pub from-rest-requires : goal.from-rest-requires
from-rest-requires c =
    let lies =
    some_of c.in_ok-found.field-0 c.in-Some.found (MatchLiesIn c.args.self.now c.args.input.now)
    c.in_ok-found.ensures.returned.within c.in-Some.is in
    let few = c.start.ensures.valid.within.1 in
    (omega (arith, lies.0, lies.1, lies.2, c.start.ensures.start), few)

pub returns-clause-next : goal.returns-clause-next
returns-clause-next c =
    let found = subst (FindsMatch c.args.self.now c.args.input.now) c.in-Some.is c.in_ok-found.ensures.found in
    let place : c.start.result + 1 ≡ suc c.args.input.now.start = omega (arith, c.start.ensures.start) in
    let rest : c.from-rest.result ≡ from (suc c.args.input.now.start) c.args.input.now =
    c.from-rest.ensures ∙ ap (λ n. from n c.args.input.now) place in
    next_later c.args.self.now c.args.input.now c.args.last c.in-Some.found found
    (c.if-not-is_empty_at.ensures.yes refl) c.try_search-2.result
    (subst (λ (i : Input). IfOk c.try_search-2.result (FindsMatch c.args.self.now i)) rest c.try_search-2.ensures.found)

pub returns-clause-goes_on : goal.returns-clause-goes_on
returns-clause-goes_on c =
    let place : c.start.result + 1 ≡ suc c.args.input.now.start = omega (arith, c.start.ensures.start) in
    let rest : c.from-rest.result ≡ from (suc c.args.input.now.start) c.args.input.now =
    c.from-rest.ensures ∙ ap (λ n. from n c.args.input.now) place in
    goes_later c.args.self.now c.args.input.now c.args.last c.try_search-2.result
    (subst (λ (i : Input). IfOk c.try_search-2.result (λ o. IfSome o (MatchLiesIn c.args.self.now i))) rest
    c.try_search-2.ensures.returned.within)

pub returns-clause-ahead : goal.returns-clause-ahead
returns-clause-ahead c =
    let lies =
    some_of c.in_ok-found.field-0 c.in-Some.found (MatchLiesIn c.args.self.now c.args.input.now)
    c.in_ok-found.ensures.returned.within c.in-Some.is in
    on_err c.try_search-2.result _ (omega (arith, lies.0, lies.1, lies.2))

pub returns-clause-effect : goal.returns-clause-effect
returns-clause-effect c =
    let place : c.start.result + 1 ≡ suc c.args.input.now.start = omega (arith, c.start.ensures.start) in
    let rest : c.from-rest.result ≡ from (suc c.args.input.now.start) c.args.input.now =
    c.from-rest.ensures ∙ ap (λ n. from n c.args.input.now) place in
    let found = subst (FindsMatch c.args.self.now c.args.input.now) c.in-Some.is c.in_ok-found.ensures.found in
    record {
      run = inr (
        (c.in-Some.found, found, c.if-not-is_empty_at.ensures.yes refl),
        (
          c.try_search.new.cache,
          c.in_ok-found.ensures.effect,
          subst (λ (i : Input). IsSpanRun c.args.self.now i c.try_search.new.cache c.try_search-2.new.cache
              (result_err c.try_search-2.result)) rest c.try_search-2.ensures.effect,
        ),
      );
    }

pub returns-in_err-found-clause-unsupported : goal.returns-in_err-found-clause-unsupported
returns-in_err-found-clause-unsupported c =
    λ u. is_err c.from_residual.result _ c.from_residual.ensures.1
    ∙ ap (λ (e : SearchError). Err e) (same_err (c.in_err-found.ensures.returned.unsupported u))

pub returns-in_default-clause-unsupported : goal.returns-in_default-clause-unsupported
returns-in_default-clause-unsupported c = λ u. absurd (ok_err (c.in_ok-found.ensures.returned.unsupported u))

pub returns-then-not-is_empty_at-clause-unsupported : goal.returns-then-not-is_empty_at-clause-unsupported
returns-then-not-is_empty_at-clause-unsupported c = λ u. absurd (ok_err (c.in_ok-found.ensures.returned.unsupported u))

pub returns-clause-unsupported : goal.returns-clause-unsupported
returns-clause-unsupported c = λ u. absurd (ok_err (c.in_ok-found.ensures.returned.unsupported u))
