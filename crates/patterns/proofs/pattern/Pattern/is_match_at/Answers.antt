use Rattle.std.proofs.Common.{arith, refl, subst}
use Rattle.std.specs.Result.{result_err}
use Rattle.regex_automata.specs.Promises.{IsTruthOf, IsTruthRun}
use Rattle.patterns.proofs.Skips.{are_bytes, begun, begun_nowhere}
use Rattle.patterns.proofs.Skips.{searched_from, searched_nothing, truth_is_from, truth_nothing}
use Rattle.patterns.proofs.pattern.Pattern.is_match_at.Goals as goal

pub returns-in_default-clause-found : goal.returns-in_default-clause-found
returns-in_default-clause-found c =
    truth_nothing c.args.self.now c.args.hay.now c.args.start
    (are_bytes c.args.hay.now (λ i. let fits = c.type_inv.hay i in omega (arith, fits)))
    (begun_nowhere c.args.self.now c.args.hay.now c.args.start c.rest-left.result c.narrow.result
    c.rest-left.ensures.input c.in_default.not-Some c.narrow.ensures.narrowed)

pub returns-in_default-clause-searched : goal.returns-in_default-clause-searched
returns-in_default-clause-searched c =
    searched_nothing c.args.self.now c.args.hay.now c.args.start
    (begun_nowhere c.args.self.now c.args.hay.now c.args.start c.rest-left.result c.narrow.result
    c.rest-left.ensures.input c.in_default.not-Some c.narrow.ensures.narrowed) (refl, refl)

pub returns-clause-found : goal.returns-clause-found
returns-clause-found c =
    let b =
    begun c.args.self.now c.args.hay.now c.args.start c.rest-left.result c.in-Some.input c.narrow.result
    c.rest-left.ensures.input c.in-Some.is c.narrow.ensures.narrowed in
    truth_is_from c.args.self.now c.args.hay.now c.args.start b.0 c.in-Some.input c.is_match.result
    b.1 c.in-Some.ensures.valid.bytes
    b.2
    c.is_match.ensures.returned

pub returns-clause-searched : goal.returns-clause-searched
returns-clause-searched c =
    let b =
    begun c.args.self.now c.args.hay.now c.args.start c.rest-left.result c.in-Some.input c.narrow.result
    c.rest-left.ensures.input c.in-Some.is c.narrow.ensures.narrowed in
    searched_from c.args.self.now c.args.hay.now c.args.start b.0
    b.2 (
      subst (λ v. IsTruthOf c.args.self.now.regex v c.is_match.result) b.1
          c.is_match.ensures.returned,
      subst (λ v. IsTruthRun c.args.self.now.regex v c.args.cache.now c.is_match.new.cache
          (result_err c.is_match.result)) b.1 c.is_match.ensures.effect,
    )
