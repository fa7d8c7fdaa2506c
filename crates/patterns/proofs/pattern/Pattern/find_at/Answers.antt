use Rattle.std.proofs.Common.{arith, refl, subst}
use Rattle.std.specs.Result.{result_err}
use Rattle.regex_automata.specs.Promises.{IsSpanOf, IsSpanRun}
use Rattle.patterns.proofs.Skips.{are_bytes, begun, begun_nowhere}
use Rattle.patterns.proofs.Skips.{found_from, found_nothing, searched_from, searched_nothing}
use Rattle.patterns.proofs.pattern.Pattern.find_at.Goals as goal

pub returns-in_default-clause-found : goal.returns-in_default-clause-found
returns-in_default-clause-found c =
    found_nothing c.args.self.now c.args.hay.now c.args.start
    (are_bytes c.args.hay.now (λ i. let fits = c.type_inv.hay i in omega (arith, fits)))
    (begun_nowhere c.args.self.now c.args.hay.now c.args.start c.rest-searched.result c.narrow.result
    c.rest-searched.ensures.input c.in_default.not-Some c.narrow.ensures.narrowed)

pub returns-in_default-clause-searched : goal.returns-in_default-clause-searched
returns-in_default-clause-searched c =
    searched_nothing c.args.self.now c.args.hay.now c.args.start
    (begun_nowhere c.args.self.now c.args.hay.now c.args.start c.rest-searched.result c.narrow.result
    c.rest-searched.ensures.input c.in_default.not-Some c.narrow.ensures.narrowed) (refl, refl)

pub returns-clause-found : goal.returns-clause-found
returns-clause-found c =
    let b =
    begun c.args.self.now c.args.hay.now c.args.start c.rest-searched.result c.in-Some.input c.narrow.result
    c.rest-searched.ensures.input c.in-Some.is c.narrow.ensures.narrowed in
    found_from c.args.self.now c.args.hay.now c.args.start b.0 c.in-Some.input c.find.result
    b.1 c.in-Some.ensures.valid.bytes
    b.2
    c.find.ensures.returned

pub returns-clause-searched : goal.returns-clause-searched
returns-clause-searched c =
    let b =
    begun c.args.self.now c.args.hay.now c.args.start c.rest-searched.result c.in-Some.input c.narrow.result
    c.rest-searched.ensures.input c.in-Some.is c.narrow.ensures.narrowed in
    searched_from c.args.self.now c.args.hay.now c.args.start b.0
    b.2 (
      subst (λ v. IsSpanOf c.args.self.now.regex v c.find.result) b.1 c.find.ensures.returned,
      subst (λ v. IsSpanRun c.args.self.now.regex v c.args.cache.now c.find.new.cache (result_err c.find.result))
          b.1 c.find.ensures.effect,
    )
