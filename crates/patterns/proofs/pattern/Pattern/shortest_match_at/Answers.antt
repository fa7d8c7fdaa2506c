use Rattle.std.proofs.Common.{arith, refl, subst}
use Rattle.std.specs.Result.{result_err}
use Rattle.automata_base.specs.Haystacks.Input.{Input}
use Rattle.regex_automata.specs.Promises.{CacheView, Forward, IsHalf, IsSearchRun, Machine, known_of}
use Rattle.patterns.specs.Searches.{rest_from}
use Rattle.patterns.proofs.Skips.{are_bytes, begun, begun_nowhere}
use Rattle.patterns.proofs.Skips.{end_is_from, end_nothing, searched_from, searched_nothing}
use Rattle.patterns.proofs.pattern.Pattern.shortest_match_at.Goals as goal

pub returns-in_default-clause-found : goal.returns-in_default-clause-found
returns-in_default-clause-found c =
    end_nothing c.args.self.now c.args.hay.now c.args.start
    (are_bytes c.args.hay.now (λ i. let fits = c.type_inv.hay i in omega (arith, fits)))
    (begun_nowhere c.args.self.now c.args.hay.now c.args.start c.rest-left.result c.narrow.result
    c.rest-left.ensures.input c.in_default.not-Some c.narrow.ensures.narrowed)

pub returns-in_default-clause-searched : goal.returns-in_default-clause-searched
returns-in_default-clause-searched c =
    searched_nothing c.args.self.now c.args.hay.now c.args.start
    (begun_nowhere c.args.self.now c.args.hay.now c.args.start c.rest-left.result c.narrow.result
    c.rest-left.ensures.input c.in_default.not-Some c.narrow.ensures.narrowed) (refl, refl)

pub returns-clause-found : goal.returns-clause-found
returns-clause-found c =
    let b =
    begun c.args.self.now c.args.hay.now c.args.start c.rest-left.result c.in-Some.input c.narrow.result
    c.rest-left.ensures.input c.in-Some.is c.narrow.ensures.narrowed in
    end_is_from c.args.self.now c.args.hay.now c.args.start b.0 c.in-Some.input c.try_search_fwd.result
    b.1 c.in-Some.ensures.valid.bytes
    b.2
    (subst (λ (m : Machine). IsHalf Forward m c.in-Some.input c.try_search_fwd.result) c.forward.ensures
    c.try_search_fwd.ensures.half)

pub returns-clause-searched : goal.returns-clause-searched
returns-clause-searched c =
    let b =
    begun c.args.self.now c.args.hay.now c.args.start c.rest-left.result c.in-Some.input c.narrow.result
    c.rest-left.ensures.input c.in-Some.is c.narrow.ensures.narrowed in
    let new = known_of c.try_search_fwd.new.cache in
    let error = result_err c.try_search_fwd.result in
    searched_from c.args.self.now c.args.hay.now c.args.start b.0
    b.2 (
      subst (λ v. IsHalf Forward c.args.self.now.regex.forward v c.try_search_fwd.result) b.1
          (subst (λ (m : Machine). IsHalf Forward m c.in-Some.input c.try_search_fwd.result) c.forward.ensures
          c.try_search_fwd.ensures.half),
      subst (λ (m : Machine). IsSearchRun Forward m (rest_from c.args.hay.now b.0)
          (known_of c.args.cache.now.forward) new error) c.forward.ensures
          (subst (λ (i : Input). IsSearchRun Forward c.forward.result.now i (known_of c.args.cache.now.forward) new
          error) b.1
          (subst (λ (old : CacheView). IsSearchRun Forward c.forward.result.now c.in-Some.input (known_of old) new
          error) c.forward_mut.ensures.value c.try_search_fwd.ensures.effect)),
      refl,
    )
