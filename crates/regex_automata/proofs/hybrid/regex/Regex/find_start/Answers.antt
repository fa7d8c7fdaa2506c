use Rattle.std.specs.Result.{result_err}
use Rattle.std.proofs.Common.{◌≡◌, ◌∙◌, Some, None, refl, sym, ap, subst, arith}
use Rattle.automata_base.specs.Answers.Spans.{StartIsBase, StartIsFound, back}
use Rattle.automata_base.specs.Haystacks.Input.{Input}
use Rattle.automata_base.specs.declared.util.search.Direction.TheVariants.{Backward}
use Rattle.automata_hybrid.specs.Known.Passes.{IsSearchRun}
use Rattle.automata_hybrid.specs.Known.Stores.{known_of}
use Rattle.automata_hybrid.specs.Searches.Passes.{IsFound, with_base}
use Rattle.automata_hybrid.specs.Searches.Bounds.{LiesIn}
use Rattle.regex_automata.specs.Spans.Runs.{Made, NotMade}
use Rattle.regex_automata.proofs.Spans.Costs.{back_none, back_some}
use Rattle.regex_automata.proofs.Spans.NextMatches.{some_of}
use Rattle.regex_automata.proofs.Results.{is_err}
use Rattle.regex_automata.proofs.hybrid.regex.Regex.find_start.Goals as goal

pub returns-then-short-clause-of : goal.returns-then-short-clause-of
returns-then-short-clause-of c = c.requires.of

pub returns-then-short-clause-found : goal.returns-then-short-clause-found
returns-then-short-clause-found c = StartIsBase (c.is_short-short.ensures.yes c.if-short.true) refl

pub returns-then-short-clause-within : goal.returns-then-short-clause-within
returns-then-short-clause-within c = (omega arith, c.requires.past.past)

pub returns-then-short-clause-effect : goal.returns-then-short-clause-effect
returns-then-short-clause-effect c = NotMade (c.is_short-short.ensures.yes c.if-short.true) refl refl

pub backward-rest-requires-clause-ordered : goal.backward-rest-requires-clause-ordered
backward-rest-requires-clause-ordered c = c.requires.past.past

pub backward-rest-requires-clause-within : goal.backward-rest-requires-clause-within
backward-rest-requires-clause-within c = c.requires.past.lies.upto

pub try_search_rev-requires : goal.try_search_rev-requires
try_search_rev-requires c = c.requires.of

pub returns-in_err-found-clause-of : goal.returns-in_err-found-clause-of
returns-in_err-found-clause-of c = c.try_search_rev.ensures.of

pub returns-in_err-found-clause-effect : goal.returns-in_err-found-clause-effect
returns-in_err-found-clause-effect c =
    let error = is_err c.from_residual.result _ c.from_residual.ensures.1 in
    Made (c.is_short-short.ensures.no c.if-short.false)
    (subst (IsSearchRun Backward c.args.self.now.reverse (back c.args.input.now (with_base c.args.half c.args.base))
    (known_of c.args.cache.now) (known_of c.try_search_rev.new.cache)) (sym (ap result_err error))
    (subst (λ (i : Input). IsSearchRun Backward c.args.self.now.reverse i (known_of c.args.cache.now)
    (known_of c.try_search_rev.new.cache) (Some c.in_err-found.field-0.0)) c.backward-rest.ensures
    c.in_err-found.ensures.effect))

pub returns-in-Some-clause-of : goal.returns-in-Some-clause-of
returns-in-Some-clause-of c = c.try_search_rev.ensures.of

pub returns-in-Some-clause-found : goal.returns-in-Some-clause-found
returns-in-Some-clause-found c =
    let s =
    back_some c.args.self.now.reverse c.backward-rest.result c.in_ok-found.field-0 c.in-Some.found
    c.in_ok-found.ensures.found c.in-Some.is in
    StartIsFound (c.is_short-short.ensures.no c.if-short.false) s.0
    (subst (λ (i : Input). IsFound Backward c.args.self.now.reverse i (Some s.0)) c.backward-rest.ensures s.1)
    (c.offset.ensures ∙ s.2)

pub returns-in-Some-clause-within : goal.returns-in-Some-clause-within
returns-in-Some-clause-within c =
    let lies =
    some_of c.in_ok-found.field-0 c.in-Some.found (LiesIn c.args.self.now.reverse c.backward-rest.result)
    c.in_ok-found.ensures.half.within c.in-Some.is in
    let start : c.backward-rest.result.start ≡ c.args.base = ap (λ (i : Input). i.start) c.backward-rest.ensures in
    let end : c.backward-rest.result.end ≡ c.args.half.offset = ap (λ (i : Input). i.end) c.backward-rest.ensures in
    (omega (arith, c.offset.ensures, lies.from, start), omega (arith, c.offset.ensures, lies.upto, end))

pub returns-in-Some-clause-effect : goal.returns-in-Some-clause-effect
returns-in-Some-clause-effect c =
    Made (c.is_short-short.ensures.no c.if-short.false)
    (subst (λ (i : Input). IsSearchRun Backward c.args.self.now.reverse i (known_of c.args.cache.now)
    (known_of c.try_search_rev.new.cache) None) c.backward-rest.ensures c.in_ok-found.ensures.effect)

pub returns-in-None-clause-of : goal.returns-in-None-clause-of
returns-in-None-clause-of c = c.try_search_rev.ensures.of

pub returns-in-None-clause-found : goal.returns-in-None-clause-found
returns-in-None-clause-found c = (
  c.is_short-short.ensures.no c.if-short.false,
  subst (λ (i : Input). IsFound Backward c.args.self.now.reverse i None) c.backward-rest.ensures
      (back_none c.args.self.now.reverse c.backward-rest.result c.in_ok-found.field-0 c.in_ok-found.ensures.found
      c.in-None.is),
)

pub returns-in-None-clause-effect : goal.returns-in-None-clause-effect
returns-in-None-clause-effect c =
    Made (c.is_short-short.ensures.no c.if-short.false)
    (subst (λ (i : Input). IsSearchRun Backward c.args.self.now.reverse i (known_of c.args.cache.now)
    (known_of c.try_search_rev.new.cache) None) c.backward-rest.ensures c.in_ok-found.ensures.effect)
