use Rattle.std.proofs.Common.{rules, refl, true, false, Some, None, subst}
use Rattle.std.specs.Prelude.{Ok, Err}
use Rattle.regex_automata.specs.Spans.Runs.{IsTruthRun}
use Rattle.patterns.specs.declared.pattern.Pattern.{Pattern}
use Rattle.lazydfa_c.specs.Calls.{FindsNoStart, SearchesNarrowed}
use Rattle.lazydfa_c.proofs.Narrowing.{narrowed, nowhere}
use Rattle.lazydfa_c.proofs.object.Searcher.test_by_dfas.Goals as goal

pub returns-in-Ok-true : goal.returns-in-Ok-true
returns-in-Ok-true c =
    SearchesNarrowed c.in-Some.narrowed
    (narrowed c.args.self.now.shared.pattern.value c.args.input.now c.in-Some.narrowed c.narrow.result c.in-Some.is
    c.narrow.ensures) (record {
      result = Ok true;
      told = search rules;
      returned = search rules;
      reported = search rules;
      effect =
          subst (λ (v : Pattern). IsTruthRun v.regex c.in-Some.narrowed c.args.self.now.cache c.is_match.new.cache None)
          c.deref.ensures c.in-Ok-true.ensures.effect;
      same = search rules;
      pieces = search rules;
    })

pub returns-in-Ok-false : goal.returns-in-Ok-false
returns-in-Ok-false c =
    SearchesNarrowed c.in-Some.narrowed
    (narrowed c.args.self.now.shared.pattern.value c.args.input.now c.in-Some.narrowed c.narrow.result c.in-Some.is
    c.narrow.ensures) (record {
      result = Ok false;
      told = search rules;
      returned = search rules;
      reported = search rules;
      effect =
          subst (λ (v : Pattern). IsTruthRun v.regex c.in-Some.narrowed c.args.self.now.cache c.is_match.new.cache None)
          c.deref.ensures c.in-Ok-false.ensures.effect;
      same = search rules;
      pieces = search rules;
    })

pub returns-in-Err : goal.returns-in-Err
returns-in-Err c =
    SearchesNarrowed c.in-Some.narrowed
    (narrowed c.args.self.now.shared.pattern.value c.args.input.now c.in-Some.narrowed c.narrow.result c.in-Some.is
    c.narrow.ensures) (record {
      result = Err c.in-Err.error;
      told = search rules;
      returned = search rules;
      reported = tt;
      effect =
          subst (λ (v : Pattern). IsTruthRun v.regex c.in-Some.narrowed c.args.self.now.cache c.is_match.new.cache
          (Some c.in-Err.error)) c.deref.ensures c.in-Err.ensures.effect;
      same = search rules;
      pieces = search rules;
    })

pub returns-in_default : goal.returns-in_default
returns-in_default c =
    FindsNoStart (nowhere c.args.self.now.shared.pattern.value c.args.input.now c.narrow.result c.in_default.not-Some
    c.narrow.ensures) refl c.from.ensures tt
