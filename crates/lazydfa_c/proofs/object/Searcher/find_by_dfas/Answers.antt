use Rattle.std.proofs.Common.{rules, refl, Some, None, subst}
use Rattle.std.specs.Prelude.{Ok, Err}
use Rattle.regex_automata.specs.Promises.{FindsMatch}
use Rattle.regex_automata.specs.Spans.Runs.{IsSpanRun}
use Rattle.patterns.specs.declared.pattern.Pattern.{Pattern}
use Rattle.lazydfa_c.specs.Calls.{FindsNoStart, SearchesNarrowed}
use Rattle.lazydfa_c.proofs.Narrowing.{narrowed, nowhere}
use Rattle.lazydfa_c.proofs.object.Searcher.find_by_dfas.Goals as goal

pub returns-in-Ok-Some-clause-found : goal.returns-in-Ok-Some-clause-found
returns-in-Ok-Some-clause-found c =
    SearchesNarrowed c.in-Some.narrowed
    (narrowed c.args.self.now.shared.pattern.value c.args.input.now c.in-Some.narrowed c.narrow.result c.in-Some.is
    c.narrow.ensures) (record {
      result = Ok (Some c.in-Ok-Some.it);
      told = search rules;
      returned = search rules;
      reported = search rules;
      effect =
          subst (λ (v : Pattern). IsSpanRun v.regex c.in-Some.narrowed c.args.self.now.cache c.find.new.cache None)
          c.deref.ensures
          c.in-Ok-Some.ensures.effect;
      same = search rules;
      pieces = search rules;
    })

pub returns-in-Ok-None-clause-found : goal.returns-in-Ok-None-clause-found
returns-in-Ok-None-clause-found c =
    SearchesNarrowed c.in-Some.narrowed
    (narrowed c.args.self.now.shared.pattern.value c.args.input.now c.in-Some.narrowed c.narrow.result c.in-Some.is
    c.narrow.ensures) (record {
      result = Ok None;
      told = search rules;
      returned = search rules;
      reported =
          subst (λ (v : Pattern). FindsMatch v.regex c.in-Some.narrowed None) c.deref.ensures
          (subst (FindsMatch c.deref.result.now.regex c.in-Some.narrowed) c.in-Ok-None.field-0-is
          c.in-Ok-None.ensures.found);
      effect =
          subst (λ (v : Pattern). IsSpanRun v.regex c.in-Some.narrowed c.args.self.now.cache c.find.new.cache None)
          c.deref.ensures
          c.in-Ok-None.ensures.effect;
      same = search rules;
      pieces = search rules;
    })

pub returns-in-Err-clause-found : goal.returns-in-Err-clause-found
returns-in-Err-clause-found c =
    SearchesNarrowed c.in-Some.narrowed
    (narrowed c.args.self.now.shared.pattern.value c.args.input.now c.in-Some.narrowed c.narrow.result c.in-Some.is
    c.narrow.ensures) (record {
      result = Err c.in-Err.error;
      told = search rules;
      returned = search rules;
      reported = tt;
      effect =
          subst (λ (v : Pattern). IsSpanRun v.regex c.in-Some.narrowed c.args.self.now.cache
          c.find.new.cache (Some c.in-Err.error))
          c.deref.ensures c.in-Err.ensures.effect;
      same = search rules;
      pieces = search rules;
    })

pub returns-in_default-clause-found : goal.returns-in_default-clause-found
returns-in_default-clause-found c =
    FindsNoStart (nowhere c.args.self.now.shared.pattern.value c.args.input.now c.narrow.result c.in_default.not-Some
    c.narrow.ensures) refl c.from.ensures tt
