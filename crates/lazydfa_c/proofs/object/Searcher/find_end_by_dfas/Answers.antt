use Rattle.std.proofs.Common.{rules, refl, Some, None, subst}
use Rattle.std.specs.Prelude.{Ok, Err}
use Rattle.automata_base.specs.declared.util.search.Direction.TheVariants.{Forward}
use Rattle.automata_hybrid.specs.Cache.Caches.{CacheView}
use Rattle.automata_hybrid.specs.Machines.Machine.{Machine}
use Rattle.automata_hybrid.specs.Known.Passes.{IsSearchRun}
use Rattle.automata_hybrid.specs.Known.Stores.{known_of}
use Rattle.patterns.specs.declared.pattern.Pattern.{Pattern}
use Rattle.lazydfa_c.specs.Calls.{FindsNoStart, SearchesNarrowed}
use Rattle.lazydfa_c.proofs.Narrowing.{narrowed, nowhere}
use Rattle.lazydfa_c.proofs.object.Searcher.find_end_by_dfas.Goals as goal

pub returns-in-Ok-Some-clause-found : goal.returns-in-Ok-Some-clause-found
returns-in-Ok-Some-clause-found c =
    SearchesNarrowed c.in-Some.narrowed
    (narrowed c.args.self.now.shared.pattern.value c.args.input.now c.in-Some.narrowed c.narrow.result c.in-Some.is
    c.narrow.ensures) (record {
      result = Ok (Some c.in-Ok-Some.half);
      told = search rules;
      returned = search rules;
      effect =
          subst (λ (v : Pattern). IsSearchRun Forward v.regex.forward c.in-Some.narrowed
          (known_of c.args.self.now.cache.forward)
          (known_of c.try_search_fwd.new.cache) None) c.deref.ensures
          (subst (λ (m : Machine). IsSearchRun Forward m c.in-Some.narrowed (known_of c.args.self.now.cache.forward)
          (known_of c.try_search_fwd.new.cache) None) c.forward-dfa.ensures
          (subst (λ (v : CacheView). IsSearchRun Forward c.forward-dfa.result.now c.in-Some.narrowed (known_of v)
          (known_of c.try_search_fwd.new.cache) None) c.forward_mut.ensures.value c.in-Ok-Some.ensures.effect));
      reverse = search rules;
      same = search rules;
      pieces = search rules;
    })

pub returns-in-Ok-None-clause-found : goal.returns-in-Ok-None-clause-found
returns-in-Ok-None-clause-found c =
    SearchesNarrowed c.in-Some.narrowed
    (narrowed c.args.self.now.shared.pattern.value c.args.input.now c.in-Some.narrowed c.narrow.result c.in-Some.is
    c.narrow.ensures) (record {
      result = Ok None;
      told = search rules;
      returned = search rules;
      effect =
          subst (λ (v : Pattern). IsSearchRun Forward v.regex.forward c.in-Some.narrowed
          (known_of c.args.self.now.cache.forward)
          (known_of c.try_search_fwd.new.cache) None) c.deref.ensures
          (subst (λ (m : Machine). IsSearchRun Forward m c.in-Some.narrowed (known_of c.args.self.now.cache.forward)
          (known_of c.try_search_fwd.new.cache) None) c.forward-dfa.ensures
          (subst (λ (v : CacheView). IsSearchRun Forward c.forward-dfa.result.now c.in-Some.narrowed (known_of v)
          (known_of c.try_search_fwd.new.cache) None) c.forward_mut.ensures.value c.in-Ok-None.ensures.effect));
      reverse = search rules;
      same = search rules;
      pieces = search rules;
    })

pub returns-in-Err-clause-found : goal.returns-in-Err-clause-found
returns-in-Err-clause-found c =
    SearchesNarrowed c.in-Some.narrowed
    (narrowed c.args.self.now.shared.pattern.value c.args.input.now c.in-Some.narrowed c.narrow.result c.in-Some.is
    c.narrow.ensures) (record {
      result = Err c.in-Err.error;
      told = search rules;
      returned = search rules;
      effect =
          subst (λ (v : Pattern). IsSearchRun Forward v.regex.forward c.in-Some.narrowed
          (known_of c.args.self.now.cache.forward)
          (known_of c.try_search_fwd.new.cache) (Some c.in-Err.error)) c.deref.ensures
          (subst (λ (m : Machine). IsSearchRun Forward m c.in-Some.narrowed (known_of c.args.self.now.cache.forward)
          (known_of c.try_search_fwd.new.cache) (Some c.in-Err.error)) c.forward-dfa.ensures
          (subst (λ (v : CacheView). IsSearchRun Forward c.forward-dfa.result.now c.in-Some.narrowed (known_of v)
          (known_of c.try_search_fwd.new.cache) (Some c.in-Err.error)) c.forward_mut.ensures.value
          c.in-Err.ensures.effect));
      reverse = search rules;
      same = search rules;
      pieces = search rules;
    })

pub returns-in_default-clause-found : goal.returns-in_default-clause-found
returns-in_default-clause-found c =
    FindsNoStart (nowhere c.args.self.now.shared.pattern.value c.args.input.now c.narrow.result c.in_default.not-Some
    c.narrow.ensures) refl c.from.ensures tt
