use Rattle.std.proofs.Common.{rules, Some, None, subst}
use Rattle.std.specs.Prelude.{Ok, Err}
use Rattle.automata_base.specs.declared.util.search.Direction.TheVariants.{Backward}
use Rattle.automata_hybrid.specs.Cache.Caches.{CacheView}
use Rattle.automata_hybrid.specs.Machines.Machine.{Machine}
use Rattle.automata_hybrid.specs.Known.Passes.{IsSearchRun}
use Rattle.automata_hybrid.specs.Known.Stores.{known_of}
use Rattle.patterns.specs.declared.pattern.Pattern.{Pattern}
use Rattle.lazydfa_c.proofs.object.Searcher.find_start.Goals as goal

pub returns-in-Ok-Some-clause-found : goal.returns-in-Ok-Some-clause-found
returns-in-Ok-Some-clause-found c = record {
  result = Ok (Some c.in-Ok-Some.half);
  told = search rules;
  returned = search rules;
  effect =
      subst (λ (v : Pattern). IsSearchRun Backward v.regex.reverse c.args.input.now
      (known_of c.args.self.now.cache.reverse)
      (known_of c.try_search_rev.new.cache) None) c.deref.ensures
      (subst (λ (m : Machine). IsSearchRun Backward m c.args.input.now (known_of c.args.self.now.cache.reverse)
      (known_of c.try_search_rev.new.cache) None) c.reverse-dfa.ensures
      (subst (λ (v : CacheView). IsSearchRun Backward c.reverse-dfa.result.now c.args.input.now (known_of v)
      (known_of c.try_search_rev.new.cache) None) c.reverse_mut.ensures.value c.in-Ok-Some.ensures.effect));
  forward = search rules;
  same = search rules;
  pieces = search rules;
}

pub returns-in-Ok-None-clause-found : goal.returns-in-Ok-None-clause-found
returns-in-Ok-None-clause-found c = record {
  result = Ok None;
  told = search rules;
  returned = search rules;
  effect =
      subst (λ (v : Pattern). IsSearchRun Backward v.regex.reverse c.args.input.now
      (known_of c.args.self.now.cache.reverse)
      (known_of c.try_search_rev.new.cache) None) c.deref.ensures
      (subst (λ (m : Machine). IsSearchRun Backward m c.args.input.now (known_of c.args.self.now.cache.reverse)
      (known_of c.try_search_rev.new.cache) None) c.reverse-dfa.ensures
      (subst (λ (v : CacheView). IsSearchRun Backward c.reverse-dfa.result.now c.args.input.now (known_of v)
      (known_of c.try_search_rev.new.cache) None) c.reverse_mut.ensures.value c.in-Ok-None.ensures.effect));
  forward = search rules;
  same = search rules;
  pieces = search rules;
}

pub returns-in-Err-clause-found : goal.returns-in-Err-clause-found
returns-in-Err-clause-found c = record {
  result = Err c.in-Err.error;
  told = search rules;
  returned = search rules;
  effect =
      subst (λ (v : Pattern). IsSearchRun Backward v.regex.reverse c.args.input.now
      (known_of c.args.self.now.cache.reverse)
      (known_of c.try_search_rev.new.cache) (Some c.in-Err.error)) c.deref.ensures
      (subst (λ (m : Machine). IsSearchRun Backward m c.args.input.now (known_of c.args.self.now.cache.reverse)
      (known_of c.try_search_rev.new.cache) (Some c.in-Err.error)) c.reverse-dfa.ensures
      (subst (λ (v : CacheView). IsSearchRun Backward c.reverse-dfa.result.now c.args.input.now (known_of v)
      (known_of c.try_search_rev.new.cache) (Some c.in-Err.error)) c.reverse_mut.ensures.value
      c.in-Err.ensures.effect));
  forward = search rules;
  same = search rules;
  pieces = search rules;
}
