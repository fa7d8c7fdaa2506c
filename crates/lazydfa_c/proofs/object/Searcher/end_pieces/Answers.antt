use Rattle.std.proofs.Common.{rules, Some, None, subst}
use Rattle.std.specs.Prelude.{Ok}
use Rattle.automata_hybrid.specs.Cache.Caches.{CacheView}
use Rattle.automata_hybrid.specs.Machines.Machine.{Machine}
use Rattle.automata_hybrid.specs.Pieces.Answers.{EndsHere}
use Rattle.automata_hybrid.specs.Known.Pieces.{IsAnswerRun}
use Rattle.automata_hybrid.specs.Known.Stores.{known_of}
use Rattle.lazydfa_c.proofs.Streams.{of_search}
use Rattle.lazydfa_c.proofs.object.Searcher.end_pieces.Goals as goal

pub returns-in-Ok-Some-clause-found : goal.returns-in-Ok-Some-clause-found
returns-in-Ok-Some-clause-found c =
    let stream = c.in-Some.stream in let p = stream.pieces in let ahead = c.args.ahead in
    let old = c.args.self.now.cache.forward in let new = c.end.new.cache in
    let same = c.args.self.now.part stream c.in-Some.is in
    of_search _ stream _ _ _ _ c.in-Some.is
    (record {
      result = Ok (Some c.in-Ok-Some.half);
      told = (c.of.ensures, c.from-in-Ok-Some.ensures);
      answer =
          subst (λ (m : Machine). EndsHere m p ahead (Some c.in-Ok-Some.half)) same
          (subst (EndsHere stream.machine p ahead) c.in-Ok-Some.field-0-is c.in-Ok-Some.ensures.answer);
      effect =
          subst (λ (m : Machine). IsAnswerRun m ahead p (known_of old) (known_of new) None) same
          (subst (λ (v : CacheView). IsAnswerRun stream.machine ahead p (known_of v) (known_of new) None)
          c.forward_mut.ensures.value
          c.in-Ok-Some.ensures.effect);
      reverse = search rules;
      same = search rules;
      pieces = search rules;
    })

pub returns-in-Ok-None-clause-found : goal.returns-in-Ok-None-clause-found
returns-in-Ok-None-clause-found c =
    let stream = c.in-Some.stream in let p = stream.pieces in let ahead = c.args.ahead in
    let old = c.args.self.now.cache.forward in let new = c.end.new.cache in
    let same = c.args.self.now.part stream c.in-Some.is in
    of_search _ stream _ _ _ _ c.in-Some.is
    (record {
      result = Ok None;
      told = c.from-in-Ok-None.ensures;
      answer =
          subst (λ (m : Machine). EndsHere m p ahead None) same
          (subst (EndsHere stream.machine p ahead) c.in-Ok-None.field-0-is c.in-Ok-None.ensures.answer);
      effect =
          subst (λ (m : Machine). IsAnswerRun m ahead p (known_of old) (known_of new) None) same
          (subst (λ (v : CacheView). IsAnswerRun stream.machine ahead p (known_of v) (known_of new) None)
          c.forward_mut.ensures.value
          c.in-Ok-None.ensures.effect);
      reverse = search rules;
      same = search rules;
      pieces = search rules;
    })
