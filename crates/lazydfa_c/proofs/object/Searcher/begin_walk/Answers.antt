use Rattle.std.proofs.Common.{rules, ap, subst, sym, None, ◌∙◌}
use Rattle.std.specs.Prelude.{Ok}
use Rattle.automata_hybrid.specs.Cache.Caches.{CacheView}
use Rattle.automata_hybrid.specs.Machines.Machine.{Machine}
use Rattle.automata_hybrid.specs.Known.Pieces.{IsBeginRun}
use Rattle.automata_hybrid.specs.Known.Stores.{known_of}
use Rattle.automata_hybrid.specs.Pieces.State.{IsPiecesOf}
use Rattle.automata_hybrid.specs.Pieces.Walks.{HasBegunWalk}
use Rattle.patterns.specs.declared.pattern.Pattern.{Pattern}
use Rattle.lazydfa_c.proofs.Streams.{has_walk, walk_is}
use Rattle.lazydfa_c.proofs.object.Searcher.begin_walk.Goals as goal
use Rattle.lazydfa_c.specs.Walks.{HasWalk}

pub of-requires : goal.of-requires
of-requires c =
    let p = c.in-Ok.walk in
    subst (λ (v : Pattern). IsPiecesOf p v.regex.forward) (sym c.in-Ok-clone.ensures.cases)
    (subst (λ (v : Pattern). IsPiecesOf p v.regex.forward) c.deref.ensures
    (subst (λ (m : Machine). IsPiecesOf p m) c.forward-dfa.ensures c.in-Ok.ensures.walk))

pub returns-in-Ok-clone : goal.returns-in-Ok-clone
returns-in-Ok-clone c =
    let p = c.in-Ok.walk in let start = c.args.start.now in
    let mode = start.anchored in let behind = start.look_behind in
    let old = c.args.self.now.cache.forward in let new = c.begin_walk.new.cache in record {
      result = Ok p;
      told =
          HasWalk
          (has_walk c.args.self.now.pieces c.of.result _
          (walk_is c.of.result c.args.self.now.shared.pattern.value.regex.forward p None
          (c.of.ensures.machine ∙ ap (λ (v : Pattern). v.regex.forward) c.in-Ok-clone.ensures.cases) c.of.ensures.walk
          c.of.ensures.end))
          c.from.ensures;
      begun =
          subst (λ (v : Pattern). HasBegunWalk v.regex.forward mode behind p) c.deref.ensures
          (subst (λ (m : Machine). HasBegunWalk m mode behind p) c.forward-dfa.ensures c.in-Ok.ensures.begun);
      effect =
          subst (λ (v : Pattern). IsBeginRun v.regex.forward mode behind (known_of old) (known_of new) None)
          c.deref.ensures
          (subst (λ (m : Machine). IsBeginRun m mode behind (known_of old) (known_of new) None) c.forward-dfa.ensures
          (subst (λ (v : CacheView). IsBeginRun c.forward-dfa.result.now mode behind (known_of v) (known_of new) None)
          c.forward_mut.ensures.value c.in-Ok.ensures.effect));
      reverse = search rules;
      same = search rules;
    }
