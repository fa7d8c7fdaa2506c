use Rattle.std.proofs.Common.{rules, Some, None, ap, refl, subst, ◌∙◌}
use Rattle.std.specs.Prelude.{Ok, Err, IsSomeAnd}
use Rattle.automata_hybrid.specs.Cache.Caches.{CacheView}
use Rattle.automata_hybrid.specs.Machines.Machine.{Machine}
use Rattle.automata_hybrid.specs.Pieces.Walks.{EndsWith}
use Rattle.automata_hybrid.specs.Known.Pieces.{IsWalkEndRun}
use Rattle.automata_hybrid.specs.Known.Stores.{known_of}
use Rattle.lazydfa_c.proofs.Streams.{has_walk, of_search, walk_is}
use Rattle.lazydfa_c.specs.Stops.{stop_status}
use Rattle.lazydfa_c.specs.Streams.{WalkView}
use Rattle.lazydfa_c.specs.Walks.{IsStopTold}
use Rattle.lazydfa_c.specs.declared.walk.Stop.{Stop}
use Rattle.lazydfa_c.proofs.object.Searcher.end_walk.Goals as goal

pub returns-in-Ok : goal.returns-in-Ok
returns-in-Ok c =
    let walk = c.in-Some.walk in let w = walk.walk in let ahead = c.args.ahead in let end = c.end.new.self.end in
    let old = c.args.self.now.cache.forward in let new = c.end.new.cache in
    let same = c.args.self.now.path walk c.in-Some.is in
    let is = walk_is c.end.new.self walk.machine w end c.end.ensures.machine c.end.ensures.walk refl in (
      of_search _ walk _ _ _ _ c.in-Some.is
          (record {
            end = end;
            has = has_walk c.args.self.now.pieces c.end.new.self _ is;
            result = Ok 0;
            told =
                subst (λ (v : WalkView). IsStopTold c.stop.result (Ok 0) v c.status.result) is
                (c.stop.ensures, c.status.ensures ∙ ap (λ (s : Stop). stop_status s.patterns) c.stop.ensures);
            ends = (refl, subst (λ (m : Machine). IsSomeAnd end (EndsWith m w ahead)) same c.in-Ok.ensures.ends);
            unchanged = tt;
            effect =
                subst (λ (m : Machine). IsWalkEndRun m ahead w (known_of old) (known_of new) None) same
                (subst (λ (v : CacheView). IsWalkEndRun walk.machine ahead w (known_of v) (known_of new) None)
                c.forward_mut.ensures.value
                c.in-Ok.ensures.effect);
            rest = search rules;
          }),
      search rules,
    )

pub returns-in-Err : goal.returns-in-Err
returns-in-Err c =
    let walk = c.in-Some.walk in let w = walk.walk in let ahead = c.args.ahead in let end = c.end.new.self.end in
    let old = c.args.self.now.cache.forward in let new = c.end.new.cache in let e = c.in-Err.error in
    let same = c.args.self.now.path walk c.in-Some.is in
    let is = walk_is c.end.new.self walk.machine w end c.end.ensures.machine c.end.ensures.walk refl in (
      of_search _ walk _ _ _ _ c.in-Some.is
          (record {
            end = end;
            has = has_walk c.args.self.now.pieces c.end.new.self _ is;
            result = Err e;
            told = (c.nowhere.ensures, c.from-in-Err.ensures);
            ends = tt;
            unchanged = c.in-Err.ensures.unchanged;
            effect =
                subst (λ (m : Machine). IsWalkEndRun m ahead w (known_of old) (known_of new) (Some e)) same
                (subst (λ (v : CacheView). IsWalkEndRun walk.machine ahead w (known_of v) (known_of new) (Some e))
                c.forward_mut.ensures.value
                c.in-Err.ensures.effect);
            rest = search rules;
          }),
      search rules,
    )
