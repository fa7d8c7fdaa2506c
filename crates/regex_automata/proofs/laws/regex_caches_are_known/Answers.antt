use Rattle.std.proofs.Common.{subst, sym}
use Rattle.automata_hybrid.specs.Cache.Caches.{CacheView, IsCacheOf}
use Rattle.automata_hybrid.specs.Known.Bounds.{IsKnown}
use Rattle.automata_hybrid.specs.Known.Stores.{known_of}
use Rattle.automata_hybrid.specs.Machines.Machine.{Machine}
use Rattle.regex_automata.proofs.laws.regex_caches_are_known.Goals as goal

pub cache_is_known-requires : goal.cache_is_known-requires
cache_is_known-requires c =
    subst (λ (m : Machine). IsCacheOf c.as_parts.result.0.now m) (sym c.forward.ensures)
    (subst (λ (v : CacheView). IsCacheOf v c.args.regex.now.forward) (sym c.as_parts.ensures.forward) c.requires.0)

pub cache_is_known-requires-2 : goal.cache_is_known-requires-2
cache_is_known-requires-2 c =
    subst (λ (m : Machine). IsCacheOf c.as_parts.result.1.now m) (sym c.reverse.ensures)
    (subst (λ (v : CacheView). IsCacheOf v c.args.regex.now.reverse) (sym c.as_parts.ensures.reverse) c.requires.1)

pub returns : goal.returns
returns c = (
  subst (λ (m : Machine). IsKnown m (known_of c.args.cache.now.forward)) c.forward.ensures
      (subst (λ (v : CacheView). IsKnown c.forward.result.now (known_of v)) c.as_parts.ensures.forward
      c.cache_is_known.ensures.known),
  subst (λ (m : Machine). IsKnown m (known_of c.args.cache.now.reverse)) c.reverse.ensures
      (subst (λ (v : CacheView). IsKnown c.reverse.result.now (known_of v)) c.as_parts.ensures.reverse
      c.cache_is_known-2.ensures.known),
)
