use Rattle.std.proofs.Common.{◌≡◌, ◌<◌, true}
use Rattle.automata_hybrid.proofs.Words.{Forward, known_of}
use Rattle.automata_hybrid.specs.Searches.Contracts.{IsUnsupported}
use Rattle.automata_hybrid.specs.Known.Walks.{HaveCalled, has_its_row}
use Rattle.automata_hybrid.specs.Walks.State.{Ended, Fresh, Ids}
use Rattle.automata_hybrid.specs.Private.Walks.State.{IsHeldAt, keeping_of}
use Rattle.automata_hybrid.proofs.Walks.Sets.{Joins, steps_left}
use Rattle.automata_hybrid.specs.Private.Cache.Sound.{IsSoundCacheOf}
use Rattle.automata_hybrid.proofs.search.walk.which.collect.Given as goal

abbrev pub invariant-walk : goal.invariant-walk
invariant-walk l = record {
  sound : IsSoundCacheOf l.cache l.dfa;
  there : has_its_row (known_of l.cache) l.walk.stage ≡ true;
  begins : IsUnsupported Forward l.dfa l.input → (l.walk.stage ≡ Fresh) × (l.patset ≡ l.fn.patset);
  done : l.input.end < l.input.start → l.patset ≡ l.fn.patset;
  on : l.walk.stage ≡ Ended → ⊥;
  holds : IsHeldAt l.cache.store.table l.walk.stage l.held;
  keeping : keeping_of l.held ≡ Ids;
  joins :
      (j : Joins l.dfa l.input l.walk l.fn.patset l.patset)
      × HaveCalled l.dfa l.input l.fn.patset (known_of l.fn.cache) j.k l.walk (known_of l.cache);
}

abbrev pub decreases-walk : goal.decreases-walk
decreases-walk l = steps_left l.dfa l.input l.walk
