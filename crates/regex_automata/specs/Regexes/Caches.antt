-- The two caches of a regex, and what they know.
use Rattle.std.specs.Prelude.{◌≡◌, Some}
use Rattle.automata_base.specs.Answers.Answers.{Half}
use Rattle.automata_base.specs.Haystacks.Input.{Input}
use Rattle.automata_base.specs.Answers.Spans.{IsShort, back}
use Rattle.automata_base.specs.declared.util.search.Direction.TheVariants.{Forward, Backward}
use Rattle.automata_hybrid.specs.Cache.Caches.{IsCacheOf, fresh_cache}
use Rattle.automata_hybrid.specs.Known.Bounds.{IsKnown}
use Rattle.automata_hybrid.specs.Known.Cached.{Knows}
use Rattle.automata_hybrid.specs.Known.Growth.{ClearedNothing, IsGrown, IsStill}
use Rattle.automata_hybrid.specs.Known.Known.{Known}
use Rattle.automata_hybrid.specs.Known.Stores.{known_of}
use Rattle.automata_hybrid.specs.Searches.Passes.{IsFound}
use Rattle.regex_automata.specs.declared.hybrid.regex.caches.Cache.{Cache}
use Rattle.regex_automata.specs.declared.hybrid.regex.Regex.{Regex}
use Rattle.regex_automata.specs.Regexes.SoundPairs.{forward_engine}

-- each cache belongs to its DFA
abbrev pub AreCachesOf : Cache → Regex → Type 0
AreCachesOf c p = IsCacheOf c.forward p.forward × IsCacheOf c.reverse p.reverse

-- both caches are fresh
abbrev pub AreFresh : Regex → Cache → Type 0
AreFresh p c = (c.forward ≡ fresh_cache p.forward) × (c.reverse ≡ fresh_cache p.reverse)

-- each cache knows only what a cache of its DFA may know
abbrev pub AreKnown : Regex → Cache → Type 0
AreKnown p c = IsKnown p.forward (known_of c.forward) × IsKnown p.reverse (known_of c.reverse)

-- the caches have grown as searches make them grow
abbrev pub AreGrown : Regex → (old new : Cache) → Type 0
AreGrown p old new =
    IsGrown p.forward (known_of old.forward) (known_of new.forward)
    × IsGrown p.reverse (known_of old.reverse) (known_of new.reverse)

-- neither cache was cleared
abbrev pub NothingCleared : (old new : Cache) → Type 0
NothingCleared old new =
    ClearedNothing (known_of old.forward) (known_of new.forward)
    × ClearedNothing (known_of old.reverse) (known_of new.reverse)

-- only the progress of searches has changed
abbrev pub AreStill : (old new : Cache) → Type 0
AreStill old new =
    IsStill (known_of old.forward) (known_of new.forward) × IsStill (known_of old.reverse) (known_of new.reverse)

-- all that the reverse search from a forward answer uses is cached, if that search is made
abbrev pub KnowsBack : Regex → Known → Input → Half → Type 0
KnowsBack p c input half = (IsShort (forward_engine p) input half → ⊥) → Knows Backward p.reverse c (back input half)

-- all that both searches for a match use is cached
abbrev pub KnowsBoth : Regex → Cache → Input → Type 0
KnowsBoth p c input =
    Knows Forward p.forward (known_of c.forward) input
    × ((half : Half) → IsFound Forward p.forward input (Some half) → KnowsBack p (known_of c.reverse) input half)
