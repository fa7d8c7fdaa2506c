-- The parts of a regex's cache, lent for reading and for writing.
use Rattle.std.specs.Prelude.{◌≡◌, ⊤}
use Rattle.std.specs.Borrow.{Lends, LendsBoth, MutBor, Fml, follows_so}
use mathlib.Core.Option.{none}
use Rattle.automata_hybrid.specs.Cache.Caches.{CacheView}
use Rattle.automata_hybrid.specs.contracts.cache.Cache.{the_row as part}
use Rattle.regex_automata.specs.declared.hybrid.regex.caches.Cache.{Cache}
use Rattle.regex_automata.specs.contracts.hybrid.regex.caches.Cache.{the_row}

-- afterwards the cache is unchanged, whatever is read through a shared reference
abbrev pub StaysSame : MutBor Cache → Fml
StaysSame s = follows_so the_row the_row s.ghost_name none (λ _ _. ⊤) (λ last. last ≡ s.now)

-- afterwards the forward part of the cache is the reference's last value
abbrev pub LendsForward : MutBor Cache → MutBor CacheView → Fml
LendsForward s r = Lends the_row part s r (λ w. record s.now { forward = w })

-- afterwards the reverse part of the cache is the reference's last value
abbrev pub LendsReverse : MutBor Cache → MutBor CacheView → Fml
LendsReverse s r = Lends the_row part s r (λ w. record s.now { reverse = w })

-- afterwards the parts of the cache are the last values of the two references
abbrev pub LendsBothParts : MutBor Cache → MutBor CacheView × MutBor CacheView → Fml
LendsBothParts s r = LendsBoth the_row part part s r (λ v w. record { forward = v; reverse = w })
