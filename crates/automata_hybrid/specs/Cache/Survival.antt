-- Rows have different states, and an ID keeps its state until a clear.
use Rattle.std.specs.Prelude.{ℕ, ◌≡◌, List, Some, slice_get}
use Rattle.automata_base.specs.Powersets.Powerset.{Powerset}
use Rattle.automata_hybrid.specs.Cache.Caches.{CacheView, dfa_of}
use Rattle.automata_hybrid.specs.Cache.Table.{Names}
use Rattle.automata_hybrid.specs.Known.Growth.{Keeps}
use Rattle.automata_hybrid.specs.Known.Stores.{known_of}
use Rattle.automata_hybrid.specs.declared.cache.row.Row.{Row}

-- no two of these rows have the same state
abbrev pub HaveDistinctStates : List Row → Type 0
HaveDistinctStates rows =
    (place other : ℕ) (r s : Row) → slice_get rows place ≡ Some r → slice_get rows other ≡ Some s
    → r.state ≡ s.state → place ≡ other

-- an ID that names a state still names it as long as no row is lost
abbrev pub IdsSurvive : Type 0
IdsSurvive =
    (old new : CacheView) (id : ℕ) (q : Powerset) → dfa_of new ≡ dfa_of old → Keeps (known_of old) (known_of new)
    → Names old.store.table id q → Names new.store.table id q
