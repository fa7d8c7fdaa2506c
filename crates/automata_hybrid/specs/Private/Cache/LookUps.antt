-- The result of looking up a state.
use Rattle.std.specs.Prelude.{◌≡◌}
use Rattle.automata_base.specs.Powersets.Powerset.{Powerset}
use Rattle.automata_hybrid.specs.Cache.Table.{Rows, Leads}
use Rattle.automata_hybrid.specs.Private.Cache.Table.{Lacks}
use Rattle.automata_hybrid.specs.declared.cache.add.Found.{Found}
use Rattle.automata_hybrid.specs.declared.cache.add.Found.TheVariants.{Known, New}

-- the result of looking up a state: an ID that leads to it, or the state itself, which no row has
abbrev pub IsLookedUp : Rows → Powerset → Found → Type 0
IsLookedUp t q (Known id) = Leads t id q
IsLookedUp t q (New state) = (state ≡ q) × Lacks t q
