-- Steps: the ID that a call returns, on a byte or on the end. Known.Steps has the effect of the call on the cache.
use Rattle.std.specs.Prelude.{ℕ, ◌≡◌, ◌<◌, ◌≤◌, true, false, Option}
use Rattle.automata_base.specs.Powersets.Powerset.{Powerset}
use Rattle.automata_hybrid.specs.Machines.FullDfas.{full_dfa}
use Rattle.automata_hybrid.specs.Cache.Stores.{Stored, cell_of}
use Rattle.automata_hybrid.specs.Cache.Caches.{CacheView, HoldsRow}
use Rattle.automata_hybrid.specs.Cache.Ids.{fixed_from, quit_id}
use Rattle.automata_hybrid.specs.Machines.Machine.{quits_on, unit_class, Machine}
use Rattle.automata_hybrid.specs.Cache.Table.{HasItsMatchTag, Leads, Names}

-- the ID that a cached transition leads to
abbrev pub known_step : Machine → Stored → (id : ℕ) → (unit : Option ℕ) → ℕ
known_step m c id unit = cell_of c id (unit_class m unit)

-- the ID that a step from an ID on a unit returns
pub record IsStepAnswer (m : Machine) (id : ℕ) (unit : Option ℕ) (old new : CacheView) (next : ℕ) : Type 0 where
  -- its row is there
  pub row : HoldsRow new next
  -- it has the match tag exactly if its state has patterns
  pub tag : HasItsMatchTag new.store.table next
  -- dead leads to dead, and quit to quit
  pub fixed : fixed_from ≤ id → next ≡ id
  -- a quit byte leads to quit
  pub quit : id < fixed_from → quits_on m unit ≡ true → next ≡ quit_id m.stride
  -- any other unit leads from a state to its successor
  pub named :
      quits_on m unit ≡ false → (q : Powerset) → Names old.store.table id q
      → Leads new.store.table next ((full_dfa m).step q unit)
  -- afterwards the transition to this ID is cached, in the row that the state then has, even if the call cleared the
  -- cache
  pub cached :
      (q : Powerset) → Names old.store.table id q
      → (now : ℕ) × Names new.store.table now q × (known_step m new.store now unit ≡ next)
