-- When a cache is one of a DFA, and both have their invariants.
use Rattle.automata_base.specs.ByteClasses.Classes.{AreClasses}
use Rattle.automata_hybrid.specs.Cache.Caches.{CacheView, IsCacheOf}
use Rattle.automata_hybrid.specs.Machines.Machine.{Machine}
use Rattle.automata_hybrid.specs.Private.Cache.Caches.{IsStoreOf}
use Rattle.automata_hybrid.specs.Private.Cache.Table.{IsSoundTable}
use Rattle.automata_hybrid.specs.Private.Machines.Machine.{IsMachine}

-- a cache belongs to a DFA, and both have their invariants
pub record IsSoundCacheOf (c : CacheView) (m : Machine) : Type 0 where
  -- it belongs to the DFA
  pub of : IsCacheOf c m
  -- the DFA's numbers are its own, and units of one class lead to the same states
  pub machine : IsMachine m
  -- the classes of its bytes rise
  pub rising : AreClasses m.classes
  -- the rows fit together, each start slot has its own start state, and the accounted bytes are within the capacity
  pub store : IsStoreOf c.store m
  -- each row is found by its state, and each cached cell leads where its row's state goes
  pub table : IsSoundTable c.store.table
