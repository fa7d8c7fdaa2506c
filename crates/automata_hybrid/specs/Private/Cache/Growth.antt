-- The effect of adding a state to a cache, and when a state cannot be added.
use Rattle.std.specs.Prelude.{◌≡◌, ◌↔◌, ℕ, false, length, Some}
use Rattle.automata_base.specs.Powersets.Powerset.{Powerset, cost}
use Rattle.automata_config.specs.declared.error.StepError.{StepError}
use Rattle.automata_hybrid.specs.Cache.Stores.{IsCacheError}
use Rattle.automata_hybrid.specs.Cache.Table.{Names}
use Rattle.automata_hybrid.specs.Known.Events.{with_new_row}
use Rattle.automata_hybrid.specs.Known.Known.{cleared, cleared_saving}
use Rattle.automata_hybrid.specs.Known.Stores.{known_of}
use Rattle.automata_hybrid.specs.Private.Cache.Usage.{MustGiveUp}
use Rattle.automata_hybrid.specs.Cache.Caches.{CacheView, dfa_of}
use Rattle.automata_hybrid.specs.declared.cache.row.Row.{Row}

-- a row for a state that a cache did not have was added, with this ID
pub record HasAdded (old new : CacheView) (r : Row) (id : ℕ) : Type 0 where
  -- this is the effect on what the cache knows: if the row did not fit, the cache was cleared first
  pub effect : with_new_row (dfa_of old) (cleared (known_of old)) r (known_of old) ≡ Some (known_of new)
  -- the ID names its state
  pub named : Names new.store.table id r.state
  -- there are as many start slots as before
  pub slots : length new.store.starts ≡ length old.store.starts
  -- the cache belongs to the same DFA
  pub of : dfa_of new ≡ dfa_of old
  -- nothing was determinized
  pub counted : new.count ≡ old.count

-- a row was added for a state that a cache did not have and that a step from a row leads to: the current ID of that
-- row, and the new ID
pub record HasAddedNext (old new : CacheView) (from : ℕ) (q : Powerset) (now next : ℕ) : Type 0 where
  -- this is the effect on what the cache knows: a clear saves the row that the step is from
  pub effect :
      (p : Powerset) → Names old.store.table from p
      → with_new_row (dfa_of old) (cleared_saving p (known_of old)) (record { state = q; started = false })
      (known_of old)
      ≡ Some (known_of new)
  -- the new ID names the state
  pub named : Names new.store.table next q
  -- the row that the step is from is still there, and now has this ID
  pub saved : (p : Powerset) → Names old.store.table from p → Names new.store.table now p
  -- the cache belongs to the same DFA
  pub of : dfa_of new ≡ dfa_of old
  -- nothing was determinized
  pub counted : new.count ≡ old.count

-- A state could not be added: nothing changed. The call gave up exactly if it had to: the error is out of memory only
-- if the state fits, or the cache may be cleared for it.
pub record AddFails (old new : CacheView) (q : Powerset) (e : StepError) : Type 0 where
  -- nothing changed
  pub kept : new ≡ old
  -- the error is a cache error exactly if the call had to give up
  pub gives_up : IsCacheError e ↔ MustGiveUp (dfa_of old) (known_of old) (cost q)
