-- When any state fits a store, how it is cleared, and what is true of every store.
use Rattle.std.specs.Prelude.{◌≡◌, ℕ, ◌+◌, ◌*◌, ◌^◌, ◌<◌, ◌≤◌, length, false, true}
use Rattle.automata_determinize.specs.Powersets.Accounting.{minimum_capacity}
use Rattle.automata_hybrid.specs.declared.cache.settings.Settings.{Settings}
use Rattle.automata_hybrid.specs.Cache.Ids.{offset_limit}
use Rattle.automata_hybrid.specs.Cache.Stores.{Stored}
use Rattle.automata_hybrid.specs.Known.Events.{fits, refuses_to_clear, usage}
use Rattle.automata_hybrid.specs.Known.Known.{Known, cleared}
use Rattle.automata_hybrid.specs.Machines.Machine.{Machine}
use Rattle.automata_hybrid.specs.Private.Cache.Clears.{AllStarts, KeepsAllStarts}
use Rattle.automata_hybrid.specs.Private.Cache.Stores.{cache_settings, known_in}

-- any state fits
abbrev pub FitsAny : Stored → Type 0
FitsAny c = (bytes : ℕ) → bytes ≤ c.table.of.greatest → fits c.table.of (known_in c) bytes ≡ true

-- a call has to give up at a state of this cost that is not there: it does not fit, and the clear rule does not allow a
-- clear
abbrev pub MustGiveUp : Machine → Known → (bytes : ℕ) → Type 0
MustGiveUp m c bytes = (fits m c bytes ≡ false) × (refuses_to_clear m c ≡ true)

-- the effect of a clear on a store
pub record IsCleared (old new : Stored) : Type 0 where
  -- the clear rule allows it
  pub allowed : refuses_to_clear old.table.of (known_in old) ≡ false
  -- the start states are kept, and the progress of searches starts again
  pub known : known_in new ≡ cleared (known_in old)
  -- each slot is kept, and no other row
  pub kept : KeepsAllStarts old.table old.starts (record { table = new.table; starts = new.starts })

-- the slots name their states, and the accounted bytes are within the capacity; these settings are those of the machine
pub record IsCache (c : Stored) (settings : Settings) : Type 0 where
  -- each slot has its own start state, or is empty
  pub named : AllStarts c.table c.starts
  -- the accounted bytes are within the capacity
  pub within : usage c.table.of (known_in c) ≤ c.table.of.capacity
  -- the capacity is at least the minimum
  pub enough :
      minimum_capacity c.table.of.stride (length c.starts) c.table.of.greatest c.table.of.fixed
      ≤ c.table.of.capacity
  -- the offsets of rows in a table of the minimum capacity are below the limit
  pub offsets : (length c.starts + 4) * c.table.of.stride < offset_limit
  -- there are as many slots as the machine has
  pub slots : length c.starts ≡ c.table.of.slots
  -- the settings are those of the machine
  pub same : settings ≡ cache_settings c.table.of
  -- the capacity fits in 64 bits
  pub bounded : c.table.of.capacity < 2 ^ 64
  -- the count of clears fits in 64 bits
  pub counted : c.clears < 2 ^ 64
