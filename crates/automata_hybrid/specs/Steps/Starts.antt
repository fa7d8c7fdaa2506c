-- Start states: when there is one, what it is, and why a call for it fails. Known.Steps has the effect of the call on
-- the cache.
use Rattle.std.specs.Prelude.{ℕ, ◌≡◌, ◌<◌, ◌≤◌, true, cond, Option, None, Some, slice_index}
use Rattle.automata_base.specs.ByteClasses.Classes.{is_quit}
use Rattle.automata_base.specs.declared.util.search.Anchored.{Anchored}
use Rattle.automata_base.specs.declared.util.search.MatchErrorKind.TheVariants.{Quit as QuitAt, GaveUp}
use Rattle.automata_base.specs.declared.util.search.MatchErrorKind.TheVariants.{UnsupportedAnchored as UnsupportedMode}
use Rattle.automata_config.specs.declared.error.StartError.{StartError}
use Rattle.automata_config.specs.declared.error.StartError.TheVariants as start
use Rattle.automata_config.specs.declared.error.SearchError.{SearchError}
use Rattle.automata_config.specs.declared.error.SearchError.TheVariants as search
use Rattle.automata_hybrid.specs.Machines.FullDfas.{full_dfa}
use Rattle.automata_hybrid.specs.declared.cache.row.Row.{Row}
use Rattle.automata_hybrid.specs.Cache.Ids.{dead_id}
use Rattle.automata_hybrid.specs.Machines.Machine.{Machine}
use Rattle.automata_hybrid.specs.Cache.Table.{HasItsMatchTag, Leads}
use Rattle.automata_hybrid.specs.Cache.Stores.{Stored}
use Rattle.automata_hybrid.specs.Cache.Caches.{CacheView, HoldsRow}
use Rattle.automata_hybrid.specs.Machines.StartSlots.{supports, slot_behind}
use Rattle.automata_config.specs.Options.{specialize_start_states_of}

-- the look-behind byte, if it is a quit byte
abbrev pub quit_behind : Machine → Option ℕ → Option ℕ
quit_behind m None = None
quit_behind m (Some byte) = cond (is_quit m.quits byte) (Some byte) None

-- a search may start: the look-behind byte is not a quit byte, and the anchored mode is supported
abbrev pub MayStart : Machine → Anchored → Option ℕ → Type 0
MayStart m mode behind = (quit_behind m behind ≡ None) × (supports m mode ≡ true)

-- the anchored mode has a start slot, which is not so for a pattern that is out of range
abbrev pub HasSlot : Machine → Anchored → Option ℕ → Type 0
HasSlot m mode behind = slot_behind m mode behind < m.slots

-- the row of a start state, which has the start tag if the settings specialize start states
abbrev pub start_row : Machine → Anchored → Option ℕ → Row
start_row m mode behind = record {
  state = (full_dfa m).start mode behind;
  started = specialize_start_states_of m.config;
}

-- the ID of a start state that is cached
abbrev pub known_start : Machine → Stored → Anchored → Option ℕ → ℕ
known_start m c mode behind = slice_index c.starts (slot_behind m mode behind)

-- the error of a start state, as a search reports it: a quit byte and the "gave up" error each have an offset
abbrev pub start_search_error : StartError → (behind at : ℕ) → SearchError
start_search_error (start.Cache err) behind at = search.Match (GaveUp at)
start_search_error (start.Quit byte) behind at = search.Match (QuitAt byte behind)
start_search_error (start.UnsupportedAnchored mode) behind at = search.Match (UnsupportedMode mode)
start_search_error start.OutOfMemory behind at = search.OutOfMemory

-- the ID of a start state that a call returns
pub record IsStartAnswer (m : Machine) (mode : Anchored) (behind : Option ℕ) (old new : CacheView) (id : ℕ) :
    Type 0 where
  -- the call returns Ok only if a search may start: the look-behind byte is not a quit byte, and the anchored mode is
  -- supported
  pub may : MayStart m mode behind
  -- its row is there
  pub row : HoldsRow new id
  -- it names the start state
  pub named : Leads new.store.table id ((full_dfa m).start mode behind)
  -- it has the match tag exactly if its state has patterns
  pub tag : HasItsMatchTag new.store.table id
  -- for a pattern that is out of range the start is dead
  pub past : m.slots ≤ slot_behind m mode behind → id ≡ dead_id m.stride
  -- it is cached afterwards, even if the call cleared the cache
  pub cached : HasSlot m mode behind → known_start m new.store mode behind ≡ id
