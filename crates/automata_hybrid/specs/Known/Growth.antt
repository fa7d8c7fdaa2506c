-- How what a cache knows grows: how many more states fit, and what stays until a clear or through clears.
use Rattle.std.specs.Prelude.{ℕ, ◌≡◌, ◌+◌, ◌-◌, ◌*◌, ◌^◌, ◌<◌, ◌≤◌, ◌⊎◌, List, ◌++◌, length, true, Option, Some}
use Rattle.std.specs.Prelude.{slice_get}
use Rattle.automata_base.specs.Powersets.Powerset.{Powerset}
use Rattle.automata_base.specs.declared.util.search.Anchored.{Anchored}
use Rattle.automata_hybrid.specs.Cache.Ids.{offset_limit}
use Rattle.automata_hybrid.specs.Cache.Usage.{row_usage}
use Rattle.automata_hybrid.specs.Steps.Events.{Start}
use Rattle.automata_hybrid.specs.Known.Events.{is_cached, usage}
use Rattle.automata_hybrid.specs.Known.Known.{Known}
use Rattle.automata_hybrid.specs.Machines.Machine.{Machine}
use Rattle.automata_hybrid.specs.Steps.Starts.{start_row}
use Rattle.automata_hybrid.specs.declared.cache.row.Row.{Row}

-- the cache has a row
abbrev pub HasRow : Known → Row → Type 0
HasRow c r = (place : ℕ) × (slice_get c.rows place ≡ Some r)

-- a row is the row of a cached start state
pub record IsStartRow (m : Machine) (c : Known) (r : Row) : Type 0 where
  -- the anchored mode
  pub mode : Anchored
  -- the look-behind byte, if there is one
  pub behind : Option ℕ
  -- it is the row of that start state
  pub row : r ≡ start_row m mode behind
  -- the start state is cached
  pub known : is_cached m (Start mode behind) c ≡ true

-- nothing was cleared in between: the count of clears is the same, and below the maximum, at which it would not change
abbrev pub ClearedNothing : (old new : Known) → Type 0
ClearedNothing old new = (new.clears ≡ old.clears) × (old.clears < 2 ^ 64 - 1)

-- neither a row nor a transition is lost
pub record Keeps (old new : Known) : Type 0 where
  -- the rows that were added
  pub added : List Row
  -- they come after those that were there
  pub rows : new.rows ≡ old.rows ++ added
  -- each transition that was cached still is
  pub steps : (q : Powerset) (class : ℕ) → old.steps q class ≡ true → new.steps q class ≡ true

-- nothing has changed except the progress of searches
abbrev pub IsStill : (old new : Known) → Type 0
IsStill old new = new ≡ record old { searched = new.searched }

-- there is room for this many more states, whatever they cost
pub record HasRoom (m : Machine) (c : Known) (states : ℕ) : Type 0 where
  -- the accounted bytes stay within the capacity, even if each state has the greatest cost
  pub capacity : usage m c + states * (row_usage m + m.greatest) ≤ m.capacity
  -- the offset of the last row is below the limit of IDs
  pub offsets : (length c.rows + 2 + states) * m.stride < offset_limit

-- what a cache knows after steps and searches, compared with what it knew before
pub record IsGrown (m : Machine) (old new : Known) : Type 0 where
  -- the count of determinizations has not fallen
  pub counted : old.count ≤ new.count
  -- the count of clears has not fallen
  pub clears : old.clears ≤ new.clears
  -- a start state that is cached stays cached, through clears too
  pub starts :
      (mode : Anchored) (behind : Option ℕ) → is_cached m (Start mode behind) old ≡ true
      → is_cached m (Start mode behind) new ≡ true
  -- a new row has the start tag only if it is the row of a start state
  pub tagged : (r : Row) → HasRow new r → r.started ≡ true → HasRow old r ⊎ IsStartRow m new r
  -- if nothing was determinized, nothing has changed except the progress of searches
  pub idle : new.count ≡ old.count → IsStill old new
  -- if nothing was cleared, nothing is lost
  pub kept : ClearedNothing old new → Keeps old new
  -- nothing is cleared if there is room for as many states as are determinized
  pub roomy :
      (states : ℕ) → HasRoom m old (states + (new.count - old.count))
      → HasRoom m new states × (new.clears ≡ old.clears)
