-- What a search in pieces holds between its calls, and how it continues from that with a cache.
use Rattle.std.specs.Prelude.{Option, Some, None, Result, Ok, Err, ℕ, ◌+◌, ◌≡◌}
use Rattle.automata_base.specs.Powersets.Powerset.{Powerset}
use Rattle.automata_base.specs.Haystacks.Matches.{HalfMatch}
use Rattle.automata_config.specs.declared.error.SearchError.{SearchError}
use Rattle.automata_hybrid.specs.Cache.Caches.{CacheView}
use Rattle.automata_hybrid.specs.Cache.Table.{Names}
use Rattle.automata_hybrid.specs.Known.Stores.{known_of}
use Rattle.automata_hybrid.specs.Known.Walks.{IsNotRestored, with_restored_row}
use Rattle.automata_hybrid.specs.Machines.Machine.{Machine}
use Rattle.automata_hybrid.specs.Private.Walks.State.{IsHandle}
use Rattle.automata_hybrid.specs.declared.cache.handle.Handle.{Handle}
use Rattle.automata_hybrid.specs.declared.search.pieces.Pieces.TheInside.{Inside}
use Rattle.automata_hybrid.specs.Pieces.State.{PiecesView}

-- the match found in a piece that begins at `base`, with its offset counted from the first piece; if there is none, the
-- one found before
abbrev pub found_in : Option HalfMatch → (base : ℕ) → (before : Option HalfMatch) → Option HalfMatch
found_in None base before = before
found_in (Some half) base before = Some (record { pattern = half.pattern; offset = base + half.offset })

-- the state that is held
abbrev pub held_state : Option Handle → Option Powerset
held_state None = None
held_state (Some handle) = Some handle.state

-- a state is held with its own key
abbrev pub HasOwnKey : Option Handle → Type 0
HasOwnKey None = Unit {0}
HasOwnKey (Some handle) = IsHandle handle handle.state

-- what contracts see of a search in pieces, by what it holds
abbrev pub pieces_view : Inside → PiecesView
pieces_view s = record { state = held_state s.held; read = s.read; earliest = s.earliest; found = s.found }

-- a cache has the row of a search's current state, with this ID
pub record HasResumed (m : Machine) (p : PiecesView) (old new : CacheView) (id : ℕ) : Type 0 where
  -- the state
  pub state : Powerset
  -- it was the current state of the search
  pub stood : p.state ≡ Some state
  -- its row was there, or is restored
  pub back : with_restored_row m state (known_of old) ≡ Some (known_of new)
  -- the ID names it
  pub named : Names new.store.table id state

-- a cache does not have the row of a search's current state, and it is not restored
pub record FailsToResume (m : Machine) (p : PiecesView) (old new : CacheView) (e : SearchError) : Type 0 where
  -- the state
  pub state : Powerset
  -- it was the current state of the search
  pub stood : p.state ≡ Some state
  -- why its row is not restored
  pub fails : IsNotRestored m state p.read (known_of old) (known_of new) e

-- what continuing a search returns: the ID of its current state; none once its answer is final; or why the row of that
-- state is not restored
abbrev pub IsResumed : Machine → PiecesView → (old new : CacheView) → Result (Option ℕ) SearchError → Type 0
IsResumed m p old new (Ok None) = (p.state ≡ None) × (known_of new ≡ known_of old)
IsResumed m p old new (Ok (Some id)) = HasResumed m p old new id
IsResumed m p old new (Err e) = FailsToResume m p old new e
