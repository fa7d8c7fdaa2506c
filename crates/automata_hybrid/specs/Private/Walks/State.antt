-- What is held of a walk's current state, and what contracts see of a walk.
use Rattle.std.specs.Prelude.{ℕ, ◌≡◌, suc, length, Option, None, Some}
use Rattle.automata_base.specs.Haystacks.Matches.{HalfMatch}
use Rattle.automata_base.specs.Powersets.Powerset.{Powerset}
use Rattle.automata_hybrid.specs.Cache.Table.{Names, Rows}
use Rattle.automata_hybrid.specs.declared.cache.handle.Handle.{Handle}
use Rattle.automata_hybrid.specs.declared.search.walk.Held.{Held}
use Rattle.automata_hybrid.specs.declared.search.walk.Held.TheVariants as held
use Rattle.automata_hybrid.specs.declared.search.walk.Stage.{Stage as AStage}
use Rattle.automata_hybrid.specs.declared.search.walk.Stage.TheVariants as stage
use Rattle.automata_hybrid.specs.declared.search.walk.Cursor.TheInside.{Inside}
use Rattle.automata_hybrid.specs.Walks.State.{At, Ended, Fresh, Ids, Keeping, Stage, States, Walk}

-- a walk after it has reported the next pattern of its state
abbrev pub with_match : Walk → HalfMatch → Walk
with_match w half = record { stage = w.stage; units = w.units; reported = suc w.reported; found = Some half }

-- a walk that has ended after `units` units
abbrev pub ended_walk : Walk → ℕ → Walk
ended_walk w units = record { stage = Ended; units = units; reported = 0; found = None }

-- the form in which a state is held
abbrev pub keeping_of : Held → Keeping
keeping_of (held.State handle) = States
keeping_of (held.Row id) = Ids

-- a handle on this state, with the state's own key
abbrev pub IsHandle : Handle → Powerset → Type 0
IsHandle h q = (h.state ≡ q) × (h.key ≡ q)

-- there is a handle, and it is a handle on this state
abbrev pub IsHandleOn : Option Handle → Powerset → Type 0
IsHandleOn None q = ⊥
IsHandleOn (Some h) q = IsHandle h q

-- there is an ID, and it is the ID of this state's row
abbrev pub IsIdOf : Rows → Option ℕ → Powerset → Type 0
IsIdOf t None q = ⊥
IsIdOf t (Some id) q = Names t id q

-- this state is held, by itself or by its ID in a cache
abbrev pub Holds : Rows → Held → Powerset → Type 0
Holds t (held.State handle) q = IsHandleOn handle q
Holds t (held.Row id) q = IsIdOf t id q

-- no state is held
abbrev pub HoldsNone : Held → Type 0
HoldsNone (held.State handle) = handle ≡ None
HoldsNone (held.Row id) = id ≡ None

-- what is held is the current state of a walk
abbrev pub IsHeldAt : Rows → Stage → Held → Type 0
IsHeldAt t Fresh h = HoldsNone h
IsHeldAt t (At q) h = Holds t h q
IsHeldAt t Ended h = Unit {0}

-- what is held of a walk is a handle on its current state
abbrev pub IsHandleAt : Stage → Option Handle → Type 0
IsHandleAt Fresh handle = handle ≡ None
IsHandleAt (At q) handle = IsHandleOn handle q
IsHandleAt Ended handle = Unit {0}

-- what is held of a walk is its current state itself, not an ID
abbrev pub IsHeldItself : Stage → Held → Type 0
IsHeldItself stage (held.State handle) = IsHandleAt stage handle
IsHeldItself stage (held.Row id) = ⊥

-- what contracts see of a stage
abbrev pub stage_of : AStage → Stage
stage_of stage.Fresh = Fresh
stage_of (stage.At q) = At q.value
stage_of stage.Ended = Ended

-- what contracts see of a walk
abbrev pub walk_of : Inside → Walk
walk_of s = record { stage = stage_of s.stage; units = s.units; reported = s.reported; found = s.found }

-- the current state of a walk has `n` patterns, or `n` is 0 if it has no current state
abbrev pub HasItsCount : Stage → ℕ → Type 0
HasItsCount Fresh n = n ≡ 0
HasItsCount (At q) n = n ≡ length q.patterns
HasItsCount Ended n = n ≡ 0
