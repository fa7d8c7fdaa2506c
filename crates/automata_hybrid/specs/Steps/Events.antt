-- What a call asks of its cache.
use Rattle.std.specs.Prelude.{ℕ, Option}
use Rattle.automata_base.specs.Powersets.Powerset.{Powerset}
use Rattle.automata_base.specs.declared.util.search.Anchored.{Anchored}

-- what is asked of a cache
pub data Event : Type 0 where
  -- the start state of an anchored mode, after a look-behind byte or none
  Start : Anchored → Option ℕ → Event
  -- the state after another one, over a unit
  Step : Powerset → Option ℕ → Event
