-- Overlapping walks: what contracts see of their state.
use Rattle.std.specs.Prelude.{ℕ, Option, None}
use Rattle.automata_base.specs.Haystacks.Matches.{HalfMatch}
use Rattle.automata_base.specs.Powersets.Powerset.{Powerset}

-- the stage of a walk
pub data Stage : Type 0 where
  -- it has not begun
  Fresh : Stage
  -- its current state is this powerset state
  At : Powerset → Stage
  -- it has ended
  Ended : Stage

-- what contracts see of a walk: its stage, how many units it has read, how many patterns of its current state it has
-- reported, and its match
pub record Walk : Type 0 where
  -- its stage
  pub stage : Stage
  -- how many units it has read
  pub units : ℕ
  -- how many patterns of its current state it has reported
  pub reported : ℕ
  -- the match that its last call reported, if it reported one
  pub found : Option HalfMatch

-- a walk that has not begun
abbrev pub fresh_walk : Walk
fresh_walk = record { stage = Fresh; units = 0; reported = 0; found = None }

-- a walk without its match
abbrev pub without_match : Walk → Walk
without_match w = record { stage = w.stage; units = w.units; reported = w.reported; found = None }

-- what a walk keeps of its current state
pub data Keeping : Type 0 where
  -- the state itself, so that any cache may be used
  States : Keeping
  -- only the ID of the state's row, in the walk of a set, which lasts for one call
  Ids : Keeping
