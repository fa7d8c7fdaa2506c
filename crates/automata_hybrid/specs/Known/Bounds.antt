-- What is true of what every cache of a DFA knows: `laws::cache_is_known`.
use Rattle.std.specs.Prelude.{◌≡◌, ◌^◌, ◌<◌, ◌≤◌, length}
use Rattle.automata_base.specs.Powersets.Powerset.{cost, dead}
use Rattle.automata_hybrid.specs.Known.Events.{usage}
use Rattle.automata_hybrid.specs.Known.Growth.{HasRow}
use Rattle.automata_hybrid.specs.Known.Known.{Known}
use Rattle.automata_hybrid.specs.Machines.Machine.{Machine}
use Rattle.automata_hybrid.specs.declared.cache.row.Row.{Row}

-- the bounds on what a cache of the DFA knows
pub record IsKnown (m : Machine) (c : Known) : Type 0 where
  -- no row has the dead state
  pub alive : (r : Row) → HasRow c r → r.state ≡ dead → ⊥
  -- the state of a row costs no more than a state may
  pub cheap : (r : Row) → HasRow c r → cost r.state ≤ m.greatest
  -- there are as many start slots as the DFA has
  pub slots : length c.starts ≡ m.slots
  -- the accounted bytes are within the capacity
  pub within : usage m c ≤ m.capacity
  -- the count of clears fits in 64 bits
  pub clears : c.clears < 2 ^ 64
