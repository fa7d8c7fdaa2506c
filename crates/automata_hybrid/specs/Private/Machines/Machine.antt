-- What is true of the numbers and the classes of every lazy DFA.
use Rattle.std.specs.Prelude.{ℕ, ◌+◌, ◌*◌, ◌<◌, ◌≤◌, List, true, false, Option, slice_index, length, ◌≡◌, ◌⊎◌}
use Rattle.automata_base.specs.Powersets.Powerset.{Powerset}
use Rattle.automata_base.specs.ByteClasses.Classes.{class_in, eoi_class, is_quit, stride_for}
use Rattle.automata_determinize.specs.Powersets.Accounting.{minimum_capacity}
use Rattle.automata_determinize.specs.Powersets.Passes.{IsUnit}
use Rattle.automata_hybrid.specs.Machines.OwnStates.{IsOwn}
use Rattle.automata_hybrid.specs.Cache.Ids.{quit_id, unknown_id, offset_limit}
use Rattle.automata_hybrid.specs.Machines.FullDfas.{full_dfa}
use Rattle.automata_hybrid.specs.Machines.Machine.{IsSized, Machine, unit_class}

-- the stride is positive, a power of two and at most 512, and each cell of a new row is quit or unknown
pub record IsTemplate (stride : ℕ) (template : List ℕ) : Type 0 where
  -- a row has at least one cell
  pub positive : 0 < stride
  -- a row has at most 512 cells
  pub small : stride ≤ 512
  -- a row has as many cells as some number of classes needs, which is a power of two
  pub power : (length : ℕ) × (stride ≡ stride_for length)
  -- a new row is as long as each row
  pub whole : length template ≡ stride
  -- each of its cells is quit or unknown
  pub cells :
      (class : ℕ) → class < stride → (slice_index template class ≡ quit_id stride)
      ⊎ (slice_index template class ≡ unknown_id)

-- what is true of every lazy DFA: its numbers are its own, each byte and the end have a class, the units of a class
-- lead to the same states, and a new cache fits
pub record IsMachine (m : Machine) : Type 0 where
  -- its numbers are those of its automaton, its settings and its classes
  pub sizes : IsSized m
  -- a row has at most 512 cells, a power of two, and each cell of a new row is quit or unknown
  pub template : IsTemplate m.stride m.template
  -- a row has a cell for each class, including the class of the end
  pub below : eoi_class m.classes < m.stride
  -- a new row is quit at the class of each quit byte
  pub quit :
      (byte : ℕ) → byte < 256 → is_quit m.quits byte ≡ true
      → slice_index m.template (class_in m.classes byte) ≡ quit_id m.stride
  -- a new row is unknown at the class of each other byte
  pub free :
      (byte : ℕ) → byte < 256 → is_quit m.quits byte ≡ false
      → slice_index m.template (class_in m.classes byte) ≡ unknown_id
  -- a new row is unknown at the class of the end
  pub end_free : slice_index m.template (eoi_class m.classes) ≡ unknown_id
  -- units of one class lead each state to the same successor
  pub alike :
      (q : Powerset) (unit other : Option ℕ) → IsOwn m.nfa q → IsUnit unit → IsUnit other
      → unit_class m unit ≡ unit_class m other
      → (full_dfa m).step q unit ≡ (full_dfa m).step q other
  -- the capacity is at least the minimum
  pub enough : minimum_capacity m.stride m.slots m.greatest m.fixed ≤ m.capacity
  -- the offsets of rows in a table of the minimum capacity are below the limit
  pub offsets : (m.slots + 4) * m.stride < offset_limit
