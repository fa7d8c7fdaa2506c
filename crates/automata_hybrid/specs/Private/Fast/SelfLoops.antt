-- The bytes on which a row is known to lead back to itself.
use Rattle.std.specs.Prelude.{ℕ, ◌≡◌, ◌+◌, ◌-◌, ◌%◌, ◌<◌, ◌≤◌, ◌⊎◌, List, false, Some, length, slice_index}
use Rattle.automata_base.specs.ByteClasses.Classes.{class_in, is_quit}
use Rattle.automata_base.specs.Haystacks.Input.{Input}
use Rattle.automata_base.specs.Paths.Paths.{next}
use Rattle.automata_base.specs.Powersets.Powerset.{Powerset}
use Rattle.automata_base.specs.declared.util.search.Direction.{Direction}
use Rattle.automata_base.specs.declared.util.search.Direction.TheVariants.{Forward, Backward}
use Rattle.automata_hybrid.specs.Machines.FullDfas.{full_dfa}
use Rattle.automata_hybrid.specs.Machines.Machine.{Machine}
use Rattle.automata_hybrid.specs.Searches.Passes.{tape_in}
use Rattle.automata_hybrid.specs.Cache.Stores.{Stored}
use Rattle.automata_hybrid.specs.Private.Cache.Stores.{IsKnownTransition}
use Rattle.automata_hybrid.specs.Cache.Table.{Leads, Names}
use Rattle.automata_hybrid.specs.declared.cache.self_loops.LoopRange.{LoopRange}
use Rattle.automata_hybrid.specs.declared.cache.self_loops.KnownLoop.{KnownLoop}

-- how far a byte is above another, where 0 follows 255
abbrev pub steps_above : ℕ → ℕ → ℕ
steps_above low byte = (byte + (256 - low)) % 256

-- a range has a byte
abbrev pub HasByte : LoopRange → ℕ → Type 0
HasByte r byte = steps_above r.low byte < r.size

-- one of two ranges has a byte
abbrev pub HasEither : LoopRange → LoopRange → ℕ → Type 0
HasEither first second byte = HasByte first byte ⊎ HasByte second byte

-- the byte at a place of bytes that are read from the front or from the back
abbrev pub byte_in : Direction → List ℕ → ℕ → ℕ
byte_in Forward bytes k = slice_index bytes k
byte_in Backward bytes k = slice_index bytes (length bytes - 1 - k)

-- the index, among 32 bytes, of the byte at a place of a search that reads them in a direction
abbrev pub lane_of : Direction → ℕ → ℕ
lane_of Forward k = k
lane_of Backward k = 31 - k

-- an ID's row leads back to it on a byte, which is not a quit byte: the transition is cached, at a class that rows have
pub record LoopsOn (m : Machine) (c : Stored) (id byte : ℕ) : Type 0 where
  -- the byte is not a quit byte
  pub clean : is_quit m.quits byte ≡ false
  -- the transition is cached
  pub known : IsKnownTransition c id (class_in m.classes byte)
  -- rows have its class
  pub below : class_in m.classes byte < c.table.of.stride
  -- it leads back to the ID
  pub back :
      (q : Powerset) → Names c.table id q → Leads c.table id ((full_dfa m).step q (Some byte))

-- an ID's row leads back to it on each byte of a range
pub record IsLoopRange (m : Machine) (c : Stored) (id : ℕ) (r : LoopRange) : Type 0 where
  -- the row leads back on each byte of the range
  pub loops : (byte : ℕ) → byte < 256 → HasByte r byte → LoopsOn m c id byte

-- an ID's row leads back to it on each byte of the two ranges that are kept of its self-loop
pub record IsKnownLoop (m : Machine) (c : Stored) (id : ℕ) (k : KnownLoop) : Type 0 where
  -- the row leads back on each byte of the first range
  pub first : IsLoopRange m c id k.first
  -- the row leads back on each byte of the second range
  pub second : IsLoopRange m c id k.second

-- an ID's row leads back to it on each byte of a list from one place to another
abbrev pub LoopsOver : Machine → Stored → ℕ → Direction → List ℕ → ℕ → ℕ → Type 0
LoopsOver m c id way bytes from to = (k : ℕ) → from ≤ k → k < to → LoopsOn m c id (byte_in way bytes k)

-- an ID's row leads back to it on each byte up to a place within the list
pub record IsLoopRun (m : Machine) (c : Stored) (id : ℕ) (way : Direction) (bytes : List ℕ) (from to : ℕ) : Type 0 where
  -- it does not end before it begins
  pub more : from ≤ to
  -- it ends in the list
  pub within : to ≤ length bytes
  -- the row leads back on each byte of the run
  pub loops : LoopsOver m c id way bytes from to

-- the unit at place `k` of a pass is a byte on which an ID's row leads back to it
abbrev pub LoopsAt : Direction → Machine → Stored → Input → ℕ → ℕ → Type 0
LoopsAt way m c input id k = (byte : ℕ) × (next (tape_in way input) k ≡ Some byte) × LoopsOn m c id byte

-- each unit of a pass between two places is a byte on which an ID's row leads back to it
pub record IsSelfLoop (way : Direction) (m : Machine) (c : Stored) (input : Input) (id from to : ℕ) : Type 0 where
  -- they do not end before they begin
  pub more : from ≤ to
  -- each of them is a byte on which the row leads back
  pub loops : (k : ℕ) → from ≤ k → k < to → LoopsAt way m c input id k
