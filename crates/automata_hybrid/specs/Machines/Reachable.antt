-- The states of a lazy DFA: those that a search can reach.
use Rattle.std.specs.Prelude.{ℕ, zero, suc, ◌≡◌, ◌<◌, false, Option}
use Rattle.automata_base.specs.Powersets.Powerset.{Powerset}
use Rattle.automata_base.specs.declared.util.search.Anchored.{Anchored}
use Rattle.automata_hybrid.specs.Machines.FullDfas.{full_dfa}
use Rattle.automata_hybrid.specs.Machines.Machine.{Machine, quits_on}
use Rattle.automata_hybrid.specs.Machines.OwnStates.{IsOwn}
use Rattle.automata_hybrid.specs.Machines.StartSlots.{slot_behind}

-- `units` units, none of them a quit byte, lead to a state from the start state of some anchored mode that has a slot
pub data IsReachableBy (m : Machine) : (units : ℕ) → Powerset → Type 0 where
  -- it is this start state
  AtStart :
      (mode : Anchored) (behind : Option ℕ) → slot_behind m mode behind < m.slots
      → IsReachableBy m zero ((full_dfa m).start mode behind)
  -- the last of them leads to it
  OverUnit :
      (units : ℕ) (before : Powerset) (unit : Option ℕ) → IsReachableBy m units before → quits_on m unit ≡ false
      → IsReachableBy m (suc units) ((full_dfa m).step before unit)

-- a search can reach a state
abbrev pub IsReachable : Machine → Powerset → Type 0
IsReachable m q = ∥ ((units : ℕ) × IsReachableBy m units q) ∥₁

-- a state of a lazy DFA
pub record IsStateOf (m : Machine) (q : Powerset) : Type 0 where
  -- what it consists of is the automaton's
  pub own : IsOwn m.nfa q
  -- a search can reach it
  pub reached : IsReachable m q
