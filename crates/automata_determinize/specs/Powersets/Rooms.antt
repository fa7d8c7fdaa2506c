-- The room that a powerset state and a step need.
use Rattle.std.specs.Prelude.{ℕ, ◌≤◌, length, Vec, vec_capacity}
use Rattle.std.specs.declared.alloc.Global.{Global}
use Rattle.automata_base.specs.Powersets.Members.{Members}
use Rattle.automata_base.specs.Nfas.Nodes.{Automaton}
use Rattle.automata_determinize.specs.declared.determinize.state.Parts.{Parts}
use Rattle.automata_base.specs.Powersets.Rooms.{IsClosureRoom}

-- room for a powerset state of an automaton: the lists have room for each of its NFA states and each of its patterns
pub record IsPartsRoom (a : Automaton) (parts : Parts) : Type 0 where
  -- the list of NFA states has room for each of them
  pub list : length a.states ≤ vec_capacity parts.nfa
  -- the list of patterns has room for each of them
  pub patterns : length a.start_pattern ≤ vec_capacity parts.patterns

-- room for a step: for the closure that decides looks, for the closure after the unit, and for the state that is made
pub record IsStepRoom (a : Automaton) (stack : Vec ℕ Global) (one two : Members) (parts : Parts) : Type 0 where
  -- room for the closure that decides looks
  pub deciding : IsClosureRoom a stack one
  -- room for the closure after the unit
  pub following : IsClosureRoom a stack two
  -- room for the state that is made
  pub making : IsPartsRoom a parts
