-- The room that a closure needs.
use Rattle.std.specs.Prelude.{ℕ, ◌≡◌, ◌≤◌, length, [], Vec, vec_capacity}
use Rattle.std.specs.declared.alloc.Global.{Global}
use Rattle.automata_base.specs.Powersets.Members.{Members}
use Rattle.automata_base.specs.Nfas.Nodes.{Automaton, stack_room}

-- room for the closures of an automaton
pub record IsClosureRoom (a : Automaton) (stack : Vec ℕ Global) (set : Members) : Type 0 where
  -- the set has room for exactly its states
  pub whole : set.capacity ≡ length a.states
  -- the stack is empty
  pub empty : stack.items ≡ []
  -- it has room for all states that may wait on it
  pub places : stack_room a.states ≤ vec_capacity stack
