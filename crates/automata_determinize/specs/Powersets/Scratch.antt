-- The buffers of determinization as contracts see them.
use Rattle.std.specs.Prelude.{ℕ, IfSome}
use Rattle.automata_base.specs.Nfas.Accepted.{IsChecked}
use Rattle.automata_base.specs.Nfas.Nodes.{Automaton}
use Rattle.automata_determinize.specs.Powersets.Key.{ListsItsStates}
use Rattle.automata_determinize.specs.Powersets.Rooms.{IsStepRoom}
use Rattle.automata_determinize.specs.declared.determinize.scratch.Scratch.TheInside.{Inside}

-- The buffers of determinization as contracts see them: the NFA that they were made for, and how often they were used.
pub record ScratchView : Type 0 where
  -- the NFA that they were made for
  pub of : Automaton
  -- the count of determinizations in them
  pub count : ℕ

-- The buffers of determinization as contracts see them.
abbrev pub view_of : Inside → ScratchView
view_of s = record { of = s.of.value; count = s.count.number }

-- What holds for all buffers of determinization.
pub record IsScratch (s : Inside) : Type 0 where
  -- their NFA passed the tests of `NFA::from_states`
  pub checked : IsChecked s.of.value
  -- they have room for the steps of that NFA
  pub room : IsStepRoom s.of.value s.stack s.one s.two s.parts
  -- the last state that was made, if there is one, has the list of its NFA states
  pub made : IfSome s.made (λ made. ListsItsStates made.value)
