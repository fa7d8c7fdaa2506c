-- What a machine is built from, and the automata of `DFA::always_match` and `DFA::never_match`.
use Rattle.std.specs.Prelude.{ℕ, ◌≡◌, List, [], ◌∷◌, false}
use Rattle.automata_base.specs.Nfas.Automata.{automaton}
use Rattle.automata_base.specs.Nfas.Nodes.{Automaton}
use Rattle.automata_base.specs.declared.nfa.thompson.state.State.{State}
use Rattle.automata_base.specs.declared.nfa.thompson.state.State.TheVariants.{Match, Fail}
use Rattle.automata_base.specs.ByteClasses.Classes.{stride_of}
use Rattle.automata_determinize.specs.Powersets.Accounting.{fixed_cost, max_cost, start_slots}
use Rattle.automata_config.specs.Options.{Options, starts_for_each_pattern_of}
use Rattle.automata_config.specs.Settled.{Settled}
use Rattle.automata_config.specs.Settling.{IsSettled}
use Rattle.automata_hybrid.specs.Machines.Machine.{Machine, marked}

-- the machine of an automaton, its settings, and what was settled
abbrev pub built_machine : Options → Automaton → Settled → Machine
built_machine o a s = record {
  nfa = a;
  config = o;
  classes = s.classes;
  quits = s.quits;
  capacity = s.capacity;
  stride = stride_of s.classes;
  slots = start_slots a (starts_for_each_pattern_of o);
  template = marked s.classes s.quits (stride_of s.classes) 256;
  greatest = max_cost a;
  fixed = fixed_cost a;
}

-- the machine is built from an automaton with these settings
abbrev pub Builds : Options → Automaton → Machine → Type 0
Builds o a m = (s : Settled) × IsSettled o a s × (m ≡ built_machine o a s)

-- the automaton with one state, the default flags, and these starts of its patterns
abbrev pub one_state : State → List ℕ → Automaton
one_state state starts =
    automaton (state ∷ []) 0 0 starts (record { utf8 = false; reverse = false; line_terminator = 10 })

-- the automaton with one pattern, which matches everywhere
abbrev pub always_matching : Automaton
always_matching = one_state (Match 0) (0 ∷ [])

-- the automaton with no patterns, which matches nowhere
abbrev pub never_matching : Automaton
never_matching = one_state Fail []
