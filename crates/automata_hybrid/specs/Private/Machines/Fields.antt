-- What contracts see of a DFA, from its fields.
use Rattle.automata_base.specs.ByteClasses.Classes.{stride_of}
use Rattle.automata_determinize.specs.Powersets.Accounting.{fixed_cost, max_cost, start_slots}
use Rattle.automata_config.specs.Options.{starts_for_each_pattern_of}
use Rattle.automata_hybrid.specs.Machines.Machine.{Machine, marked}
use Rattle.automata_hybrid.specs.declared.dfa.DFA.TheInside.{Inside}

-- the machine of a DFA's parts, with the numbers that its caches need
abbrev pub machine_of : Inside → Machine
machine_of d = record {
  nfa = d.nfa;
  config = d.config;
  classes = d.classes;
  quits = d.quits;
  capacity = d.capacity;
  stride = stride_of d.classes;
  slots = start_slots d.nfa (starts_for_each_pattern_of d.config);
  template = marked d.classes d.quits (stride_of d.classes) 256;
  greatest = max_cost d.nfa;
  fixed = fixed_cost d.nfa;
}
