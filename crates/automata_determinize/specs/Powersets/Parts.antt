-- The powerset state of six parts.
use Rattle.automata_base.specs.Powersets.Powerset.{Powerset}
use Rattle.automata_determinize.specs.declared.determinize.state.Parts.{Parts}

-- the state of six parts
abbrev pub powerset_of : Parts → Powerset
powerset_of p = record {
  nfa = p.nfa.items;
  patterns = p.patterns.items;
  known = p.known;
  needed = p.needed;
  word = p.word;
  half = p.half;
}
