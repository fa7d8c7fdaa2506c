use Rattle.std.proofs.Common.{◌≤◌, ◌≡◌, length, vec_capacity}
use Rattle.automata_base.specs.Nfas.Nfa.{accepts}
use Rattle.automata_base.specs.Nfas.Nodes.{nfa_of}
use Rattle.automata_base.specs.Powersets.Members.{AreMarks}
use Rattle.automata_determinize.proofs.Powersets.Keeping.{Patterns}
use Rattle.automata_determinize.proofs.determinize.lists.read_patterns.Given as goal

abbrev pub invariant-loop-i : goal.invariant-loop-i
invariant-loop-i l = record {
  patterns : Patterns (accepts (nfa_of l.nfa)) l.list l.i (length l.nfa.start_pattern) l.patterns.items;
  capacity : vec_capacity l.fn.patterns ≤ vec_capacity l.patterns;
  marks : AreMarks l.patterns.items l.marks;
  whole : l.marks.capacity ≡ l.fn.marks.capacity;
}
