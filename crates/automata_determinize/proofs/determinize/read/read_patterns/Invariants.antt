use Rattle.std.proofs.Common.{◌≡◌, take}
use Rattle.automata_determinize.specs.Powersets.Code.{patterns_of}
use Rattle.automata_determinize.proofs.determinize.read.read_patterns.Given as goal

abbrev pub invariant-loop-i : goal.invariant-loop-i
invariant-loop-i l = l.out.items ≡ take l.i (patterns_of l.bytes)
