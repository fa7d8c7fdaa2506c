use Rattle.std.proofs.Common.{◌≡◌, ◌++◌, take}
use Rattle.std.specs.List.{flat_map}
use Rattle.automata_determinize.specs.Powersets.Code.{four_bytes}
use Rattle.automata_determinize.proofs.determinize.write.push_u32s.Given as goal

abbrev pub invariant-loop-n : goal.invariant-loop-n
invariant-loop-n l = l.out.items ≡ l.fn.out.items ++ flat_map four_bytes (take l.n-index l.numbers)
