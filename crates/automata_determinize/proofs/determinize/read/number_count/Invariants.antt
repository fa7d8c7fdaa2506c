use Rattle.std.proofs.Common.{◌≡◌, ◌+◌, ◌≤◌, length, drop}
use Rattle.automata_determinize.specs.Powersets.Code.{numbers}
use Rattle.automata_determinize.proofs.determinize.read.number_count.Given as goal

abbrev pub invariant-loop-byte : goal.invariant-loop-byte
invariant-loop-byte l = record {
  counted : l.count + length (numbers (drop l.byte-index l.bytes)) ≡ length (numbers l.bytes);
  few : l.count ≤ l.byte-index;
}
