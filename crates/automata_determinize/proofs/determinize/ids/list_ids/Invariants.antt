use Rattle.std.proofs.Common.{◌≡◌, ◌≤◌, ◌+◌, ◌++◌, length, vec_len, vec_capacity}
use Rattle.automata_determinize.proofs.determinize.ids.list_ids.Given as goal

abbrev pub invariant-loop-id : goal.invariant-loop-id
invariant-loop-id l = record {
  items : l.out.items ++ l.id-iterator ≡ l.fn.ids;
  room : vec_len l.out + length l.id-iterator ≤ vec_capacity l.out;
}
