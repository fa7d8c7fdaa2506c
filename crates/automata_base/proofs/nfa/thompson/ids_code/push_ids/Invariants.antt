use Rattle.std.proofs.Common.{ℕ, ◌≡◌, ◌<◌, ◌++◌, drop, get_or, ◌≤◌, ◌+◌, length, vec_len, vec_capacity}
use Rattle.automata_base.specs.Powersets.Code.{ids_code}
use Rattle.automata_base.specs.Powersets.Powerset.{IsId}
use Rattle.automata_base.proofs.nfa.thompson.ids_code.push_ids.Given as goal

abbrev pub invariant-loop-id : goal.invariant-loop-id
invariant-loop-id l = record {
  code : l.out.items ++ ids_code l.before (drop l.id-index l.ids) ≡ l.fn.out.items ++ ids_code l.fn.before l.ids;
  ids : (k d : ℕ) → k < l.id-index → IsId (get_or l.ids k d);
  left : l.left + l.id-index ≡ length l.ids;
  room : vec_len l.out + l.left ≤ vec_capacity l.out;
}
