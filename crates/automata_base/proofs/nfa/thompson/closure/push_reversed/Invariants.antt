use Rattle.std.proofs.Common.{◌≡◌, ◌+◌, ◌≤◌, ◌++◌, length, reverse, drop, vec_len, vec_capacity}
use Rattle.automata_base.proofs.nfa.thompson.closure.push_reversed.Given as goal

abbrev pub invariant-loop-i : goal.invariant-loop-i
invariant-loop-i l =
    (l.stack.items ≡ l.initial.stack.items ++ reverse (drop l.i l.states)) ×
    (vec_len l.stack + l.i ≡ vec_len l.initial.stack + length l.states) ×
    (vec_capacity l.initial.stack ≤ vec_capacity l.stack)
