use Rattle.std.proofs.Common.{◌≡◌, ◌+◌, ◌-◌, ◌^◌, ◌≤◌, drop, min, sum_by}
use Rattle.lazydfa_c.specs.Tables.{state_size, table_size}
use Rattle.lazydfa_c.proofs.tables.table_size.Given as goal

abbrev pub invariant-loop-state : goal.invariant-loop-state
invariant-loop-state l =
    (l.size ≤ 2 ^ 64 - 1)
    × (min (l.size + sum_by state_size (drop l.state-index l.nfa.states)) (2 ^ 64 - 1) ≡ table_size l.nfa.states)
