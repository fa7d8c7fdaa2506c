use Rattle.std.proofs.Common.{◌≡◌, ◌+◌, ◌≤◌, drop}
use Rattle.lazydfa_c.specs.Limits.{class_escapes, escapes_behind}
use Rattle.lazydfa_c.proofs.limits.class_escapes.Given as goal

abbrev pub invariant-loop-byte : goal.invariant-loop-byte
invariant-loop-byte l =
    (l.count ≤ l.byte-index)
    × (l.count + escapes_behind l.behind (drop l.byte-index l.text) ≡ class_escapes l.text)
