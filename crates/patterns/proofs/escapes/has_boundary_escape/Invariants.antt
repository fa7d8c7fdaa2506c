use Rattle.std.proofs.Common.{◌≡◌, ◌||◌, drop}
use Rattle.patterns.specs.Faults.{has_boundary_escape, has_escape_behind}
use Rattle.patterns.proofs.escapes.has_boundary_escape.Given as goal

abbrev pub invariant-loop-byte : goal.invariant-loop-byte
invariant-loop-byte l =
    (l.found || has_escape_behind l.behind (drop l.byte-index l.text)) ≡ has_boundary_escape l.text
