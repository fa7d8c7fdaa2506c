use Rattle.std.proofs.Common.{◌≡◌, ◌++◌, map}
use Rattle.lgrep.specs.Around.{held_line, near_lines}
use Rattle.lgrep.proofs.around.push_held.Given as goal

abbrev pub invariant-loop-line : goal.invariant-loop-line
invariant-loop-line l =
    l.shown.items ≡ l.fn.shown.items ++ near_lines l.fn.show (map held_line (map (λ line. line.now) l.yielded))
