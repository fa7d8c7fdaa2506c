use Rattle.std.proofs.Common.{◌≡◌, ◌≤◌, ◌-◌, ◌++◌, drop, length}
use Rattle.meta.specs.Names.{group_names}
use Rattle.lgrep.specs.Templates.{group_for, pieces_of}
use Rattle.lgrep.proofs.template.Scope.pieces_of.Given as goal

abbrev pub invariant-loop-at : goal.invariant-loop-at
invariant-loop-at l =
    (l.at ≤ length l.template)
    × (l.pieces.items
    ++ pieces_of (group_for (group_names l.self.programs.now l.self.pattern) l.self.before) (drop l.at l.template) 0
    ≡ pieces_of (group_for (group_names l.self.programs.now l.self.pattern) l.self.before) l.template 0)

abbrev pub decreases-loop-at : goal.decreases-loop-at
decreases-loop-at l = length l.template - l.at
