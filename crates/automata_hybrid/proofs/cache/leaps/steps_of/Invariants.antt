use Rattle.std.proofs.Common.{◌≡◌, ◌*◌, length}
use Rattle.automata_hybrid.specs.Private.Cache.Leaps.{AreLeapSteps}
use Rattle.automata_hybrid.proofs.cache.leaps.steps_of.Given as goal

abbrev pub invariant-loop-row : goal.invariant-loop-row
invariant-loop-row l = record {
  long : length l.steps.items ≡ l.row * l.classes;
  steps : AreLeapSteps l.table l.classes l.steps.items;
}
