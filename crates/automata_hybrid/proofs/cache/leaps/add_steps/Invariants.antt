use Rattle.std.proofs.Common.{◌≡◌, ◌+◌, ◌*◌, length}
use Rattle.automata_hybrid.specs.Private.Cache.Leaps.{AreLeapSteps}
use Rattle.automata_hybrid.proofs.cache.leaps.add_steps.Given as goal

abbrev pub invariant-loop-class : goal.invariant-loop-class
invariant-loop-class l = record {
  long : length l.steps.items ≡ l.row * l.classes + l.class;
  steps : AreLeapSteps l.table l.classes l.steps.items;
}
