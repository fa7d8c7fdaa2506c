use Rattle.std.proofs.Common.{◌≤◌, ◌-◌}
use Rattle.automata_hybrid.specs.Private.Fast.Leaps.{IsLeapt}
use Rattle.automata_hybrid.proofs.search.fast.leap.leap_by.Given as goal

abbrev pub invariant-leaps : goal.invariant-leaps
invariant-leaps l = record {
  leapt : IsLeapt l.cache.store.table l.leaps.shape l.way l.bytes l.index l.at l.row;
  few : l.again ≤ 32;
}

abbrev pub decreases-leaps : goal.decreases-leaps
decreases-leaps l = l.end - l.at
