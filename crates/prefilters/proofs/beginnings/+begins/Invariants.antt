use Rattle.std.proofs.Common.{map, take}
use Rattle.regex_hir.specs.Meaning.{meaning}
use Rattle.prefilters.specs.Beginnings.{AreBeginnings}
use Rattle.prefilters.proofs.beginnings.+begins.Given as goal

abbrev pub invariant-beginnings-loop-at : goal.invariant-beginnings-loop-at
invariant-beginnings-loop-at l = AreBeginnings (map meaning (take l.at l.subs)) (map meaning l.all.items)
