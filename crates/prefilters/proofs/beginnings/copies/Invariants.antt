use Rattle.std.proofs.Common.{◌≡◌, map, take}
use Rattle.regex_hir.specs.Meaning.{meaning}
use Rattle.prefilters.proofs.beginnings.copies.Given as goal

abbrev pub invariant-loop-at : goal.invariant-loop-at
invariant-loop-at l = map meaning l.all.items ≡ map meaning (take l.at l.subs)
