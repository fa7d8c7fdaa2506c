use Rattle.std.proofs.Common.{◌<◌, length}
use Rattle.prefilters.proofs.inner.longest_literal.Given as goal

abbrev pub invariant-loop-at : goal.invariant-loop-at
invariant-loop-at l = l.best < length l.parts
