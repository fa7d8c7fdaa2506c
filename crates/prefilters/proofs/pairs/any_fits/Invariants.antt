use Rattle.std.proofs.Common.{ℕ, ◌≡◌, ◌+◌, ◌<◌, get_or}
use Rattle.std.specs.Int.{bit_at}
use Rattle.prefilters.specs.Pairs.{FitsAt}
use Rattle.prefilters.specs.declared.pairs.BytePair.{BytePair}
use Rattle.prefilters.proofs.pairs.any_fits.Given as goal

abbrev pub invariant-loop-pair : goal.invariant-loop-pair
invariant-loop-pair l =
    (n : ℕ) (pair : BytePair) (k : ℕ) → n < l.pair-index → get_or l.pairs n pair ≡ pair → k < 64
    → FitsAt l.fold pair l.hay (l.at + k) → bit_at l.mask k ≡ 1
