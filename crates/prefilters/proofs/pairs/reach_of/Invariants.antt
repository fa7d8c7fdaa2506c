use Rattle.std.proofs.Common.{ℕ, ◌<◌, ◌≤◌, get_or}
use Rattle.prefilters.specs.declared.pairs.BytePair.{BytePair}
use Rattle.prefilters.proofs.pairs.reach_of.Given as goal

abbrev pub invariant-loop-pair : goal.invariant-loop-pair
invariant-loop-pair l =
    (n : ℕ) (d : BytePair) → n < l.pair-index
    → ((get_or l.pairs n d).first_at ≤ l.reach) × ((get_or l.pairs n d).second_at ≤ l.reach)
