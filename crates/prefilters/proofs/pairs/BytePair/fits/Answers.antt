use Rattle.std.proofs.Common.{◌≡◌, subst, arith}
use Rattle.std.specs.Prelude.{bit_or, slice_index}
use Rattle.prefilters.proofs.Covering.{both_set}
use Rattle.prefilters.proofs.pairs.BytePair.fits.Goals as goal

pub returns : goal.returns
returns c = λ k few fit.
    both_set c.equal-first.result c.equal.result k
    (c.equal-first.ensures k few (subst (λ j. bit_or (slice_index c.args.hay.now j) c.args.fold ≡ c.args.self.first)
    (omega arith) fit.first))
    (c.equal.ensures k few (subst (λ j. bit_or (slice_index c.args.hay.now j) c.args.fold ≡ c.args.self.second)
    (omega arith) fit.second))
