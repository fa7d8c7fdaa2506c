use Rattle.prefilters.proofs.Covering.{fits_more}
use Rattle.prefilters.proofs.pairs.any_fits.Goals as goal

pub loop-pair-preserved : goal.loop-pair-preserved
loop-pair-preserved c =
    fits_more c.args.fold c.args.pairs.now c.args.hay.now c.args.at c.loop-pair.mask c.fits-mask.result
    c.loop-pair.pair-index _ c.loop-pair-test.true c.fits-mask.ensures c.loop-pair.invariant
