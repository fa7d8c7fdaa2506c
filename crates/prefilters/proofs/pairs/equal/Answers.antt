use Rattle.prefilters.proofs.Lanes.{mask_set}
use Rattle.prefilters.proofs.pairs.equal.Goals as goal

pub returns : goal.returns
returns c = mask_set c.args.fold c.args.byte c.args.hay.now c.args.from c.requires
