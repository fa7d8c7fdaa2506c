use Rattle.automata_hybrid.proofs.Fast.Lanes.{mask_near, mask_small}
use Rattle.automata_hybrid.proofs.search.fast.lanes.outside.Goals as goal

pub returns-clause-small : goal.returns-clause-small
returns-clause-small c = mask_small c.args.low c.args.size c.args.bytes.now c.args.from c.requires

pub returns-clause-near : goal.returns-clause-near
returns-clause-near c = mask_near c.args.low c.args.size c.args.bytes.now c.args.from c.requires
