use Rattle.std.proofs.lemmas.Bool.{eqb-true}
use Rattle.automata_hybrid.specs.Private.Fast.SelfLoops.{HasByte}
use Rattle.automata_hybrid.proofs.Fast.Lanes.{all_near}
use Rattle.automata_hybrid.proofs.search.fast.lanes.are_in.Goals as goal

pub returns : goal.returns
returns c = λ none.
    all_near c.args.way (HasByte c.args.range) c.args.at c.outside_at.result c.args.bytes.now c.outside_at.ensures.near
    (eqb-true c.outside_at.result 0 none)
