use Rattle.std.proofs.lemmas.Bool.{eqb-true}
use Rattle.automata_hybrid.specs.Private.Fast.SelfLoops.{HasEither}
use Rattle.automata_hybrid.proofs.Fast.Lanes.{all_near}
use Rattle.automata_hybrid.proofs.search.fast.lanes.are_in_either.Goals as goal

pub returns : goal.returns
returns c = λ none.
    all_near c.args.way (HasEither c.args.first c.args.second) c.args.at c.outside_both.result c.args.bytes.now
    c.outside_both.ensures.near
    (eqb-true c.outside_both.result 0 none)
