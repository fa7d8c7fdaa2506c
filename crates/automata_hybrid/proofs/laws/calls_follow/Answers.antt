use Rattle.automata_hybrid.proofs.Known.CallsFollow.{calls_follow}
use Rattle.automata_hybrid.proofs.Known.Bounds.{dfa_bounds}
use Rattle.automata_hybrid.proofs.Searches.Skips.{skips_or_not}
use Rattle.automata_hybrid.proofs.laws.calls_follow.Goals as goal

pub returns : goal.returns
returns c =
    calls_follow c.args.dfa.now
    (dfa_bounds c.args.dfa.now c.states_are_bounded.ensures.machine.sizes.greatest
    c.states_are_bounded.ensures.machine.enough c.states_are_bounded.ensures.own)
    (skips_or_not c.skips-skips.result c.skips-skips.ensures.yes c.skips-skips.ensures.no)
