use Rattle.std.proofs.Common.{◌≡◌, length}
use Rattle.automata_base.specs.Lists.{all_below}
use Rattle.automata_determinize.proofs.determinize.ids.are_below.Given as goal

abbrev pub invariant-rest : goal.invariant-rest
invariant-rest l = all_below l.len l.fn.ids ≡ all_below l.len l.rest

abbrev pub decreases-rest : goal.decreases-rest
decreases-rest l = length l.rest
