use Rattle.std.proofs.Common.{arith}
use Rattle.automata_hybrid.proofs.Fast.SelfLoops.{loop_along}
use Rattle.automata_hybrid.proofs.search.fast.follow.follow_loop.Goals as goal

pub returns-clause-within : goal.returns-clause-within
returns-clause-within c = omega (arith, c.follow_self_loop.ensures.within, c.bytes_from.ensures.long, c.requires.within)

pub returns-clause-loops : goal.returns-clause-loops
returns-clause-loops c = loop_along c.bytes_from.ensures.units c.follow_self_loop.ensures
