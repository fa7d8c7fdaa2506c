use Rattle.std.proofs.Common.{arith}
use Rattle.std.proofs.Math.Nat.{pow-le-pow_left}
use Rattle.automata_hybrid.proofs.cache.leaps.reach_for.Goals as goal

pub returns-then-classes-le5-clause-narrow : goal.returns-then-classes-le5-clause-narrow
returns-then-classes-le5-clause-narrow c = λ _. omega (arith, pow-le-pow_left c.if-classes-le5.true 4)

pub returns-then-classes-le10-clause-narrow : goal.returns-then-classes-le10-clause-narrow
returns-then-classes-le10-clause-narrow c = λ _. omega (arith, pow-le-pow_left c.if-classes-le10.true 3)
