use Rattle.std.proofs.Common.{subst, ℕ, ◌<◌}
use Rattle.automata_base.specs.Lists.{In, Distinct}
use Rattle.automata_base.specs.Powersets.Members.{Members}
use Rattle.automata_base.proofs.Powersets.Holding.{members_below, members_distinct}
use Rattle.automata_base.proofs.util.sparse_set.SparseSet.as_slice.Goals as goal

pub returns-clause-below : goal.returns-clause-below
returns-clause-below c =
    subst (λ (m : Members). (q : ℕ) → In q m.items → q < m.capacity) c.self.view_is
    (members_below c.self.inside.dense.items c.self.inside.sparse.items c.self.inside.len c.self.invariant.within
    c.self.invariant.below c.self.invariant.back)

pub returns-clause-distinct : goal.returns-clause-distinct
returns-clause-distinct c =
    subst (λ (m : Members). Distinct m.items) c.self.view_is
    (members_distinct c.self.inside.dense.items c.self.inside.sparse.items c.self.inside.len c.self.invariant.within
    c.self.invariant.below c.self.invariant.back)
