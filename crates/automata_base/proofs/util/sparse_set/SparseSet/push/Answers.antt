use Rattle.std.proofs.Common.{rules, arith, ℕ, ◌≡◌, ◌+◌, ◌<◌, ◌≤◌, length, set, get_or, sym, subst}
use Rattle.automata_base.proofs.Powersets.Sparsely.{room, below_more, back_more, items_more, lengths_more}
use Rattle.automata_base.proofs.util.sparse_set.SparseSet.push.Goals as goal

pub index_mut-requires : goal.index_mut-requires
index_mut-requires c =
    let free : c.self.inside.len < length c.self.inside.dense.items =
    room c.self.inside c.args.self.now c.args.id c.self.invariant c.self.view_is c.requires.below c.requires.new in
    search (rules, free)

pub overflow_cast-i : goal.overflow_cast-i
overflow_cast-i c =
    let free : c.self.inside.len < length c.self.inside.dense.items =
    room c.self.inside c.args.self.now c.args.id c.self.invariant c.self.view_is c.requires.below c.requires.new in
    let small : length c.self.inside.dense.items ≤ 4294967296 = c.self.invariant.small in
    search (rules, free, small)

pub invariant_of-self : goal.invariant_of-self
invariant_of-self c =
    let new = c.requires.new in
    let free : c.self.inside.len < length c.self.inside.dense.items =
    room c.self.inside c.args.self.now c.args.id c.self.invariant c.self.view_is c.requires.below new in
    let (one, two) =
    lengths_more c.self.inside c.args.self.now c.args.id c.self.invariant c.self.view_is c.requires.below new in
    let at : c.args.id ≡ c.as_usize.result = sym c.as_usize.ensures.value in
    let two' : length (set c.self.inside.sparse.items c.as_usize.result c.self.inside.len)
    ≡ length c.self.inside.dense.items =
    subst (λ z. length (set c.self.inside.sparse.items z c.self.inside.len) ≡ length c.self.inside.dense.items) at
    two in
    let small : length c.self.inside.dense.items ≤ 4294967296 = c.self.invariant.small in
    record {
      within = omega arith;
      same = omega arith;
      small = omega arith;
      below = below_more c.self.inside c.args.self.now c.args.id c.self.invariant c.self.view_is c.requires.below new;
      back =
          subst (λ z. (k : ℕ) → k < c.self.inside.len + 1
          → get_or (set c.self.inside.sparse.items z c.self.inside.len)
          (get_or (set c.self.inside.dense.items c.self.inside.len c.args.id) k 0) 0 ≡ k)
          at (back_more c.self.inside c.args.self.now c.args.id c.self.invariant c.self.view_is c.requires.below new);
    }

pub returns-clause-added : goal.returns-clause-added
returns-clause-added c =
    items_more c.self.inside c.args.self.now c.args.id c.self.invariant c.self.view_is c.requires.below c.requires.new
