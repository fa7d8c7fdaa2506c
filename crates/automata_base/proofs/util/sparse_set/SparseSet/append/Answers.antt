use Rattle.std.proofs.Common.{rules, arith, ℕ, ◌≡◌, ◌<◌, ◌≤◌, ◌+◌, ◌++◌, length, get_or, set, sym, ap, ◌∙◌, subst}
use Rattle.std.proofs.lemmas.List.{length-set}
use Rattle.automata_base.specs.Powersets.Members.{Members}
use Rattle.automata_base.proofs.Powersets.Appending.{set_fits, set_below, set_id, set_init, set_next}
use Rattle.automata_base.proofs.util.sparse_set.SparseSet.append.Goals as goal

pub put_from-requires : goal.put_from-requires
put_from-requires c =
    let fits : c.self.inside.len + length c.args.list.now ≤ length c.self.inside.dense.items =
    set_fits c.self.inside c.args.self.now c.args.list.now c.self.invariant c.self.view_is c.requires.below
    c.requires.distinct c.requires.new in
    search (rules, fits)

pub loop-i-init : goal.loop-i-init
loop-i-init c =
    let taken = c.put_from.ensures.taken ∙ ap (λ (m : Members). m.items ++ c.args.list.now) c.self.view_is in
    let long = c.put_from.ensures.long ∙ ap (λ (m : Members). m.capacity) c.self.view_is in
    record {
      taken = taken;
      long = long;
      same = c.self.invariant.same ∙ ap (λ (m : Members). m.capacity) c.self.view_is;
      back =
          set_init c.self.inside c.args.self.now c.args.list.now c.self.invariant c.self.view_is c.requires.below
          c.requires.distinct c.requires.new
          c.put_from.new.out.items taken long;
    }

pub index_mut-requires : goal.index_mut-requires
index_mut-requires c =
    let low =
    set_id c.self.inside c.args.self.now c.args.list.now c.self.invariant c.self.view_is c.requires.below
    c.requires.distinct c.requires.new
    c.loop-i.self-inside.dense.items c.loop-i.invariant.taken c.loop-i.invariant.long c.loop-i.i c.index-id.result.now
    c.loop-i-test.true c.index-id.ensures in
    let long = c.loop-i.self-inside.sparse.ok.0 in
    omega (arith, low, long, c.loop-i.invariant.same, c.as_usize.ensures.value)

pub loop-i-preserved : goal.loop-i-preserved
loop-i-preserved c =
    let sparse = c.loop-i.self-inside.sparse.items in
    let dense = c.loop-i.self-inside.dense.items in
    record {
      taken = c.loop-i.invariant.taken;
      long = c.loop-i.invariant.long;
      same = length-set sparse c.as_usize.result c.loop-i.i ∙ c.loop-i.invariant.same;
      back =
          subst (λ z. (k : ℕ) → k < c.loop-i.i + 1 → get_or (set sparse z c.loop-i.i) (get_or dense k 0) 0 ≡ k)
          (sym c.as_usize.ensures.value)
          (set_next c.self.inside c.args.self.now c.args.list.now c.self.invariant c.self.view_is c.requires.below
          c.requires.distinct c.requires.new
          dense c.loop-i.invariant.taken c.loop-i.invariant.long sparse c.loop-i.i c.index-id.result.now
          c.loop-i-test.true c.index-id.ensures
          c.loop-i.invariant.same c.loop-i.invariant.back);
    }

pub invariant_of-self : goal.invariant_of-self
invariant_of-self c =
    let fits =
    set_fits c.self.inside c.args.self.now c.args.list.now c.self.invariant c.self.view_is c.requires.below
    c.requires.distinct c.requires.new in
    let view = ap (λ (m : Members). m.capacity) c.self.view_is in
    record {
      within = omega (arith, fits, view, c.loop-i.invariant.long);
      same = c.loop-i.invariant.same ∙ sym c.loop-i.invariant.long;
      small = omega (arith, view, c.loop-i.invariant.long, c.self.invariant.small);
      below =
          set_below c.self.inside c.args.self.now c.args.list.now c.self.invariant c.self.view_is c.requires.below
          c.requires.distinct c.requires.new
          c.loop-i.self-inside.dense.items c.loop-i.invariant.taken c.loop-i.invariant.long;
      back = λ k l. c.loop-i.invariant.back k (omega (arith, l, c.loop-i-test.false));
    }

pub returns-clause-added : goal.returns-clause-added
returns-clause-added c = c.loop-i.invariant.taken
