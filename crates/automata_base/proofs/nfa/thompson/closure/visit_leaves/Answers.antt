use Rattle.std.proofs.Common.{arith, ap, sym, ◌∙◌, subst, refl, ◌++◌, ◌+◌, [], length, drop, append-nil}
use Rattle.std.proofs.lemmas.List.{drop_all}
use Rattle.automata_base.specs.Nfas.Nodes.{nfa_of}
use Rattle.automata_base.specs.Powersets.Closure.{IsUnderWay}
use Rattle.automata_base.proofs.Powersets.Keeping.{below_at, next_drop}
use Rattle.automata_base.proofs.Powersets.Leaves.{leaf_on, extends_on}
use Rattle.automata_base.proofs.Powersets.Walking.{read_children}
use Rattle.automata_base.proofs.Powersets.Walking.{state_read}
use Rattle.automata_base.proofs.nfa.thompson.closure.visit_leaves.Goals as goal

pub state_at-requires-clause-id : goal.state_at-requires-clause-id
state_at-requires-clause-id c =
    let below =
    below_at c.args.list.now (length c.args.nfa.now.states) c.loop-i.i c.index-list-i.result c.requires.below
    c.loop-i-test.true c.index-list-i.is in
    let same = ap length c.states-states.ensures.same in
    omega (arith, below, same)

pub insert-added-requires : goal.insert-added-requires
insert-added-requires c =
    let below =
    below_at c.args.list.now (length c.args.nfa.now.states) c.loop-i.i c.index-list-i.result c.requires.below
    c.loop-i-test.true c.index-list-i.is in
    omega (arith, below, c.loop-i.invariant.whole)

pub loop-i-preserved : goal.loop-i-preserved
loop-i-preserved c =
    let below =
    below_at c.args.list.now (length c.args.nfa.now.states) c.loop-i.i c.index-list-i.result c.requires.below
    c.loop-i-test.true c.index-list-i.is in
    let next = next_drop c.args.list.now c.loop-i.i c.index-list-i.result c.loop-i-test.true c.index-list-i.is in
    record {
      way = λ truth roots tail u.
          leaf_on (nfa_of c.args.nfa.now) truth roots (drop (c.loop-i.i + 1) c.args.list.now ++ tail) c.loop-i.set.items
          c.insert-added.new.self.items
          c.index-list-i.result c.insert-added.result
          (sym (read_children c.args.nfa.now truth c.index-list-i.result c.state_at.result.now below
          (state_read c.args.nfa.now.states c.index-list-i.result c.state_at.result.now c.state_at.ensures.same))
          ∙ c.if-not-is_leaf.ensures refl truth)
          c.insert-added.ensures.new c.insert-added.ensures.added c.insert-added.ensures.had
          c.insert-added.ensures.unchanged
          (subst (λ z. IsUnderWay (nfa_of c.args.nfa.now) truth roots (z ++ tail) c.loop-i.set.items) next
          (c.loop-i.invariant.way truth roots tail u));
      grown =
          extends_on c.args.set.now.items c.loop-i.set.items c.insert-added.new.self.items c.index-list-i.result
          c.insert-added.result
          c.insert-added.ensures.added c.insert-added.ensures.unchanged c.loop-i.invariant.grown;
      whole = c.insert-added.ensures.capacity ∙ c.loop-i.invariant.whole;
    }

pub loop-i-init : goal.loop-i-init
loop-i-init c =
    record {
      way = λ truth roots tail u. u;
      grown = ([], sym (append-nil c.args.set.now.items));
      whole = c.requires.whole;
    }

pub returns-clause-way : goal.returns-clause-way
returns-clause-way c = λ truth roots tail u.
    subst (λ z. IsUnderWay (nfa_of c.args.nfa.now) truth roots (z ++ tail) c.loop-i.set.items)
    (drop_all c.loop-i.i c.args.list.now c.loop-i-test.false
    ∙ sym (drop_all (length c.args.list.now) c.args.list.now (omega arith)))
    (c.loop-i.invariant.way truth roots tail u)
