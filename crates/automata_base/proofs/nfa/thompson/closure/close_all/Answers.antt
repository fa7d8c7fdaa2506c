use Rattle.std.proofs.Common.{List, ℕ, ◌++◌, ◌+◌, drop, subst}
use Rattle.std.proofs.lemmas.List.{drop_all}
use Rattle.automata_base.specs.Nfas.Nodes.{nfa_of}
use Rattle.automata_base.specs.Haystacks.LookSets.{truth_of}
use Rattle.automata_base.specs.Powersets.Closure.{IsUnderWay}
use Rattle.automata_base.proofs.Powersets.Keeping.{next_drop}
use Rattle.automata_base.proofs.nfa.thompson.closure.close_all.Goals as goal

pub returns-clause-way : goal.returns-clause-way
returns-clause-way c = λ all tail h.
    subst (λ (s : List ℕ). IsUnderWay (nfa_of c.args.nfa.now) (truth_of c.args.looks) all (s ++ tail)
    c.loop-root.set.items)
    (drop_all c.loop-root.root-index c.args.roots.now c.loop-root-test.false) (c.loop-root.invariant.0 all tail h)

pub loop-root-preserved : goal.loop-root-preserved
loop-root-preserved c = (
  λ all tail h.
      c.close_one.ensures.way all (drop (c.loop-root.root-index + 1) c.args.roots.now ++ tail)
      (subst (λ (s : List ℕ). IsUnderWay (nfa_of c.args.nfa.now) (truth_of c.args.looks) all (s ++ tail)
      c.loop-root.set.items)
      (next_drop c.args.roots.now c.loop-root.root-index c.root-item.result c.loop-root-test.true c.root-item.is)
      (c.loop-root.invariant.0 all tail h)),
  c.close_one.ensures.room,
)
