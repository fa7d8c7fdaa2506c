use Rattle.std.proofs.Common.{sym, ◌∙◌, refl, ltb}
use Rattle.automata_base.specs.Nfas.Errors.{transitions_below}
use Rattle.automata_base.specs.declared.nfa.thompson.state.Transition.{Transition}
use Rattle.automata_base.proofs.Powersets.ListTests.{test_fails, test_next}
use Rattle.automata_base.proofs.nfa.thompson.checks.targets_below.Goals as goal

pub returns-then-not-next_below : goal.returns-then-not-next_below
returns-then-not-next_below c =
    test_fails (transitions_below c.args.n) (λ (t : Transition). ltb t.next c.args.n) c.args.xs.now c.loop-i.i
    c.index-xs-i.result (transitions_below c.args.n c.args.xs.now) (λ y ys. refl) c.loop-i-test.true c.index-xs-i.is
    (sym c.next_below.ensures ∙ c.if-not-next_below.true) c.loop-i.invariant

pub loop-i-preserved : goal.loop-i-preserved
loop-i-preserved c =
    test_next (transitions_below c.args.n) (λ (t : Transition). ltb t.next c.args.n) c.args.xs.now c.loop-i.i
    c.index-xs-i.result (transitions_below c.args.n c.args.xs.now) (λ y ys. refl) c.loop-i-test.true c.index-xs-i.is
    (sym c.next_below.ensures ∙ c.if-not-next_below.false) c.loop-i.invariant
