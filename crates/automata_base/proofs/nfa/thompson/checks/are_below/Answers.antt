use Rattle.std.proofs.Common.{sym, ◌∙◌, refl}
use Rattle.automata_base.specs.Nfas.Errors.{states_below}
use Rattle.automata_base.specs.Nfas.Errors.{state_below}
use Rattle.automata_base.proofs.Powersets.ListTests.{test_fails, test_next}
use Rattle.automata_base.proofs.nfa.thompson.checks.are_below.Goals as goal

pub returns-then-not-is_state_below : goal.returns-then-not-is_state_below
returns-then-not-is_state_below c =
    test_fails (states_below c.args.n) (state_below c.args.n) c.args.states.now c.loop-i.i c.index-states-i.result
    (states_below c.args.n c.args.states.now) (λ y ys. refl) c.loop-i-test.true c.index-states-i.is
    (sym c.is_state_below.ensures ∙ c.if-not-is_state_below.true) c.loop-i.invariant

pub loop-i-preserved : goal.loop-i-preserved
loop-i-preserved c =
    test_next (states_below c.args.n) (state_below c.args.n) c.args.states.now c.loop-i.i c.index-states-i.result
    (states_below c.args.n c.args.states.now) (λ y ys. refl) c.loop-i-test.true c.index-states-i.is
    (sym c.is_state_below.ensures ∙ c.if-not-is_state_below.false) c.loop-i.invariant
