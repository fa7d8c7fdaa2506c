use Rattle.std.proofs.Common.{sym, ◌∙◌, refl}
use Rattle.automata_base.specs.Nfas.Errors.{states_ordered, state_ordered}
use Rattle.automata_base.proofs.Powersets.ListTests.{test_fails, test_next}
use Rattle.automata_base.proofs.nfa.thompson.checks.are_ordered.Goals as goal

pub returns-then-not-is_state_ordered : goal.returns-then-not-is_state_ordered
returns-then-not-is_state_ordered c =
    test_fails states_ordered state_ordered c.args.states.now c.loop-i.i c.index-states-i.result
    (states_ordered c.args.states.now) (λ y ys. refl) c.loop-i-test.true c.index-states-i.is
    (sym c.is_state_ordered.ensures ∙ c.if-not-is_state_ordered.true) c.loop-i.invariant

pub loop-i-preserved : goal.loop-i-preserved
loop-i-preserved c =
    test_next states_ordered state_ordered c.args.states.now c.loop-i.i c.index-states-i.result
    (states_ordered c.args.states.now) (λ y ys. refl) c.loop-i-test.true c.index-states-i.is
    (sym c.is_state_ordered.ensures ∙ c.if-not-is_state_ordered.false) c.loop-i.invariant
