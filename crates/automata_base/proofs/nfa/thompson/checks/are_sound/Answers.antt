use Rattle.std.proofs.Common.{refl}
use Rattle.automata_base.specs.Nfas.Errors.{states_below, states_ordered, matches_below}
use Rattle.automata_base.specs.Nfas.Errors.{state_below, state_ordered, match_below}
use Rattle.automata_base.proofs.Powersets.ListTests.{test_next}
use Rattle.automata_base.proofs.nfa.thompson.checks.are_sound.Goals as goal

pub loop-i-preserved : goal.loop-i-preserved
loop-i-preserved c = record {
  below =
      test_next (states_below c.args.n) (state_below c.args.n) c.args.states.now c.loop-i.i c.index-states-i.result
      (states_below c.args.n c.args.states.now) (λ y ys. refl) c.loop-i-test.true c.index-states-i.is
      (c.is_sound.ensures.below c.if-not-is_sound.false) c.loop-i.invariant.below;
  ordered =
      test_next states_ordered state_ordered c.args.states.now c.loop-i.i c.index-states-i.result
      (states_ordered c.args.states.now) (λ y ys. refl) c.loop-i-test.true c.index-states-i.is
      (c.is_sound.ensures.ordered c.if-not-is_sound.false) c.loop-i.invariant.ordered;
  matches =
      test_next (matches_below c.args.patterns) (match_below c.args.patterns) c.args.states.now c.loop-i.i
      c.index-states-i.result (matches_below c.args.patterns c.args.states.now) (λ y ys. refl) c.loop-i-test.true
      c.index-states-i.is
      (c.is_sound.ensures.matches c.if-not-is_sound.false) c.loop-i.invariant.matches;
}
