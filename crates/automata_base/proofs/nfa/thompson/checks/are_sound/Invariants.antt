use Rattle.std.proofs.Common.{◌≡◌, drop}
use Rattle.automata_base.specs.Nfas.Errors.{states_below, states_ordered, matches_below}
use Rattle.automata_base.proofs.nfa.thompson.checks.are_sound.Given as goal

abbrev pub invariant-loop-i : goal.invariant-loop-i
invariant-loop-i l = record {
  below : states_below l.n l.states ≡ states_below l.n (drop l.i l.states);
  ordered : states_ordered l.states ≡ states_ordered (drop l.i l.states);
  matches : matches_below l.patterns l.states ≡ matches_below l.patterns (drop l.i l.states);
}
