use Rattle.std.proofs.Common.{ℕ, ◌≡◌, ◌<◌, false, length}
use Rattle.automata_base.specs.Lists.{In}
use Rattle.automata_transform.specs.Retraced.Folds.{is_large}
use Rattle.automata_base.specs.Retraced.Reach.{node_in, targets_of}
use Rattle.automata_base.specs.declared.nfa.thompson.reach.Edges.TheVariants.{Every}
use Rattle.automata_transform.proofs.folding.led_to.Given as goal

abbrev pub invariant-loop-state : goal.invariant-loop-state
invariant-loop-state l = record {
  led :
      (q t : ℕ) → q < l.state-index → is_large (node_in l.states q) ≡ false → In t (targets_of Every l.states q)
      → In t l.led.items;
  capacity : l.led.capacity ≡ length l.states;
}
