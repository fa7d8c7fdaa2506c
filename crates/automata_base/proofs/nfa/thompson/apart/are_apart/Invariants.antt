use Rattle.std.proofs.Common.{ℕ, ◌≡◌, ◌<◌, false}
use Rattle.automata_base.specs.Lists.{In}
use Rattle.automata_base.specs.Retraced.Apart.{is_either}
use Rattle.automata_base.specs.Retraced.Reach.{targets_of}
use Rattle.automata_base.specs.declared.nfa.thompson.reach.Edges.TheVariants.{Every}
use Rattle.automata_base.proofs.nfa.thompson.apart.are_apart.Given as goal

abbrev pub invariant-loop-i : goal.invariant-loop-i
invariant-loop-i l =
    (q : ℕ) → q < l.i → (r : ℕ) → is_either l.one l.two q ≡ false → In r (targets_of Every l.states q)
    → is_either l.one l.two r ≡ false
