use Rattle.std.proofs.Common.{◌≡◌, ◌<◌, ◌≤◌, ◌↔◌, ◌∷◌, true, length, IfOk, sym, subst}
use Rattle.std.specs.Prelude.{IsTrue}
use Rattle.automata_base.specs.Retraced.Decoders.{EndsAtBoundaries}
use Rattle.automata_base.specs.Lists.{all_below}
use Rattle.automata_base.specs.Nfas.Errors.{states_below}
use Rattle.automata_base.proofs.Nfas.Reach.InRange.{below_each, checked_below}
use Rattle.automata_base.proofs.nfa.thompson.NFA.reads_utf8.Goals as goal

pub ends_at_boundaries-requires : goal.ends_at_boundaries-requires
ends_at_boundaries-requires c =
    let checked = c.states.ensures.checked in
    record {
      few = subst (λ s. length s ≤ 134217728) (sym c.states.ensures.same) checked.small;
      range =
          subst (λ s. states_below (length s) s ≡ true) (sym c.states.ensures.same)
          (checked_below c.args.self.now checked);
      anchored =
          subst (λ s. c.start_anchored.result < length s) (sym c.states.ensures.same)
          (subst (λ q. q < length c.args.self.now.states) (sym c.start_anchored.ensures) checked.anchored);
      patterns =
          subst (λ s. all_below (length s) c.pattern_starts.result.now ≡ true) (sym c.states.ensures.same)
          (subst (λ p. all_below (length c.args.self.now.states) p ≡ true) (sym c.pattern_starts.ensures.same)
          (below_each (length c.args.self.now.states) c.args.self.now.start_pattern checked.starts));
      classes = c.requires;
    }

pub returns-clause-ends : goal.returns-clause-ends
returns-clause-ends c =
    subst
    (λ s. IfOk c.ends_at_boundaries.result
    (λ b. IsTrue b
    ↔ EndsAtBoundaries c.args.classes.now s (c.args.self.now.start_anchored ∷ c.args.self.now.start_pattern)))
    c.states.ensures.same
    (subst
    (λ q. IfOk c.ends_at_boundaries.result
    (λ b. IsTrue b ↔ EndsAtBoundaries c.args.classes.now c.states.result.now (q ∷ c.args.self.now.start_pattern)))
    c.start_anchored.ensures
    (subst
    (λ p. IfOk c.ends_at_boundaries.result
    (λ b. IsTrue b ↔ EndsAtBoundaries c.args.classes.now c.states.result.now (c.start_anchored.result ∷ p)))
    c.pattern_starts.ensures.same c.ends_at_boundaries.ensures))
