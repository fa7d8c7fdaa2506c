use Rattle.std.proofs.Common.{sym, ◌∙◌, refl, ltb, ℕ}
use Rattle.automata_base.specs.Lists.{all_below}
use Rattle.automata_base.proofs.Powersets.ListTests.{test_fails, test_next}
use Rattle.automata_base.proofs.nfa.thompson.checks.ids_below.Goals as goal

pub returns-then-not-is_below : goal.returns-then-not-is_below
returns-then-not-is_below c =
    test_fails (all_below c.args.n) (λ (x : ℕ). ltb x c.args.n) c.args.xs.now c.loop-i.i c.index-xs-i.result
    (all_below c.args.n c.args.xs.now) (λ y ys. refl) c.loop-i-test.true c.index-xs-i.is
    (sym c.is_below.ensures ∙ c.if-not-is_below.true) c.loop-i.invariant

pub loop-i-preserved : goal.loop-i-preserved
loop-i-preserved c =
    test_next (all_below c.args.n) (λ (x : ℕ). ltb x c.args.n) c.args.xs.now c.loop-i.i c.index-xs-i.result
    (all_below c.args.n c.args.xs.now) (λ y ys. refl) c.loop-i-test.true c.index-xs-i.is
    (sym c.is_below.ensures ∙ c.if-not-is_below.false) c.loop-i.invariant
