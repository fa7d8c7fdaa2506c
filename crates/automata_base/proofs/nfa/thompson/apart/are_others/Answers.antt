use Rattle.std.proofs.Common.{sym, ◌∙◌, refl, ap, not, ℕ}
use Rattle.automata_base.specs.Retraced.Apart.{is_either, are_others}
use Rattle.automata_base.proofs.Powersets.ListTests.{test_fails, test_next}
use Rattle.automata_base.proofs.nfa.thompson.apart.are_others.Goals as goal

pub returns-then-is_either : goal.returns-then-is_either
returns-then-is_either c =
    test_fails (are_others c.args.one c.args.two) (λ (q : ℕ). not (is_either c.args.one c.args.two q)) c.args.ids.now
    c.loop-i.i c.index-ids-i.result (are_others c.args.one c.args.two c.args.ids.now) (λ y ys. refl) c.loop-i-test.true
    c.index-ids-i.is
    (ap not (sym c.is_either.ensures ∙ c.if-is_either.true)) c.loop-i.invariant

pub loop-i-preserved : goal.loop-i-preserved
loop-i-preserved c =
    test_next (are_others c.args.one c.args.two) (λ (q : ℕ). not (is_either c.args.one c.args.two q)) c.args.ids.now
    c.loop-i.i c.index-ids-i.result (are_others c.args.one c.args.two c.args.ids.now) (λ y ys. refl) c.loop-i-test.true
    c.index-ids-i.is
    (ap not (sym c.is_either.ensures ∙ c.if-is_either.false)) c.loop-i.invariant
