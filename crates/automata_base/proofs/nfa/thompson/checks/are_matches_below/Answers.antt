use Rattle.std.proofs.Common.{sym, ◌∙◌, refl}
use Rattle.automata_base.specs.Nfas.Errors.{matches_below}
use Rattle.automata_base.specs.Nfas.Errors.{match_below}
use Rattle.automata_base.proofs.Powersets.ListTests.{test_fails, test_next}
use Rattle.automata_base.proofs.nfa.thompson.checks.are_matches_below.Goals as goal

pub returns-then-not-is_match_below : goal.returns-then-not-is_match_below
returns-then-not-is_match_below c =
    test_fails (matches_below c.args.n) (match_below c.args.n) c.args.states.now c.loop-i.i c.index-states-i.result
    (matches_below c.args.n c.args.states.now) (λ y ys. refl) c.loop-i-test.true c.index-states-i.is
    (sym c.is_match_below.ensures ∙ c.if-not-is_match_below.true) c.loop-i.invariant

pub loop-i-preserved : goal.loop-i-preserved
loop-i-preserved c =
    test_next (matches_below c.args.n) (match_below c.args.n) c.args.states.now c.loop-i.i c.index-states-i.result
    (matches_below c.args.n c.args.states.now) (λ y ys. refl) c.loop-i-test.true c.index-states-i.is
    (sym c.is_match_below.ensures ∙ c.if-not-is_match_below.false) c.loop-i.invariant
