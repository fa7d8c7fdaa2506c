use Rattle.std.proofs.Common.{◌≡◌, ◌+◌, sym, subst, ◌∙◌, drop}
use Rattle.automata_base.specs.Nfas.Errors.{ordered_from}
use Rattle.automata_base.proofs.Powersets.ListTests.{ordered_fails, ordered_next}
use Rattle.automata_base.proofs.nfa.thompson.checks.is_ordered.Goals as goal

pub returns-then-not-fits : goal.returns-then-not-fits
returns-then-not-fits c =
    ordered_fails c.args.xs.now c.loop-i.i c.loop-i.low c.index-xs-i.result (ordered_from 0 c.args.xs.now)
    c.loop-i-test.true c.index-xs-i.is
    (sym c.fits.ensures ∙ c.if-not-fits.true) c.loop-i.invariant

pub loop-i-preserved : goal.loop-i-preserved
loop-i-preserved c =
    subst (λ z. ordered_from 0 c.args.xs.now ≡ ordered_from z (drop (c.loop-i.i + 1) c.args.xs.now))
    (sym c.above-low.ensures)
    (ordered_next c.args.xs.now c.loop-i.i c.loop-i.low c.index-xs-i.result (ordered_from 0 c.args.xs.now)
    c.loop-i-test.true c.index-xs-i.is
    (sym c.fits.ensures ∙ c.if-not-fits.false) c.loop-i.invariant)
