use Rattle.std.proofs.Common.{sym, ◌∙◌}
use Rattle.automata_base.specs.Retraced.Computed.{is_in}
use Rattle.automata_determinize.proofs.Powersets.Keeping.{in_next, in_here}
use Rattle.automata_determinize.proofs.determinize.lists.has_pattern.Goals as goal

pub returns-then-is_same : goal.returns-then-is_same
returns-then-is_same c =
    in_here c.args.p c.args.patterns.now c.loop-i.i c.index-patterns-i.result (is_in c.args.p c.args.patterns.now)
    c.loop-i-test.true c.index-patterns-i.is
    (sym c.is_same.ensures ∙ c.if-is_same.true) c.loop-i.invariant

pub loop-i-preserved : goal.loop-i-preserved
loop-i-preserved c =
    in_next c.args.p c.args.patterns.now c.loop-i.i c.index-patterns-i.result (is_in c.args.p c.args.patterns.now)
    c.loop-i-test.true c.index-patterns-i.is
    (sym c.is_same.ensures ∙ c.if-is_same.false) c.loop-i.invariant
