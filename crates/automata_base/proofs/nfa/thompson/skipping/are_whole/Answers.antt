use Rattle.std.proofs.Common.{ap, sym, ◌∙◌, true≢false}
use Rattle.automata_base.specs.Nfas.Nfa.{Read}
use Rattle.automata_base.proofs.Nfas.Reach.Looped.{one_range, other_ranges}
use Rattle.automata_base.proofs.nfa.thompson.skipping.are_whole.Goals as goal

pub returns-then-ranges-ne1 : goal.returns-then-ranges-ne1
returns-then-ranges-ne1 c = (
  λ t. absurd (true≢false (sym t)),
  λ e. absurd (other_ranges c.args.ranges.now c.args.target c.if-ranges-ne1.true e),
)

pub returns : goal.returns
returns c =
    let one =
    ap (λ z. Read z) (one_range c.args.ranges.now c.index-ranges-0.result c.if-ranges-ne1.false c.index-ranges-0.is) in
    (λ t. one ∙ c.is_whole.ensures.0 t, λ e. c.is_whole.ensures.1 (sym one ∙ e))
