use Rattle.automata_base.specs.Haystacks.LookSets.{truth_of}
use Rattle.std.proofs.Common.{sym, ◌∙◌}
use Rattle.automata_determinize.proofs.Powersets.LookBits.{unnews_next}
use Rattle.automata_determinize.proofs.determinize.deciding.finds_news.Goals as goal

pub loop-index-preserved : goal.loop-index-preserved
loop-index-preserved c =
    unnews_next (truth_of c.args.needed) (truth_of c.args.truth) (truth_of c.args.known) c.loop-index.index
    c.from_index.result
    c.loop-index-test.true c.from_index.ensures (sym c.is_news.ensures ∙ c.if-is_news.false) c.loop-index.invariant
