use Rattle.automata_base.specs.Haystacks.LookSets.{truth_of}
use Rattle.automata_determinize.proofs.Powersets.LookBits.{Unnews}
use Rattle.automata_determinize.proofs.determinize.deciding.finds_news.Given as goal

abbrev pub invariant-loop-index : goal.invariant-loop-index
invariant-loop-index l =
    Unnews (truth_of l.needed) (truth_of l.truth) (truth_of l.known) l.index
