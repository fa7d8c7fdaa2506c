use Rattle.std.proofs.Common.{subst}
use Rattle.automata_hybrid.proofs.Words.{WalkLiesWithin, WalksAreReported}
use Rattle.automata_determinize.specs.Laws.Walks.{AllPairsAreReported}
use Rattle.automata_hybrid.proofs.Walks.SetsByPaths.{sets_have_matching}
use Rattle.automata_hybrid.proofs.laws.sets_have_matching.Goals as goal

pub returns : goal.returns
returns c =
    sets_have_matching c.args.dfa.now (subst AllPairsAreReported c.get_nfa.ensures c.walk_is_right.ensures.all)
    (subst WalksAreReported c.get_nfa.ensures c.walk_is_right.ensures.reported)
    (subst WalkLiesWithin c.get_nfa.ensures c.walk_is_right.ensures.within)
