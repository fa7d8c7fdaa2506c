use Rattle.std.proofs.Common.{subst}
use Rattle.automata_hybrid.proofs.Words.{WalksAreReported}
use Rattle.automata_hybrid.proofs.Searches.Agreement.{walks_agree}
use Rattle.automata_hybrid.proofs.laws.walks_agree.Goals as goal

pub returns : goal.returns
returns c = walks_agree c.args.dfa.now (subst WalksAreReported c.get_nfa.ensures c.walk_is_right.ensures.reported)
