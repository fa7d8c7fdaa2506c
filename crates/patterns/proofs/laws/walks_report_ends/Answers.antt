use Rattle.std.proofs.Common.{subst}
use Rattle.automata_determinize.specs.Laws.Walks.{AllPairsAreReported}
use Rattle.automata_base.specs.Nfas.Nodes.{Automaton}
use Rattle.patterns.proofs.Sets.{ends_meant}
use Rattle.patterns.proofs.laws.walks_report_ends.Goals as goal

pub returns : goal.returns
returns c = λ o res hay pairs is for bytes.
    ends_meant c.args.set.now.dfa o res is hay for bytes
    (subst (λ (a : Automaton). AllPairsAreReported a) c.get_nfa.ensures c.walk_is_right.ensures.all) pairs
