use Rattle.std.proofs.Common.{refl}
use Rattle.automata_hybrid.proofs.Machines.OneState.{fail_settles}
use Rattle.automata_hybrid.proofs.dfa.DFA.never_match.Goals as goal

pub of_state-requires : goal.of_state-requires
of_state-requires c = fail_settles _ refl c.new.ensures.items
