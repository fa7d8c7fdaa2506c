use Rattle.automata_hybrid.proofs.Words.{pass_trace}
use Rattle.automata_hybrid.proofs.search.pass.place_at.Given as goal

abbrev pub ghost-next_known : goal.ghost-next_known
ghost-next_known a = pass_trace a.way a.dfa.now a.input.now
