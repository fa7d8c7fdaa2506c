use Rattle.automata_hybrid.proofs.Words.{pass_trace}
use Rattle.automata_hybrid.proofs.search.pass.known_pass.Given as goal

abbrev pub ghost-run_to_match : goal.ghost-run_to_match
ghost-run_to_match a = pass_trace a.way a.dfa.now a.input.now
