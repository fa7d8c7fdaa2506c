use Rattle.automata_hybrid.proofs.Words.{pass_trace}
use Rattle.automata_hybrid.proofs.search.walk.advance.walk_with_leaps.Given as goal

abbrev pub ghost-follow_any_leaps : goal.ghost-follow_any_leaps
ghost-follow_any_leaps a = pass_trace a.way a.dfa.now a.input.now
