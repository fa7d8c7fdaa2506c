use Rattle.std.proofs.Common.{◌∙◌, ap, length}
use Rattle.automata_hybrid.proofs.Words.{Machine}
use Rattle.automata_hybrid.proofs.dfa.DFA.pattern_len.Goals as goal

pub returns : goal.returns
returns c = ap length c.pattern_starts.ensures.same ∙ ap (λ (m : Machine). length m.nfa.start_pattern) c.self.view_is
