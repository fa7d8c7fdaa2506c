use Rattle.std.proofs.Common.{subst}
use Rattle.automata_base.specs.Nfas.Accepted.{IsChecked}
use Rattle.automata_hybrid.proofs.Pieces.Matching.{states_have_matching}
use Rattle.automata_hybrid.proofs.laws.states_have_matching.Goals as goal

pub returns : goal.returns
returns c = states_have_matching c.args.dfa.now (subst IsChecked c.get_nfa.ensures c.states-states.ensures.checked)
