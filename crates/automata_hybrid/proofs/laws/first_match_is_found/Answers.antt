use Rattle.std.proofs.Common.{subst}
use Rattle.automata_hybrid.proofs.Words.{ReportedEndsAreRight}
use Rattle.automata_hybrid.proofs.Steps.BySteps.{first_match_is_found}
use Rattle.automata_hybrid.proofs.laws.first_match_is_found.Goals as goal

pub returns : goal.returns
returns c =
    first_match_is_found c.args.dfa.now (subst ReportedEndsAreRight c.get_nfa.ensures c.reported_is_right.ensures.ends)
