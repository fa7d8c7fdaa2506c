use Rattle.automata_transform.proofs.Nfas.Standing.{ok_of}
use Rattle.automata_transform.proofs.merging.merged.Goals as goal

pub returns-clause-alike : goal.returns-clause-alike
returns-clause-alike c =
    ok_of _ _ _ c.merged_if_wide.result
    (λ m is kind. c.merged_answers_alike.ensures.answers c.args.nfa.now m kind c.states-states.ensures.checked is)
    c.merged_if_wide.ensures.merged
