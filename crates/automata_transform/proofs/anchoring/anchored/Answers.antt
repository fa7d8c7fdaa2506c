use Rattle.std.proofs.lemmas.Result.{IfOk-weaker}
use Rattle.automata_transform.proofs.anchoring.anchored.Goals as goal

pub returns-clause-alike : goal.returns-clause-alike
returns-clause-alike c =
    IfOk-weaker c.anchored_if_it_may.result _ _
    (λ made is kind. c.anchored_answers_alike.ensures.answers c.args.nfa.now made kind is)
    c.anchored_if_it_may.ensures
