use Rattle.std.proofs.Common.{rules}
use Rattle.std.proofs.lemmas.Result.{IfOk-weaker}
use Rattle.examples.proofs.steps.search.step.Goals as goal

pub returns-in-Some-clause-steps : goal.returns-in-Some-clause-steps
returns-in-Some-clause-steps c =
    IfOk-weaker c.next_state.result _ _ (λ next on. on c.args.input.now c.args.at c.requires.stands (search rules))
    c.next_state.ensures.stands

pub returns-in-None-clause-steps : goal.returns-in-None-clause-steps
returns-in-None-clause-steps c =
    IfOk-weaker c.next_eoi_state.result _ _ (λ next on. on c.args.input.now c.args.at c.requires.stands (search rules))
    c.next_eoi_state.ensures.stands
