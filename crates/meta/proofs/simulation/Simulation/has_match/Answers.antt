use Rattle.std.proofs.Common.{◌∙◌, arith}
use Rattle.meta.proofs.Joining.{simulated_found}
use Rattle.meta.proofs.Leftmost.{are_bytes}
use Rattle.meta.proofs.simulation.Simulation.has_match.Goals as goal

pub returns-clause-found : goal.returns-clause-found
returns-clause-found c = λ re finds.
    c.is_some.ensures
    ∙ simulated_found c.args.utf8 c.args.program.now re c.args.hay.now c.args.start c.find.result
    (are_bytes c.args.hay.now (λ i. let fits = c.type_inv.hay i in omega (arith, fits))) finds c.find.ensures.found
