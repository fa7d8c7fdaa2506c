use Rattle.std.proofs.Common.{◌∙◌, ap}
use Rattle.std.specs.Prelude.{option_map}
use Rattle.regex_vm.specs.Found.{span}
use Rattle.examples.proofs.Spans.{simulated_first}
use Rattle.examples.proofs.fallback.finder.Finder.simulate.Goals as goal

pub returns-clause-found : goal.returns-clause-found
returns-clause-found c = λ text is. (
  is.0,
  is.1,
  c.find.ensures.span
      ∙ ap (option_map span) (simulated_first c.args.self.now.nfa is.0 c.args.line.now is.2),
)
