use Rattle.std.proofs.Common.{◌≡◌, Some, subst, sym}
use Rattle.automata_config.specs.Options.{Options}
use Rattle.regex_automata.specs.Regexes.Builds.{BuildsPair, NamesEnough, pair_error}
use Rattle.lazydfa_c.proofs.regex.pair_of.Goals as goal

pub returns-in-Ok-clause-built : goal.returns-in-Ok-clause-built
returns-in-Ok-clause-built c =
    subst (λ (o : Options). BuildsPair o c.args.forward c.args.reverse c.in-Ok.regex) c.builder_of.ensures
    c.in-Ok.ensures.ok

pub returns-in-Err-clause-refused : goal.returns-in-Err-clause-refused
returns-in-Err-clause-refused c = (
  c.in-Err.error,
  subst (λ (o : Options). pair_error o c.args.forward c.args.reverse ≡ Some c.in-Err.error) c.builder_of.ensures
      (sym c.in-Err.ensures.refused),
  subst (λ (o : Options). NamesEnough o c.args.forward c.args.reverse c.in-Err.error) c.builder_of.ensures
      c.in-Err.ensures.enough,
  c.from.ensures,
)
