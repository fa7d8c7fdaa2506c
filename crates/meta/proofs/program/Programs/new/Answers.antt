use Rattle.std.proofs.Common.{map}
use Rattle.patterns.specs.Patterns.{config_of}
use Rattle.meta.proofs.Compiled.{find_meanings}
use Rattle.meta.proofs.program.Programs.new.Goals as goal

pub returns-in-Ok-clause-meant : goal.returns-in-Ok-clause-meant
returns-in-Ok-clause-meant c = λ res means.
    find_meanings (config_of c.args.options.now) (map (λ text. text.now) c.args.texts.now) c.in-Ok.list.items res
    c.in-Ok.ensures.compiled means
