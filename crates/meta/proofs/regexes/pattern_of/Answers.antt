use Rattle.std.proofs.Common.{ℕ, Bor, List, map, subst}
use Rattle.patterns.specs.Patterns.{IsBuiltOf, IsRegexOfTexts}
use Rattle.patterns.specs.declared.compile.Options.{Options}
use Rattle.meta.proofs.regexes.pattern_of.Goals as goal

pub returns-in-Ok-clause-meant : goal.returns-in-Ok-clause-meant
returns-in-Ok-clause-meant c =
    let texts = map (λ (text : Bor (List ℕ)). text.now) c.args.texts.now in (
      subst (λ (o : Options). IsRegexOfTexts o texts c.in-Ok.pattern.regex) c.with_ascii.ensures c.in-Ok.ensures.meant,
      subst (λ (o : Options). IsBuiltOf o texts c.in-Ok.pattern.regex) c.with_ascii.ensures c.in-Ok.ensures.built,
    )
