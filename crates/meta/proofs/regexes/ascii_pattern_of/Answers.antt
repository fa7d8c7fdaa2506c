use Rattle.std.proofs.Common.{ℕ, Bor, List, map, refl, subst, true}
use Rattle.patterns.specs.Faults.{IsPatternFault}
use Rattle.patterns.specs.Patterns.{IsBuiltOf, IsRegexOfTexts}
use Rattle.patterns.specs.declared.compile.Options.{Options}
use Rattle.meta.specs.Regexes.{with_ascii}
use Rattle.meta.proofs.Refusing.{no_malformed, no_word}
use Rattle.meta.proofs.regexes.ascii_pattern_of.Goals as goal

pub returns-in-Ok-clause-meant : goal.returns-in-Ok-clause-meant
returns-in-Ok-clause-meant c =
    let texts = map (λ (text : Bor (List ℕ)). text.now) c.args.texts.now in (
      subst (λ (o : Options). IsRegexOfTexts o texts c.in-Ok.pattern.regex) c.with_ascii.ensures c.in-Ok.ensures.meant,
      subst (λ (o : Options). IsBuiltOf o texts c.in-Ok.pattern.regex) c.with_ascii.ensures c.in-Ok.ensures.built,
    )

pub returns-in-Err-clause-refused : goal.returns-in-Err-clause-refused
returns-in-Err-clause-refused c =
    let texts = map (λ (text : Bor (List ℕ)). text.now) c.args.texts.now in
    let o = with_ascii true c.args.options.now in
    let is =
    subst (λ (o : Options). IsPatternFault o texts c.in-Err.error) c.with_ascii.ensures c.in-Err.ensures.refused in
    record {
      ascii = true;
      fault = is;
      word = no_word o texts c.in-Err.error refl is;
      look = no_malformed o texts c.in-Err.error refl is;
    }
