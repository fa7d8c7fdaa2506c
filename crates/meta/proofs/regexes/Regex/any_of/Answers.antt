use Rattle.std.proofs.Common.{ℕ, Bor, List, ap, map, subst, ◌∙◌}
use Rattle.patterns.specs.Patterns.{AreMeanings, config_of}
use Rattle.patterns.specs.declared.compile.Options.{Options}
use Rattle.meta.specs.Groups.{FindAllGroups}
use Rattle.meta.proofs.regexes.Regex.any_of.Goals as goal

pub returns-in-Ok-clause-meant : goal.returns-in-Ok-clause-meant
returns-in-Ok-clause-meant c =
    let texts = map (λ (text : Bor (List ℕ)). text.now) c.args.texts.now in
    let made = c.in-Ok.ensures.meant.0 in
    let programs = c.in_ok-programs.programs in
    let same = c.with_ascii.ensures in (
      made.0,
      made.1,
      record {
        pattern = made.2;
        programs =
            subst (λ (o : Options). AreMeanings (config_of o) texts made.0 → FindAllGroups programs.list.items made.0)
            same (c.in_ok-programs.ensures.meant made.0) made.1;
        text = c.in_ok-programs.ensures.text ∙ ap (λ (o : Options). o.utf8) same;
      },
    )
