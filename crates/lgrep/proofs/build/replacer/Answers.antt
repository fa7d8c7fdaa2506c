use Rattle.std.proofs.Common.{◌∙◌, ap, subst, sym}
use Rattle.regex_automata.specs.Promises.{LeftmostFirst}
use Rattle.regex_automata.specs.Regexes.Builds.{BuildsOne}
use Rattle.patterns.specs.Patterns.{IsRegexOf, settings_with}
use Rattle.patterns.specs.declared.pattern.Pattern.{Pattern}
use Rattle.meta.specs.Groups.{FindAllGroups}
use Rattle.meta.specs.declared.program.Programs.{Programs}
use Rattle.lgrep.specs.Built.{grep_settings}
use Rattle.lgrep.specs.Lines.{bytewise}
use Rattle.lgrep.specs.declared.replace.GroupFinder.{GroupFinder}
use Rattle.lgrep.proofs.build.replacer.Goals as goal

pub returns-clause-meant : goal.returns-clause-meant
returns-clause-meant c = λ res is groups. (
  subst (λ (p : Pattern). IsRegexOf (bytewise c.args.case_insensitive) res p.regex)
      (sym c.in_ok-replacer.ensures.pattern) (c.in_ok-pattern.ensures.meant res is),
  subst (λ (p : Programs). FindAllGroups p.list.items res)
      (sym (ap (λ (g : GroupFinder). g.programs) c.in_ok-replacer.ensures.groups ∙ c.in_ok-groups.ensures)) groups,
)

pub returns-clause-built : goal.returns-clause-built
returns-clause-built c =
    subst (λ (p : Pattern). BuildsOne (settings_with (grep_settings LeftmostFirst c.args.capacity)
    (bytewise c.args.case_insensitive)) c.args.nfa p.regex) (sym c.in_ok-replacer.ensures.pattern)
    c.in_ok-pattern.ensures.built
