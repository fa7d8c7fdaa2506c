use Rattle.std.proofs.Common.{subst, sym}
use Rattle.patterns.specs.Patterns.{IsJoinedNfa, IsRegexOf}
use Rattle.patterns.specs.declared.compile.Options.{Options}
use Rattle.lgrep.specs.Lines.{bytewise}
use Rattle.lgrep.proofs.build.pattern_of.Goals as goal

pub returns-clause-meant : goal.returns-clause-meant
returns-clause-meant c = λ res is.
    subst (IsRegexOf (bytewise c.args.case_insensitive) res) (sym c.try_first_bytes.ensures.regex)
    (subst (λ (o : Options). IsRegexOf o res c.in_ok-pattern.pattern.regex) c.bytewise-how.ensures
    (c.in_ok-pattern.ensures.meant res
    (subst (λ (o : Options). IsJoinedNfa o res c.args.nfa) (sym c.bytewise-how.ensures) is)))
