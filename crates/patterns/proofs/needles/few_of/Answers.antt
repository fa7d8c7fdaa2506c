use Rattle.std.proofs.Common.{IfOk, map, subst}
use Rattle.regex_extract.specs.Needles.{needles_of}
use Rattle.patterns.specs.Searches.{MayReplace}
use Rattle.patterns.proofs.needles.few_of.Goals as goal

pub returns-else-len-lt-LITERAL : goal.returns-else-len-lt-LITERAL
returns-else-len-lt-LITERAL c =
    subst (λ vs. IfOk c.shortened.result (λ v. MayReplace (map (λ n. n.items) vs) (needles_of v)))
    c.deref-else-len-lt-LITERAL.ensures.value c.shortened.ensures
