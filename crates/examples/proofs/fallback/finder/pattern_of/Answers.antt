use Rattle.std.proofs.Common.{◌∷◌, [], false, subst}
use Rattle.patterns.specs.Patterns.{IsRegexOfTexts}
use Rattle.patterns.specs.declared.compile.Options.{Options}
use Rattle.examples.proofs.fallback.finder.pattern_of.Goals as goal

pub returns : goal.returns
returns c =
    let n = c.in_ok-nfa.ensures.meant in
    subst
    (λ (o : Options). IsRegexOfTexts (record o { utf8 = false }) (c.args.text.now ∷ [])
    c.in_ok-from_nfa_with.field-0.regex)
    c.default.ensures (n.0, n.1, c.in_ok-from_nfa_with.ensures.meant n.0 n.2)
