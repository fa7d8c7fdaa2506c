use Rattle.std.proofs.Common.{◌≡◌, map, take}
use Rattle.lexer.proofs.lex.texts_of.Given as goal

abbrev pub invariant-loop-rule : goal.invariant-loop-rule
invariant-loop-rule l =
    map (λ text. text.now) l.texts.items ≡ map (λ rule. rule.pattern.now) (take l.rule-index l.rules)
