use Rattle.std.proofs.Common.{subst, sym}
use Rattle.std.specs.Prelude.{IfSome, Ok}
use Rattle.regex_automata.specs.Promises.{Forward, Input, IsHalf, IsHaystack}
use Rattle.lexer.specs.Rules.{RuleMatches}
use Rattle.lexer.specs.Tokens.{IsRuleToken}
use Rattle.lexer.proofs.Meant.{longest_is_exact, token_is_meant}
use Rattle.lexer.proofs.lex.token_at.Goals as goal

pub returns-in-Ok-clause-meant : goal.returns-in-Ok-clause-meant
returns-in-Ok-clause-meant c = λ o prefer res is for.
    let hay = c.args.hay.now in
    subst (IsRuleToken prefer res hay c.args.offset) (sym c.token_of.ensures)
    (token_is_meant c.args.dfa.now o prefer res is hay for
    (subst (λ (i : Input). IsHaystack i.haystack) c.remaining-input.ensures.input
    c.remaining-input.ensures.valid.bytes)
    c.args.offset c.requires.inside c.in-Ok.answer c.cycles_are_kept.ensures.acyclic
    (subst (λ i. IsHalf Forward c.args.dfa.now i (Ok c.in-Ok.answer)) c.remaining-input.ensures.input
    c.in-Ok.ensures.half))

pub returns-in-Ok-clause-exact : goal.returns-in-Ok-clause-exact
returns-in-Ok-clause-exact c = λ o res is for exact.
    let hay = c.args.hay.now in
    subst (λ v. IfSome v (λ token. RuleMatches res hay token.pattern c.args.offset token.end)) (sym c.token_of.ensures)
    (longest_is_exact c.args.dfa.now o res is hay for
    (subst (λ (i : Input). IsHaystack i.haystack) c.remaining-input.ensures.input
    c.remaining-input.ensures.valid.bytes)
    c.args.offset c.requires.inside c.in-Ok.answer c.cycles_are_kept.ensures.acyclic
    (subst (λ i. IsHalf Forward c.args.dfa.now i (Ok c.in-Ok.answer)) c.remaining-input.ensures.input
    c.in-Ok.ensures.half) exact)
