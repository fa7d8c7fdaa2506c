use Rattle.std.proofs.Common.{◌∙◌, ap, refl, subst, sym, true}
use Rattle.automata_base.specs.Nfas.Nodes.{Automaton}
use Rattle.patterns.proofs.Items.{given}
use Rattle.lexer.specs.Iteration.{PassesGap}
use Rattle.lexer.specs.Tokens.{EndsCharacter, IsExactToken, IsMeantToken, IsTokenFrom}
use Rattle.lexer.proofs.tokens.TokensIterator.next.Goals as goal

pub returns-in-Ok-Some-clause-steps : goal.returns-in-Ok-Some-clause-steps
returns-in-Ok-Some-clause-steps c =
    let s = c.args.self.now in
    let m = s.dfa.now in
    let hay = s.haystack.now in (
      (
        c.if-self.false,
        c.if-self-2.false,
        record {
          from = given (IsTokenFrom m hay s.offset) c.in-Ok-Some.field-0-is c.in-Ok-Some.ensures.within;
          meant = subst (IsMeantToken m hay s.offset) c.in-Ok-Some.field-0-is c.in-Ok-Some.ensures.meant;
          exact = subst (IsExactToken m hay s.offset) c.in-Ok-Some.field-0-is c.in-Ok-Some.ensures.exact;
          place = c.end-self.ensures.end;
          going = c.if-self.false;
        },
      ),
      refl,
      refl,
      refl,
      refl,
      c.in-Ok-Some.ensures.effect,
    )

pub returns-in-Ok-None-clause-steps : goal.returns-in-Ok-None-clause-steps
returns-in-Ok-None-clause-steps c =
    let s = c.args.self.now in
    let m = s.dfa.now in
    let hay = s.haystack.now in (
      (
        c.if-self.false,
        c.if-self-2.false,
        record {
          place = refl;
          meant = subst (IsMeantToken m hay s.offset) c.in-Ok-None.field-0-is c.in-Ok-None.ensures.meant;
          passes =
              subst (λ b. PassesGap b m hay s.offset c.character_end-self.result s.ended) (sym c.if-self-3.true) (
                subst (λ b. EndsCharacter b hay s.offset c.character_end-self.result)
                    (c.is_utf8-utf8.ensures ∙ ap (λ (a : Automaton). a.flags.utf8) c.get_nfa.ensures)
                    c.character_end-self.ensures,
                c.if-self.false,
              );
        },
      ),
      refl,
      refl,
      refl,
      refl,
      c.in-Ok-None.ensures.effect,
    )

pub returns-in-Ok-None-2-clause-steps : goal.returns-in-Ok-None-2-clause-steps
returns-in-Ok-None-2-clause-steps c =
    let s = c.args.self.now in
    let m = s.dfa.now in
    let hay = s.haystack.now in (
      (
        c.if-self.false,
        c.if-self-2.false,
        record {
          place = refl;
          meant = subst (IsMeantToken m hay s.offset) c.in-Ok-None.field-0-is c.in-Ok-None.ensures.meant;
          passes = subst (λ b. PassesGap b m hay s.offset s.offset true) (sym c.if-self-3.false) (refl, refl);
        },
      ),
      refl,
      refl,
      refl,
      refl,
      c.in-Ok-None.ensures.effect,
    )
