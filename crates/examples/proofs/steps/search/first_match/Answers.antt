use Rattle.std.proofs.Common.{◌≡◌, true, false, Some, refl, sym, subst, arith}
use Rattle.regex_automata.specs.Promises.{IsFirstMatch}
use Rattle.examples.proofs.steps.search.first_match.Goals as goal

false_true : false ≡ true → ⊥
false_true e = cc

pub match_pattern-pattern-requires-clause-index : goal.match_pattern-pattern-requires-clause-index
match_pattern-pattern-requires-clause-index c = c.in-Ok-step.ensures.steps.reports (c.if-is_match.ensures.0 refl)

pub units-preserved : goal.units-preserved
units-preserved c = record {
  of = c.in-Ok-step.ensures.of;
  stands =
      c.in-Ok-step.ensures.steps.on (λ b. false_true (c.if-is_match.ensures.1 b))
      (λ b. false_true (c.if-is_quit.ensures.1 b))
      (omega (arith, c.if-at-end.false, c.end.ensures.end, c.units.invariant.stands.upto));
}

pub returns-then-is_match-clause-found : goal.returns-then-is_match-clause-found
returns-then-is_match-clause-found c =
    subst (λ h. IsFirstMatch c.args.dfa.now c.args.input.now (Some h)) (sym c.new.ensures)
    (c.in-Ok-step.ensures.steps.found (c.if-is_match.ensures.0 refl) c.match_pattern-pattern.result
    c.match_pattern-pattern.ensures)
