use Rattle.std.proofs.Common.{ℕ, ◌≡◌, ◌∙◌, ◌<◌, ◌^◌, Option, Some, ap, subst, sym}
use Rattle.automata_hybrid.proofs.Words.{IsStepAnswer, known_step, unit_class}
use Rattle.automata_hybrid.proofs.search.pass.known_next.Goals as goal

pub returns-clause-value : goal.returns-clause-value
returns-clause-value c = λ low. (c.requires.peeked low).cached

pub returns-clause-answer : goal.returns-clause-answer
returns-clause-answer c = λ low.
    let same : c.known_step-next.result ≡ c.args.peeked =
    c.known_step-next.ensures.value
    ∙ (ap (known_step c.args.dfa.now c.args.cache.now.store c.args.id) (sym c.byte_at.ensures)
    ∙ sym (c.requires.peeked low).cached) in
    subst (λ (u : Option ℕ). IsStepAnswer c.args.dfa.now c.args.id u c.args.cache.now c.args.cache.now c.args.peeked)
    (sym c.byte_at.ensures)
    (subst (IsStepAnswer c.args.dfa.now c.args.id (Some c.byte_at.result) c.args.cache.now c.args.cache.now) same
    (c.known_step-next.ensures.answer (subst (λ n. n < 2 ^ 31) (sym same) low)))

pub returns-clause-below : goal.returns-clause-below
returns-clause-below c = λ low.
    subst (λ (u : Option ℕ). unit_class c.args.dfa.now u < c.args.dfa.now.stride) (sym c.byte_at.ensures)
    c.known_step-next.ensures.below

pub returns-then-is_unknown-clause-value : goal.returns-then-is_unknown-clause-value
returns-then-is_unknown-clause-value c = λ low.
    c.known_step.ensures.value ∙ ap (known_step c.args.dfa.now c.args.cache.now.store c.args.id) c.unit_at.ensures

pub returns-then-is_unknown-clause-answer : goal.returns-then-is_unknown-clause-answer
returns-then-is_unknown-clause-answer c = λ low.
    subst (λ (u : Option ℕ). IsStepAnswer c.args.dfa.now c.args.id u c.args.cache.now c.args.cache.now
    c.known_step.result) c.unit_at.ensures
    (c.known_step.ensures.answer low)

pub returns-then-is_unknown-clause-below : goal.returns-then-is_unknown-clause-below
returns-then-is_unknown-clause-below c = λ low.
    subst (λ (u : Option ℕ). unit_class c.args.dfa.now u < c.args.dfa.now.stride) c.unit_at.ensures
    c.known_step.ensures.below
