use Rattle.std.proofs.Common.{ℕ, List, ◌∷◌, add-one, ap, sym, ◌∙◌}
use Rattle.lazydfa_c.proofs.Written.{ends, goes_on, stops, under}
use Rattle.lazydfa_c.proofs.sets.write_members.Goals as goal

pub loop-pattern-preserved : goal.loop-pattern-preserved
loop-pattern-preserved c =
    let l = c.loop-pattern in
    stops l.out l.at c.in-Some.pattern c.next.new.self c.if-at-out.false
    ∙ (ap (λ (r : List ℕ). under l.at r l.out) (sym c.in-Some.ensures.steps) ∙ l.invariant)

pub loop-pattern-preserved-then-at-out : goal.loop-pattern-preserved-then-at-out
loop-pattern-preserved-then-at-out c =
    let l = c.loop-pattern in let rest = c.next.new.self in
    let same = ap (λ (y : ℕ). y ∷ rest) c.as_u32.ensures.value ∙ sym c.in-Some.ensures.steps in
    rw add-one (goes_on l.out l.at c.as_u32.result rest c.if-at-out.true
    ∙ (ap (λ (r : List ℕ). under l.at r l.out) same ∙ l.invariant))

pub returns-clause-written : goal.returns-clause-written
returns-clause-written c =
    let l = c.loop-pattern in
    sym (ends l.out l.at) ∙ (ap (λ (r : List ℕ). under l.at r l.out) (sym c.in-None.ensures.steps.0) ∙ l.invariant)
