use Rattle.std.proofs.Common.{ℕ, List, ◌≡◌, ◌++◌, ◌-◌, ap, sym, ◌∙◌, subst, arith}
use Rattle.std.specs.Prelude.{IfSome}
use Rattle.automata_transform.proofs.Nfas.Standing.{stood_further}
use Rattle.automata_transform.proofs.standing.after_stood_for.Goals as goal

pub returns-then-at-lists : goal.returns-then-at-lists
returns-then-at-lists c =
    let is = c.as_usize-number.ensures.value in
    let old = c.if-number-count.false in
    subst (λ (z : List ℕ). IfSome c.after-then-at-lists.result (λ rest. c.args.list.now ≡ z ++ rest.now))
    (c.as_slice.ensures.value
    ∙ sym (stood_further c.args.count c.args.lists.now (c.as_usize-number.result - c.args.count) c.args.id
    c.index-lists-at.result
    (omega (arith, is, old)) (ap (λ z. z - c.args.count) (sym is)) c.if-at-lists.true c.index-lists-at.is))
    c.after-then-at-lists.ensures
