use Rattle.std.proofs.Common.{◌≡◌, ◌<◌, get_or, sym, ap, ◌∙◌, arith, length}
use Rattle.std.proofs.lemmas.Bool.{eqb-true, eqb-false}
use Rattle.std.proofs.lemmas.List.{get_or_read}
use Rattle.automata_base.proofs.Powersets.Dense.{some_unless, dense_takes, none_at_zero, some_at_other}
use Rattle.automata_base.proofs.nfa.thompson.reading.dense_target.Goals as goal

pub returns-then-is_zero : goal.returns-then-is_zero
returns-then-is_zero c =
    let next = get_or c.args.targets.now c.from-at.result c.index-targets-at.result in
    let l : c.from-at.result < length c.args.targets.now =
    omega (arith, c.type_inv.targets, c.from-at.ensures, c.ranges.u.fits) in
    let m : c.args.u < length c.args.targets.now = omega (arith, l, c.from-at.ensures) in
    let at : next ≡ get_or c.args.targets.now c.args.u 0 =
    sym c.index-targets-at.is
    ∙ (get_or_read c.args.targets.now c.from-at.result c.index-targets-at.result l c.index-targets-at.is 0
    ∙ ap (λ z. get_or c.args.targets.now z 0) c.from-at.ensures) in
    none_at_zero next (eqb-true next 0 (sym c.is_zero.ensures ∙ c.if-is_zero.true))
    ∙ (ap some_unless at ∙ sym (dense_takes c.args.targets.now 0 c.args.u c.args.u (omega arith) m))

pub returns-else-is_zero : goal.returns-else-is_zero
returns-else-is_zero c =
    let next = get_or c.args.targets.now c.from-at.result c.index-targets-at.result in
    let l : c.from-at.result < length c.args.targets.now =
    omega (arith, c.type_inv.targets, c.from-at.ensures, c.ranges.u.fits) in
    let m : c.args.u < length c.args.targets.now = omega (arith, l, c.from-at.ensures) in
    let at : next ≡ get_or c.args.targets.now c.args.u 0 =
    sym c.index-targets-at.is
    ∙ (get_or_read c.args.targets.now c.from-at.result c.index-targets-at.result l c.index-targets-at.is 0
    ∙ ap (λ z. get_or c.args.targets.now z 0) c.from-at.ensures) in
    some_at_other next (eqb-false next 0 (sym c.is_zero.ensures ∙ c.if-is_zero.false))
    ∙ (ap some_unless at ∙ sym (dense_takes c.args.targets.now 0 c.args.u c.args.u (omega arith) m))
