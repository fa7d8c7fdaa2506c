use Rattle.std.proofs.Common.{◌∙◌, ◌+◌, ◌*◌, ◌≤◌, length, refl, arith}
use Rattle.std.proofs.Math.Nat.{mul-le-mul_right}
use Rattle.automata_hybrid.proofs.Storage.Leaps.{steps_none}
use Rattle.automata_hybrid.proofs.cache.leaps.steps_of.Goals as goal

pub returns-clause-steps : goal.returns-clause-steps
returns-clause-steps c =
    let all : length c.loop-row.steps.items ≤ (c.len-rows.result + 1) * c.args.classes =
    omega (
      arith,
      c.loop-row.invariant.long,
      mul-le-mul_right c.args.classes
          (let h : c.loop-row.row ≤ c.len-rows.result + 1 = omega (arith, c.loop-row.auto.row-end) in h),
    ) in
    steps_none c.args.table.now c.args.classes c.loop-row.steps.items c.resize.new.self.items
    (λ k l. c.in_ok-resize.ensures.by_index.0 k 0 (omega (arith, l, all)) (omega (arith, l, c.loop-row.steps.ok)))
    (λ k l below. c.in_ok-resize.ensures.by_index.1 k 0 refl (omega (arith, l, c.loop-row.steps.ok))
    (omega (arith, below, c.in_ok-resize.ensures.len, c.resize.new.self.ok)) ∙ c.len-rows.ensures.value)
    c.loop-row.invariant.steps
