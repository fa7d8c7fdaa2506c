use Rattle.std.proofs.Common.{◌+◌, ◌∙◌, arith, sym, true≢false}
use Rattle.meta.proofs.Starting.{leftmost_found, nowhere_after, nowhere_found, nowhere_on}
use Rattle.meta.proofs.simulation.Simulation.find.Goals.{then-not-utf8-via-then-not-utf8}
use Rattle.meta.proofs.simulation.Simulation.find.Goals.{then-not-utf8-via-else-not-utf8+then-is_boundary}
use Rattle.meta.proofs.simulation.Simulation.find.Goals as goal

pub returns-in_default-clause-found : goal.returns-in_default-clause-found
returns-in_default-clause-found c =
    nowhere_on c.args.utf8 c.args.program.now c.args.hay.now c.args.start c.starts.at c.args.end c.starts.invariant.2
    (nowhere_found c.args.utf8 c.args.program.now c.args.hay.now c.starts.at c.args.end c.starts-test.true
    c.in_default.ensures.span)

pub returns-then-not-utf8-clause-found : goal.returns-then-not-utf8-clause-found
returns-then-not-utf8-clause-found c =
    leftmost_found c.args.utf8 c.args.program.now c.args.hay.now c.starts.at c.args.end
    (c.in-Some.from, c.in-Some.to) c.starts-test.true c.in-Some.ensures.span c.args.start c.starts.invariant.0
    c.starts.invariant.2
    (elim c.then-not-utf8.branch [
      | then-not-utf8-via-then-not-utf8 w ↦ λ t. absurd (true≢false (sym t ∙ w.if-not-utf8.true))
      | then-not-utf8-via-else-not-utf8+then-is_boundary w ↦ λ t. sym w.is_boundary.ensures ∙ w.if-is_boundary.true
    ])

pub starts-preserved : goal.starts-preserved
starts-preserved c =
    let on =
    nowhere_on c.args.utf8 c.args.program.now c.args.hay.now c.args.start c.starts.at (c.in-Some.from + 1)
    c.starts.invariant.2
    (nowhere_after c.args.utf8 c.args.program.now c.args.hay.now c.starts.at c.args.end (c.in-Some.from, c.in-Some.to)
    c.starts-test.true c.in-Some.ensures.span
    (λ may. true≢false
    (sym (may c.if-not-utf8.false) ∙ sym c.is_boundary.ensures ∙ c.if-is_boundary.false))) in
    let within = c.in-Some.ensures.within in (
      omega (arith, c.starts.invariant.0, within.0),
      record { room = c.find.ensures.room ∙ c.starts.invariant.1.room; slots = c.starts.invariant.1.slots },
      on,
    )
