use Rattle.std.proofs.Common.{◌≤◌, arith, subst, take}
use Rattle.std.proofs.lemmas.List.{take_all}
use Rattle.std.proofs.lemmas.List.Elements.{All-more, All-weaker}
use Rattle.meta.specs.Caches.{HaveAtMost}
use Rattle.meta.specs.declared.program.Program.{Program}
use Rattle.meta.proofs.programs.most_slots.Goals.{then-program-most, else-program-most}
use Rattle.meta.proofs.programs.most_slots.Goals as goal

pub loop-program-preserved : goal.loop-program-preserved
loop-program-preserved c =
    let ps = c.args.programs.now in
    let i = c.loop-program.program-index in
    let item = c.program-item.result in
    let old = c.loop-program.most in
    let most = c.if-program-most.most in
    let fits : (item.nfa.slot_count ≤ most) × (old ≤ most) = elim c.if-program-most.branch [
      | then-program-most w ↦ omega (arith, w.if-program-most, w.most-is)
      | else-program-most w ↦ omega (arith, w.if-program-most, w.most-is)
    ] in
    All-more (λ (p : Program). p.nfa.slot_count ≤ most) ps i item c.loop-program-test.true
    (All-weaker (λ (p : Program). p.nfa.slot_count ≤ old) (λ (p : Program). p.nfa.slot_count ≤ most)
    (λ p few. omega (arith, few, fits.1)) (take i ps) c.loop-program.invariant)
    (subst (λ (p : Program). p.nfa.slot_count ≤ most) c.program-item.is fits.0)

pub returns : goal.returns
returns c =
    subst (HaveAtMost c.loop-program.most)
    (take_all c.loop-program.program-index c.args.programs.now (omega (arith, c.loop-program-test.false)))
    c.loop-program.invariant
