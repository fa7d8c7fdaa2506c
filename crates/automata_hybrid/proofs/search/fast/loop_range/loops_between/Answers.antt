use Rattle.std.proofs.Common.{◌≡◌, ◌∙◌, ◌<◌, ◌≤◌, subst, sym, arith, ⊎_elim}
use Rattle.std.proofs.lemmas.Bool.{cases_lt}
use Rattle.std.proofs.lemmas.Grind.{common_steps}
use Rattle.automata_hybrid.proofs.Words.{IsCell}
use Rattle.automata_hybrid.proofs.Fast.SelfLoops.{LoopsIn, loops_among}
use Rattle.automata_hybrid.proofs.search.fast.loop_range.loops_between.Goals as goal

pub loop-class-preserved : goal.loop-class-preserved
loop-class-preserved c =
    let same : c.cell.result ≡ c.args.id = grind (arith, common_steps, c.if-ne.ensures) in
    λ k l below. ⊎_elim
    (λ (old : k < c.loop-class.class). c.loop-class.invariant k l old)
    (λ (new : c.loop-class.class ≤ k).
    let here : c.loop-class.class ≡ k = omega (arith, new, below) in
    subst (LoopsIn c.args.cache.now.store c.args.id) here (
      sym c.cell.ensures.value
          ∙ same,
      λ q n. subst (λ i. IsCell c.args.cache.now.store.table q c.loop-class.class i) same
          (c.cell.ensures.named q n),
    ))
    (cases_lt k c.loop-class.class)

pub returns : goal.returns
returns c = λ _.
    loops_among c.args.dfa.now c.args.cache.now.store c.args.id c.args.from c.args.to c.class_of-first.result
    c.class_of-last.result
    c.requires.sound.machine c.requires.sound.rising c.requires.sound.of c.requires.valid c.requires.plain
    c.if-from-to.false c.requires.within c.class_of-first.ensures.value c.class_of-last.ensures.value
    (λ k l below. c.loop-class.invariant k l (omega (arith, below, c.loop-class-test.false)))
