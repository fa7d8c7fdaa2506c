use Rattle.std.proofs.Common.{◌≡◌, ◌∙◌, ◌+◌, ◌*◌, ◌<◌, ◌^◌, suc, ap, subst, arith}
use Rattle.automata_hybrid.proofs.Words.{class_in}
use Rattle.automata_hybrid.specs.Private.Fast.Leaps.{column_of}
use Rattle.automata_hybrid.specs.Private.Fast.SelfLoops.{byte_in}
use Rattle.automata_hybrid.proofs.Fast.Leaps.{column_below, column_fits}
use Rattle.automata_hybrid.proofs.Fast.SelfLoops.{byte_small}
use Rattle.automata_hybrid.proofs.search.fast.leap.column.Goals as goal

pub overflow_mul-column : goal.overflow_mul-column
overflow_mul-column c =
    omega (
      arith,
      column_fits c.loop-k.column c.args.classes c.loop-k.k c.requires.few
          (omega (arith, c.loop-k-test.true, c.requires.short)) c.loop-k.invariant.below,
    )

pub overflow_add-column : goal.overflow_add-column
overflow_add-column c =
    omega (
      arith,
      column_fits c.loop-k.column c.args.classes c.loop-k.k c.requires.few
          (omega (arith, c.loop-k-test.true, c.requires.short)) c.loop-k.invariant.below,
      c.class_of.ensures.below,
      c.class_of.ensures.small,
    )

pub loop-k-preserved : goal.loop-k-preserved
loop-k-preserved c =
    let next : suc c.loop-k.k ≡ c.loop-k.k + 1 = omega arith in
    let class : c.class_of.result
    ≡ class_in c.args.dfa.now.classes (byte_in c.args.way c.args.bytes.now (c.args.at + c.loop-k.k)) =
    c.class_of.ensures.value ∙ ap (λ byte. class_in c.args.dfa.now.classes byte) c.byte_at.ensures in
    let low : c.class_of.result < c.args.classes =
    omega (
      arith,
      class,
      c.requires.classes,
      c.requires.rising.below _
          (byte_small c.args.way c.args.bytes.now (λ k. (c.type_inv.bytes k).fits) (c.args.at + c.loop-k.k)),
    ) in
    record {
      value =
          subst (λ k. c.loop-k.column * c.args.classes + c.class_of.result
          ≡ column_of c.args.dfa.now.classes c.args.classes c.args.way c.args.bytes.now c.args.at k) next
          (λ i. c.loop-k.invariant.value i * c.args.classes + class i);
      below =
          subst (λ k. c.loop-k.column * c.args.classes + c.class_of.result < c.args.classes ^ k) next
          (column_below c.loop-k.column c.args.classes c.loop-k.k c.class_of.result c.loop-k.invariant.below low);
    }
