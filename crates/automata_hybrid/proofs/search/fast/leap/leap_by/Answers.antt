use Rattle.std.proofs.Common.{◌∙◌, ap, refl, arith}
use Rattle.automata_hybrid.proofs.Words.{eoi_class, Machine}
use Rattle.automata_hybrid.proofs.Fast.Leaps.{cell_within, leapt_more}
use Rattle.automata_hybrid.proofs.Fast.SelfLoops.{byte_small}
use Rattle.automata_hybrid.proofs.search.fast.leap.leap_by.Goals as goal

pub leaps-init : goal.leaps-init
leaps-init c = record {
  leapt = record { to = c.args.index; known = c.requires.row; first = refl; within = omega arith; over = refl };
  few = omega arith;
}

pub column-requires-clause-classes : goal.column-requires-clause-classes
column-requires-clause-classes c = c.requires.leaps.of.classes ∙ ap (λ (m : Machine). eoi_class m.classes)
    c.requires.sound.of

pub cell-next-requires : goal.cell-next-requires
cell-next-requires c =
    cell_within c.args.way c.args.bytes.now c.requires.sound.of c.requires.sound.rising
    (byte_small c.args.way c.args.bytes.now (λ k. (c.type_inv.bytes k).fits)) c.requires.leaps c.requires.reach
    c.column.ensures.value c.column.ensures.below c.leaps.invariant.leapt

pub leaps-preserved : goal.leaps-preserved
leaps-preserved c = record {
  leapt =
      leapt_more c.args.way c.args.bytes.now c.requires.sound.of c.requires.sound.rising
      (byte_small c.args.way c.args.bytes.now (λ k. (c.type_inv.bytes k).fits)) c.requires.leaps c.requires.reach
      c.column.ensures.value c.column.ensures.below c.leaps.invariant.leapt c.cell-next.result c.leaps-test.true
      c.cell-next.ensures c.if-next.false;
  few = c.again_after-again.ensures;
}
