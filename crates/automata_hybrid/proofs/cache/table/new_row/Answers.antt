use Rattle.std.proofs.Common.{◌≡◌, ◌∙◌, ap, sym, length, arith, replicate, ◌^◌}
use Rattle.std.proofs.lemmas.List.{length-replicate}
use Rattle.std.proofs.lemmas.Grind.{common_steps}
use Rattle.automata_hybrid.proofs.Words.{class_in}
use Rattle.automata_hybrid.proofs.Storage.NewRows.{marked-zero, marked-step, marked-none, length-cond}
use Rattle.automata_hybrid.proofs.cache.table.new_row.Goals as goal

pub loop-byte-init : goal.loop-byte-init
loop-byte-init c =
    let cells : c.resize.new.self.items ≡ replicate c.args.stride (2 ^ 31) = grind (arith, common_steps) in
    record {
      marked = cells ∙ sym (marked-zero c.args.classes.now c.args.quits.now c.args.stride);
      whole = ap length cells ∙ length-replicate c.args.stride (2 ^ 31);
    }

pub loop-byte-preserved : goal.loop-byte-preserved
loop-byte-preserved c =
    let i = c.loop-byte.invariant in
    let class : c.from.result ≡ class_in c.args.classes.now c.loop-byte.byte =
    c.from.ensures ∙ c.get-class.ensures.class in
    record {
      marked =
          marked-step c.args.classes.now c.args.quits.now c.args.stride c.loop-byte.byte c.loop-byte.cells.items
          c.mark.new.cells.items c.from.result c.quit-quit.result _ i.marked c.contains-quits_at.ensures class
          c.quit-quit.ensures c.mark.ensures;
      whole =
          length-cond c.loop-byte.cells.items c.mark.new.cells.items c.from.result c.quit-quit.result _ c.mark.ensures
          ∙ i.whole;
    }

pub returns-then-is_empty : goal.returns-then-is_empty
returns-then-is_empty c =
    let cells : c.resize.new.self.items ≡ replicate c.args.stride (2 ^ 31) = grind (arith, common_steps) in
    cells ∙ sym
    (marked-none c.args.classes.now c.args.quits.now c.args.stride 256 (c.is_empty.ensures.yes c.if-is_empty.true))
