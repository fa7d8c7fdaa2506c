use Rattle.std.proofs.Common.{◌+◌, Vec, ℕ, refl, sym, subst, ◌∙◌}
use Rattle.std.specs.declared.alloc.Global.{Global}
use Rattle.automata_transform.proofs.Nfas.Folds.Led.{AreFree, free_none, free_skip, free_more}
use Rattle.automata_transform.proofs.Nfas.Folds.Parts.{is_some_given, state_at}
use Rattle.automata_transform.proofs.folding.free_of.Goals.{then-is_some+then-not-contains+in_ok-push_id}
use Rattle.automata_transform.proofs.folding.free_of.Goals.{else-is_some}
use Rattle.automata_transform.proofs.folding.free_of.Goals as goal

pub loop-i-init : goal.loop-i-init
loop-i-init c = free_none c.args.states.now c.args.led.now.items c.new-free.result.items c.new-free.ensures.items

pub loop-i-preserved : goal.loop-i-preserved
loop-i-preserved c =
    let states = c.args.states.now in
    let led = c.args.led.now.items in
    elim c.if-is_some.branch [
      | then-is_some+then-not-contains+in_ok-push_id w ↦ (
          let given = is_some_given c.range_read.result (sym c.is_some.ensures ∙ w.if-is_some.true) in
          subst (λ (v : Vec ℕ Global). AreFree states led v.items (c.loop-i.i + 1)) (sym w.free-is)
          (free_more states led c.loop-i.free.items w.push_id.new.ids.items c.loop-i.i c.new_unchecked-id.result given.0
          w.in_ok-push_id.ensures c.new_unchecked-id.ensures (
            c.index-states-i.result,
            state_at states c.loop-i.i c.loop-i.i c.index-states-i.result c.loop-i-test.true c.index-states-i.is refl,
            sym c.range_read.ensures ∙ given.1,
          )
          (w.contains.ensures.new w.if-not-contains.true) c.loop-i.invariant))
      | else-is_some w ↦
          subst (λ (v : Vec ℕ Global). AreFree states led v.items (c.loop-i.i + 1)) (sym w.free-is)
          (free_skip states led c.loop-i.free.items c.loop-i.i c.loop-i.invariant)
    ]

pub returns : goal.returns
returns c = record {
  reads = c.loop-i.invariant.reads;
  new = c.loop-i.invariant.new;
  distinct = c.loop-i.invariant.distinct;
}
