use Rattle.std.proofs.Common.{ℕ, ◌<◌, ◌+◌, List, Vec, length, take, sym, ◌∙◌, subst}
use Rattle.std.specs.declared.alloc.Global.{Global}
use Rattle.automata_transform.proofs.Nfas.Folds.Parts.{AreOthers, other_begin, other_more, other_less, reads_none}
use Rattle.automata_transform.proofs.Nfas.Folds.Parts.{state_at}
use Rattle.automata_transform.proofs.Nfas.Folds.Parts.{take_next}
use Rattle.automata_transform.proofs.Nfas.Folds.Parts.{is_none, is_given, taken_all}
use Rattle.automata_transform.proofs.Nfas.Mirrors.Copies.{in_slice}
use Rattle.automata_transform.proofs.folding.others_of.Goals.{then-is_none+in_ok-push_id, else-is_none}
use Rattle.automata_transform.proofs.folding.others_of.Goals as goal

pub bounds-states-as_usize : goal.bounds-states-as_usize
bounds-states-as_usize c =
    subst (λ v. v < length c.args.states.now) (sym c.as_usize.ensures.value)
    (c.requires c.id-item.result
    (in_slice c.args.ids.now c.loop-id.id-index c.id-item.result c.loop-id-test.true c.id-item.is))

pub loop-id-init : goal.loop-id-init
loop-id-init c = other_begin c.args.states.now c.new-others.result.items c.new-others.ensures.items

pub loop-id-preserved : goal.loop-id-preserved
loop-id-preserved c =
    let states = c.args.states.now in
    let ids = take c.loop-id.id-index c.args.ids.now in
    let after = take (c.loop-id.id-index + 1) c.args.ids.now in
    let x = c.id-item.result in
    let s = c.index-states-as_usize.result in
    let grown = take_next c.args.ids.now c.loop-id.id-index x c.loop-id-test.true c.id-item.is in
    let low : c.as_usize.result < length states =
    subst (λ v. v < length c.args.states.now) (sym c.as_usize.ensures.value)
    (c.requires x (in_slice c.args.ids.now c.loop-id.id-index x c.loop-id-test.true c.id-item.is)) in
    let at = state_at states x c.as_usize.result s low c.index-states-as_usize.is c.as_usize.ensures.value in
    elim c.if-is_none.branch [
      | then-is_none+in_ok-push_id w ↦
          subst (λ (v : Vec ℕ Global). AreOthers states after v.items) (sym w.others-is)
          (other_more states ids after c.loop-id.others.items w.push_id.new.ids.items x grown w.in_ok-push_id.ensures
          (reads_none states x s c.range_read.result at c.range_read.ensures
          (is_none c.range_read.result c.is_none.result c.is_none.ensures w.if-is_none.true)) c.loop-id.invariant)
      | else-is_none w ↦ (
          let given = is_given c.range_read.result c.is_none.result c.is_none.ensures w.if-is_none.false in
          subst (λ (v : Vec ℕ Global). AreOthers states after v.items) (sym w.others-is)
          (other_less states ids after c.loop-id.others.items x s given.0 grown at (sym c.range_read.ensures ∙ given.1)
          c.loop-id.invariant))
    ]

pub returns : goal.returns
returns c =
    let all = taken_all c.args.ids.now c.loop-id.id-index c.loop-id-test.false in
    let r = subst (λ (z : List ℕ). AreOthers c.args.states.now z c.loop-id.others.items) all c.loop-id.invariant in
    record { sound = r.sound; all = r.all }
