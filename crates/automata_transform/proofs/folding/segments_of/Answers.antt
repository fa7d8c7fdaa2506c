use Rattle.std.proofs.Common.{ℕ, ◌<◌, ◌+◌, List, Vec, length, take, sym, ◌∙◌, subst}
use Rattle.std.specs.declared.alloc.Global.{Global}
use Rattle.automata_base.specs.Retraced.ReversedEdges.{lists_of}
use Rattle.automata_transform.proofs.Nfas.Folds.Parts.{AreRead, read_begin, read_more, read_none, reads_none, state_at}
use Rattle.automata_transform.proofs.Nfas.Folds.Parts.{take_next, taken_all}
use Rattle.automata_transform.proofs.Nfas.Mirrors.Copies.{in_slice}
use Rattle.automata_transform.proofs.folding.segments_of.Goals.{in-Some+in_ok-put_range, in_default}
use Rattle.automata_transform.proofs.folding.segments_of.Goals as goal

pub bounds-states-as_usize : goal.bounds-states-as_usize
bounds-states-as_usize c =
    subst (λ v. v < length c.args.states.now) (sym c.as_usize.ensures.value)
    (c.requires c.id-item.result
    (in_slice c.args.ids.now c.loop-id.id-index c.id-item.result c.loop-id-test.true c.id-item.is))

pub loop-id-init : goal.loop-id-init
loop-id-init c =
    read_begin c.args.states.now (lists_of c.in_ok-lists.lists.items) (length c.in_ok-lists.lists.items)
    c.in_ok-lists.ensures.none
    c.in_ok-lists.ensures.few

pub loop-id-preserved : goal.loop-id-preserved
loop-id-preserved c =
    let states = c.args.states.now in
    let ids = take c.loop-id.id-index c.args.ids.now in
    let after = take (c.loop-id.id-index + 1) c.args.ids.now in
    let x = c.id-item.result in
    let s = c.index-states-as_usize.result in
    let grown = take_next c.args.ids.now c.loop-id.id-index x c.loop-id-test.true c.id-item.is in
    let low : c.as_usize.result < length states =
    subst (λ v. v < length c.args.states.now) (sym c.as_usize.ensures.value)
    (c.requires x (in_slice c.args.ids.now c.loop-id.id-index x c.loop-id-test.true c.id-item.is)) in
    let at = state_at states x c.as_usize.result s low c.index-states-as_usize.is c.as_usize.ensures.value in
    elim c.match-range_read.branch [
      | in-Some+in_ok-put_range w ↦
          subst (λ (v : Vec (Vec ℕ Global) Global). AreRead states after (lists_of v.items) (length v.items))
          (sym w.lists-is)
          (read_more states ids after (lists_of c.loop-id.lists.items) (lists_of w.put_range.new.lists.items) x
          (length w.put_range.new.lists.items) s w.in-Some.range grown at (sym w.in-Some.is ∙ c.range_read.ensures)
          w.in_ok-put_range.ensures.few w.in_ok-put_range.ensures.put w.in_ok-put_range.ensures.low
          (length c.loop-id.lists.items)
          c.loop-id.invariant)
      | in_default w ↦
          subst (λ (v : Vec (Vec ℕ Global) Global). AreRead states after (lists_of v.items) (length v.items))
          (sym w.lists-is)
          (read_none states ids after (lists_of c.loop-id.lists.items) x (length c.loop-id.lists.items) grown
          (reads_none states x s c.range_read.result at c.range_read.ensures w.in_default.is) c.loop-id.invariant)
    ]

pub returns : goal.returns
returns c =
    let all = taken_all c.args.ids.now c.loop-id.id-index c.loop-id-test.false in
    let r =
    subst (λ (z : List ℕ). AreRead c.args.states.now z (lists_of c.loop-id.lists.items) (length c.loop-id.lists.items))
    all c.loop-id.invariant in
    record { reads = r.reads; low = r.low; nodes = r.few }
