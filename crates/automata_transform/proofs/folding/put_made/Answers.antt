use Rattle.std.proofs.Common.{ℕ, ◌≡◌, ◌<◌, Some, length, refl, sym, ap, ◌∙◌, arith}
use Rattle.std.specs.Prelude.{slice_get}
use Rattle.std.proofs.lemmas.Option.{slice_get_read}
use Rattle.automata_transform.proofs.Nfas.Folds.Placed.{place_begin, place_step, popped_at}
use Rattle.automata_transform.proofs.Nfas.Folds.Looks.{looks_none, looks_same, looks_set}
use Rattle.automata_transform.proofs.Nfas.Mirrors.Copies.{in_slice}
use Rattle.automata_transform.proofs.folding.put_made.Goals as goal

pub loop-state-init : goal.loop-state-init
loop-state-init c = record {
  placing = place_begin c.args.free.now c.args.states.now.items c.args.made.items c.requires.few;
  looks = looks_same _ _ refl;
}

pub index_mut-requires : goal.index_mut-requires
index_mut-requires c =
    let short : c.len.result < length c.args.free.now =
    omega (arith, c.len.ensures, c.in-Some.ensures.cases, c.loop-state.invariant.placing.few) in
    let low =
    c.requires.below c.index-free-len.result
    (in_slice c.args.free.now c.len.result c.index-free-len.result short c.index-free-len.is) in
    let same = c.loop-state.invariant.placing.same in
    let id = c.as_usize.ensures.value in
    omega (arith, low, same, id)

pub loop-state-preserved : goal.loop-state-preserved
loop-state-preserved c =
    let short : c.len.result < length c.args.free.now =
    omega (arith, c.len.ensures, c.in-Some.ensures.cases, c.loop-state.invariant.placing.few) in
    let low =
    c.requires.below c.index-free-len.result
    (in_slice c.args.free.now c.len.result c.index-free-len.result short c.index-free-len.is) in
    let same = c.loop-state.invariant.placing.same in
    let id = c.as_usize.ensures.value in
    let here : slice_get c.args.free.now c.len.result ≡ Some c.as_usize.result =
    slice_get_read c.args.free.now (length c.args.free.now) c.len.result c.index-free-len.result refl short
    c.index-free-len.is
    ∙ ap (λ (v : ℕ). Some v) (sym id) in
    let inside : c.as_usize.result < length c.loop-state.states.items = omega (arith, low, same, id) in
    record {
      placing =
          place_step c.args.free.now c.args.states.now.items c.loop-state.states.items _ c.args.made.items
          c.loop-state.made.items
          c.pop.new.self.items c.in-Some.state c.len.result c.as_usize.result c.in-Some.ensures.items refl
          (omega (arith, c.len.ensures)) here
          inside c.requires.distinct c.loop-state.invariant.placing;
      looks =
          looks_set c.args.states.now.items c.loop-state.states.items c.as_usize.result c.in-Some.state inside
          (looks_none c.args.made.items (length c.pop.new.self.items) c.in-Some.state c.requires.plain
          (popped_at c.args.made.items c.loop-state.made.items c.pop.new.self.items c.in-Some.state _
          c.loop-state.invariant.placing.whole c.in-Some.ensures.items))
          c.loop-state.invariant.looks;
    }

pub returns : goal.returns
returns c = record {
  kept = c.loop-state.invariant.placing.kept;
  made = λ k x s a b. c.loop-state.invariant.placing.done k x s (omega (arith, c.in_default.ensures.cases.0)) a b;
  looks = c.loop-state.invariant.looks;
  same = c.loop-state.invariant.placing.same;
}
