use Rattle.std.proofs.Common.{◌∙◌, ◌≤◌, arith, length, subst, sym}
use Rattle.std.proofs.lemmas.List.{length-map}
use Rattle.prefilters.specs.Pairs.{FitsNeedle}
use Rattle.prefilters.proofs.Covering.{covers_more, needle_is}
use Rattle.prefilters.proofs.pairs.pairs_of.Goals as goal

pub new-requires : goal.new-requires
new-requires c =
    let within = c.loop-needle-test.true in
    let there = subst (λ v. 1 ≤ length v)
    (needle_is c.args.needles.now c.loop-needle.needle-index c.needle-item.result within c.needle-item.is
    ∙ sym c.deref.ensures.value)
    (c.requires c.loop-needle.needle-index
    (omega (arith, within, length-map c.args.needles.now (λ w. w.items)))) in
    omega (arith, there)

pub loop-needle-preserved : goal.loop-needle-preserved
loop-needle-preserved c = λ fold.
    covers_more fold c.loop-needle.pairs.items c.add.new.pairs.items c.args.needles.now
    c.loop-needle.needle-index c.needle-item.result c.new.result c.loop-needle-test.true c.needle-item.is
    c.in_ok-add.ensures.kept c.in_ok-add.ensures.added
    (subst (λ v. FitsNeedle fold c.new.result v) c.deref.ensures.value (c.new.ensures fold))
    (c.loop-needle.invariant fold)

pub returns : goal.returns
returns c = λ fold n l.
    let end = c.loop-needle-test.false in
    c.loop-needle.invariant fold n (omega (arith, l, end, length-map c.args.needles.now (λ w. w.items)))
