use Rattle.std.proofs.Common.{◌∙◌, arith, below_more, map, subst, sym}
use Rattle.std.proofs.lemmas.List.{length-map}
use Rattle.regex_extract.specs.Needles.{needles_of}
use Rattle.regex_literal.specs.Find.{needle_at}
use Rattle.prefilters.specs.Pairs.{HasFoldOf}
use Rattle.prefilters.proofs.Covering.{needle_is}
use Rattle.prefilters.proofs.pairs.folded_of.Goals as goal

pub loop-needle-preserved : goal.loop-needle-preserved
loop-needle-preserved c =
    below_more
    (λ n.
    HasFoldOf c.args.fold (needle_at (map (λ w. w.items) c.args.needles.now) n) (needles_of c.add_fold.new.folded))
    c.loop-needle.needle-index
    (λ n l. c.in_ok-add_fold.ensures.kept (needle_at (map (λ w. w.items) c.args.needles.now) n)
    (c.loop-needle.invariant n l))
    (subst (λ v. HasFoldOf c.args.fold v (needles_of c.add_fold.new.folded))
    (c.deref.ensures.value
    ∙ sym (needle_is c.args.needles.now c.loop-needle.needle-index c.needle-item.result c.loop-needle-test.true
    c.needle-item.is))
    c.in_ok-add_fold.ensures.added)

pub returns : goal.returns
returns c = λ n l.
    let end = c.loop-needle-test.false in
    c.loop-needle.invariant n (omega (arith, l, end, length-map c.args.needles.now (λ w. w.items)))
