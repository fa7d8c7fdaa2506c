use Rattle.std.proofs.Common.{◌∙◌, arith, below_more, map, refl, subst, sym}
use Rattle.std.proofs.lemmas.List.{length-map}
use Rattle.regex_literal.specs.Find.{needle_at}
use Rattle.prefilters.specs.Pairs.{OccursFolded}
use Rattle.prefilters.proofs.Covering.{needle_is}
use Rattle.prefilters.proofs.pairs.any_occurs.Goals as goal

pub loop-needle-preserved : goal.loop-needle-preserved
loop-needle-preserved c =
    below_more
    (λ n. OccursFolded c.args.fold c.args.hay.now (needle_at (map (λ w. w.items) c.args.folded.now) n) c.args.at → ⊥)
    c.loop-needle.needle-index c.loop-needle.invariant
    (subst (λ v. OccursFolded c.args.fold c.args.hay.now v c.args.at → ⊥)
    (c.deref.ensures.value
    ∙ sym (needle_is c.args.folded.now c.loop-needle.needle-index c.needle-item.result c.loop-needle-test.true
    c.needle-item.is))
    (c.if-occurs_at.ensures refl))

pub returns : goal.returns
returns c = λ false n l.
    let end = c.loop-needle-test.false in
    c.loop-needle.invariant n (omega (arith, l, end, length-map c.args.folded.now (λ w. w.items)))
