use Rattle.std.proofs.Common.{◌∙◌, arith, below_more, map, subst, sym}
use Rattle.std.proofs.lemmas.List.{length-map}
use Rattle.regex_extract.specs.Needles.{needles_of}
use Rattle.regex_literal.specs.Find.{needle_at}
use Rattle.patterns.proofs.Beginnings.{HasPrefix, keeps_prefix, needle_item, prefixes_replace}
use Rattle.patterns.proofs.needles.shortened.Goals as goal

pub loop-needle-preserved : goal.loop-needle-preserved
loop-needle-preserved c =
    let vs = c.args.needles.now in
    let i = c.loop-needle.needle-index in
    let new = needles_of c.add.new.needles in
    below_more (λ n. HasPrefix new (needle_at (map (λ w. w.items) vs) n)) i
    (λ n l. keeps_prefix (needles_of c.loop-needle.short) new (needle_at (map (λ w. w.items) vs) n)
    c.in_ok-add.ensures.kept (c.loop-needle.invariant n l))
    (subst (λ v. HasPrefix new v)
    (c.deref.ensures.value ∙ sym (needle_item vs i c.needle-item.result c.loop-needle-test.true c.needle-item.is))
    (c.cut.result.now, c.in_ok-add.ensures.added, c.cut.ensures))

pub returns : goal.returns
returns c =
    prefixes_replace (map (λ w. w.items) c.args.needles.now) (needles_of c.loop-needle.short)
    (λ n l. let end = c.loop-needle-test.false in
    c.loop-needle.invariant n (omega (arith, l, end, length-map c.args.needles.now (λ w. w.items))))
