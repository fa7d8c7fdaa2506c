use Rattle.std.proofs.Common.{below_more, map, refl, subst, sym}
use Rattle.regex_literal.specs.Find.{needle_at}
use Rattle.prefilters.specs.Pairs.{BeginsWithByte}
use Rattle.prefilters.proofs.Covering.{needle_is}
use Rattle.prefilters.proofs.pairs.common_of.Goals as goal

pub loop-needle-preserved : goal.loop-needle-preserved
loop-needle-preserved c =
    let folded = c.args.folded.now in let l = c.loop-needle in
    below_more (λ n. BeginsWithByte c.index-byte.result.now (needle_at (map (λ v. v.items) folded) n)) l.needle-index
    l.invariant
    (subst (BeginsWithByte c.index-byte.result.now)
    (sym (needle_is folded l.needle-index c.needle-item.result c.loop-needle-test.true c.needle-item.is))
    (subst (BeginsWithByte c.index-byte.result.now) c.deref.ensures.value (c.if-not-begins_with.ensures refl)))
