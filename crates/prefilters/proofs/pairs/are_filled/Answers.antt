use Rattle.std.proofs.Common.{◌≡◌, arith, below_more, ◌≤◌, ◌∙◌, length, vec_len, map, subst, sym}
use Rattle.regex_literal.specs.Find.{needle_at}
use Rattle.prefilters.proofs.Covering.{filled, needle_is}
use Rattle.prefilters.proofs.pairs.are_filled.Goals as goal

pub loop-needle-preserved : goal.loop-needle-preserved
loop-needle-preserved c =
    below_more (λ n. 1 ≤ length (needle_at (map (λ w. w.items) c.args.needles.now) n)) c.loop-needle.needle-index
    c.loop-needle.invariant
    (subst (λ v. 1 ≤ length v)
    (sym (needle_is c.args.needles.now c.loop-needle.needle-index c.needle-item.result c.loop-needle-test.true
    c.needle-item.is))
    (let some = filled (vec_len c.needle-item.result) (sym c.is_empty.ensures ∙ c.if-is_empty.false) in
    let same : vec_len c.needle-item.result ≡ length c.needle-item.result.items = c.needle-item.result.ok.0 in
    omega (arith, some, same)))
