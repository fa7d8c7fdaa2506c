use Rattle.std.proofs.Common.{◌≡◌, ◌∙◌, ◌≤◌, [], map, below_more, subst, sym, ap, length, arith}
use Rattle.std.proofs.lemmas.List.{get_or-map}
use Rattle.regex_literal.specs.Find.{needle_at}
use Rattle.prefilters.proofs.prefilter.longest.Goals as goal
use Rattle.prefilters.proofs.prefilter.longest.Goals.{then-len-longest, else-len-longest}

pub loop-needle-preserved : goal.loop-needle-preserved
loop-needle-preserved c =
    let l = c.loop-needle in
    let needle = c.needle-item.result in
    let new = c.if-len-longest.longest in
    let all = map (λ v. v.items) c.args.needles.now in
    let there : needle_at all l.needle-index ≡ needle.items =
    get_or-map (λ v. v.items) c.args.needles.now l.needle-index needle [] c.loop-needle-test.true
    ∙ ap (λ v. v.items) (sym c.needle-item.is) in
    let len = c.len.ensures in
    let most : (l.longest ≤ new) × (length needle.items ≤ new) = (elim c.if-len-longest.branch [
      | then-len-longest w ↦ (let i = w.longest-is in let t = w.if-len-longest.true in let e = w.len-longest.ensures in
          (omega (arith, i, t, e, len), omega (arith, i, e)))
      | else-len-longest w ↦ (let i = w.longest-is in let t = w.if-len-longest.false in
          (omega (arith, i), omega (arith, i, t, len)))
    ]) in
    below_more (λ n. length (needle_at all n) ≤ new) l.needle-index
    (λ n lt. let at = l.invariant n lt in let m : l.longest ≤ new = most.0 in omega (arith, at, m))
    (subst (λ v. length v ≤ new) (sym there) most.1)
