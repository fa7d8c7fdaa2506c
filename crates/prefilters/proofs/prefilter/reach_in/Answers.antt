use Rattle.std.proofs.Common.{◌≡◌, ◌∙◌, ◌≤◌, ◌+◌, [], map, below_more, subst, sym, ap, length, arith}
use Rattle.std.proofs.lemmas.List.{get_or-map}
use Rattle.regex_literal.specs.Find.{needle_at}
use Rattle.prefilters.proofs.prefilter.reach_in.Goals as goal
use Rattle.prefilters.proofs.prefilter.reach_in.Goals.{then-rest-reach, else-rest-reach}

pub loop-needle-preserved : goal.loop-needle-preserved
loop-needle-preserved c =
    let l = c.loop-needle in
    let needle = c.needle-item.result in
    let new = c.if-rest-reach.reach in
    let all = map (λ v. v.items) c.args.needles.now in
    let there : needle_at all l.needle-index ≡ needle.items =
    get_or-map (λ v. v.items) c.args.needles.now l.needle-index needle [] c.loop-needle-test.true
    ∙ ap (λ v. v.items) (sym c.needle-item.is) in
    let len = c.len.ensures in
    let rest = c.saturating_sub-rest.ensures in
    let most : (l.reach ≤ new) × (c.args.most ≤ new + length needle.items) = (elim c.if-rest-reach.branch [
      | then-rest-reach w ↦ (let i = w.reach-is in let t = w.if-rest-reach.true in
          (omega (arith, i, t), omega (arith, i, rest, len)))
      | else-rest-reach w ↦ (let i = w.reach-is in let t = w.if-rest-reach.false in
          (omega (arith, i), omega (arith, i, t, rest, len)))
    ]) in
    below_more (λ n. c.args.most ≤ new + length (needle_at all n)) l.needle-index
    (λ n lt. let at = l.invariant n lt in let m : l.reach ≤ new = most.0 in omega (arith, at, m))
    (subst (λ v. c.args.most ≤ new + length v) (sym there) most.1)
