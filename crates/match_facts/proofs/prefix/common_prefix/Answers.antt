use Rattle.std.proofs.Common.{◌≡◌, ◌∙◌, [], map, below_more, subst, sym, take, ap}
use Rattle.std.proofs.lemmas.List.{get_or-map}
use Rattle.regex_literal.specs.Find.{needle_at}
use Rattle.match_facts.specs.Prefixes.{BeginsWith}
use Rattle.match_facts.proofs.Prefixes.{common_begins, shorter_begins}
use Rattle.match_facts.proofs.prefix.common_prefix.Goals as goal

pub loop-needle-preserved : goal.loop-needle-preserved
loop-needle-preserved c =
    let l = c.loop-needle in
    let needle = c.needle-item.result in
    let len = c.common_len-len.result in
    let all = map (λ v. v.items) c.args.needles.now in
    let there : needle_at all l.needle-index ≡ needle.items =
    get_or-map (λ v. v.items) c.args.needles.now l.needle-index needle [] c.loop-needle-test.true
    ∙ ap (λ v. v.items) (sym c.needle-item.is) in
    below_more (λ n. BeginsWith (take len l.common.now) (needle_at all n)) l.needle-index
    (λ n lt. shorter_begins l.common.now (needle_at all n) len (l.invariant n lt))
    (subst (BeginsWith (take len l.common.now)) (sym there)
    (common_begins l.common.now needle.items len
    (subst (λ s. take len l.common.now ≡ take len s) c.deref.ensures.value c.common_len-len.ensures.same)))
