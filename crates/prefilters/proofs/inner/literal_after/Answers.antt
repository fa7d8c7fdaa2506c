use Rattle.std.proofs.Common.{◌∙◌, ◌++◌, ◌<◌, ◌∷◌, [], ap, arith, length, map, take}
use Rattle.regex_extract.specs.Needles.{needles_of}
use Rattle.regex_hir.specs.Meaning.{cat_all, meaning}
use Rattle.prefilters.proofs.Following.{literal_follows, near_after}
use Rattle.prefilters.proofs.inner.literal_after.Goals as goal

pub returns : goal.returns
returns c =
    let parts = c.args.parts.now in
    let bytes = c.literal_of-bytes.result.now in
    let long : 0 < length bytes = let least = c.if-bytes-lt-LITERAL.false in omega (arith, least) in
    near_after (cat_all (map meaning parts)) (cat_all (map meaning (take c.args.at parts))) (bytes ∷ [])
    (needles_of c.push.new.self) c.of_sequence.result c.new.result
    (ap (map (λ v. v.items)) (c.in_ok-push.ensures.items
    ∙ ap (λ vs. vs ++ c.in_ok-needle.needle ∷ []) c.new-needles.ensures.items)
    ∙ ap (λ v. v ∷ []) c.in_ok-needle.ensures.items)
    (literal_follows parts c.args.at c.index-parts-at.result bytes c.requires c.index-parts-at.is long
    (c.literal_of-bytes.ensures long))
    c.of_sequence.ensures c.new.ensures
