use Rattle.std.proofs.Common.{[], ◌∙◌, ◌-◌, ◌<◌, arith, length, map, sym}
use Rattle.std.proofs.lemmas.Bool.Decides.{Decides-eqb}
use Rattle.std.proofs.lemmas.List.{get_or_default, length-map}
use Rattle.std.proofs.lemmas.Slice.Eq.{slice_eq-Decides}
use Rattle.patterns.proofs.Beginnings.{needle_item}
use Rattle.patterns.proofs.needles.ends_with.Goals as goal

pub returns : goal.returns
returns c = λ same.
    let vs = c.args.needles.now in
    let all = map (λ v. v.items) vs in
    let last : length vs - 1 < length vs = omega arith in
    let inside : length vs - 1 < length all = omega (arith, last, length-map vs (λ v. v.items)) in (
      length vs - 1,
      inside,
      get_or_default all (length vs - 1) c.args.needle.now [] inside
          ∙ (needle_item vs (length vs - 1) c.index-needles-len.result last c.index-needles-len.is
          ∙ (sym c.as_slice.ensures.value
          ∙ (slice_eq-Decides Decides-eqb c.as_slice.result.now c.args.needle.now c.eq.result c.eq.ensures).0 same)),
    )
