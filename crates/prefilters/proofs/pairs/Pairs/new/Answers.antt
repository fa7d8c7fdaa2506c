use Rattle.std.proofs.Common.{IfSome, map, subst}
use Rattle.regex_extract.specs.Needles.{needles_of}
use Rattle.prefilters.specs.Pairs.{AllBeginWithByte, CoversNeedles, HasFolds, ReachesAtMost}
use Rattle.prefilters.proofs.pairs.Pairs.new.Goals as goal

pub invariant_of-result : goal.invariant_of-result
invariant_of-result c = (
  subst (λ vs. HasFolds c.in_ok-fold.fold (map (λ w. w.items) vs) (needles_of c.in_ok-folded.folded))
      c.deref-2.ensures.value c.in_ok-folded.ensures,
  subst (λ vs. CoversNeedles c.in_ok-fold.fold c.in_ok-pairs.pairs.items (map (λ w. w.items) vs))
      c.deref-4.ensures.value (c.in_ok-pairs.ensures c.in_ok-fold.fold),
  subst (λ ps. ReachesAtMost ps c.reach_of-reach.result) c.deref-5.ensures.value c.reach_of-reach.ensures,
  λ byte is.
      subst (λ vs. AllBeginWithByte byte (map (λ w. w.items) vs)) c.deref-7.ensures.value
      (subst (λ o. IfSome o (λ b. AllBeginWithByte b (map (λ w. w.items) c.deref-7.result.now))) is
      c.common_of-common.ensures),
)
