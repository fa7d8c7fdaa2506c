use Rattle.std.proofs.Common.{refl, subst}
use Rattle.prefilters.specs.Pairs.{IsFoldedNeedle}
use Rattle.prefilters.proofs.Covering.{has_fold_at}
use Rattle.prefilters.proofs.pairs.has_fold.Goals as goal

pub returns-then-is_fold : goal.returns-then-is_fold
returns-then-is_fold c = λ true.
    has_fold_at c.args.fold c.args.needle.now c.args.folded.now c.loop-own.own-index c.own-item.result
    c.loop-own-test.true c.own-item.is
    (subst (λ v. IsFoldedNeedle c.args.fold c.args.needle.now v) c.deref.ensures.value (c.if-is_fold.ensures refl))
