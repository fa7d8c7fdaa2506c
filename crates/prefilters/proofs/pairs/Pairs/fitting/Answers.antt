use Rattle.std.proofs.Common.{◌+◌, subst, sym}
use Rattle.regex_extract.specs.Needles.{needles_of}
use Rattle.prefilters.specs.Pairs.{CoversNeedles, HasFolds}
use Rattle.prefilters.proofs.Covering.{begins_there, both_set, some_fits}
use Rattle.prefilters.proofs.pairs.Pairs.fitting.Goals as goal

pub returns-in_default-clause-set : goal.returns-in_default-clause-set
returns-in_default-clause-set c = λ k few found.
    c.candidates.ensures k few
    (some_fits c.self.inside.fold c.deref.result.now c.args.self.now (needles_of c.self.inside.folded) c.args.hay.now
    (c.args.at + k)
    (subst (λ ns. HasFolds c.self.inside.fold ns (needles_of c.self.inside.folded)) c.self.view_is c.self.invariant.0)
    (subst (λ ps. CoversNeedles c.self.inside.fold ps (needles_of c.self.inside.folded)) (sym c.deref.ensures.value)
    c.self.invariant.1) found)

pub returns-then-mask-eq0-clause-set : goal.returns-then-mask-eq0-clause-set
returns-then-mask-eq0-clause-set c = λ k few found.
    c.equal-mask.ensures k few
    (begins_there c.self.inside.fold c.in-Some.byte c.args.self.now (needles_of c.self.inside.folded) c.args.hay.now
    (c.args.at + k)
    (subst (λ ns. HasFolds c.self.inside.fold ns (needles_of c.self.inside.folded)) c.self.view_is c.self.invariant.0)
    (c.self.invariant.3 c.in-Some.byte c.in-Some.is) found)

pub returns-clause-set : goal.returns-clause-set
returns-clause-set c = λ k few found.
    let folds =
    subst (λ ns. HasFolds c.self.inside.fold ns (needles_of c.self.inside.folded)) c.self.view_is c.self.invariant.0 in
    both_set c.equal-mask.result c.candidates-2.result k
    (c.equal-mask.ensures k few
    (begins_there c.self.inside.fold c.in-Some.byte c.args.self.now (needles_of c.self.inside.folded) c.args.hay.now
    (c.args.at + k) folds (c.self.invariant.3 c.in-Some.byte c.in-Some.is) found))
    (c.candidates-2.ensures k few
    (some_fits c.self.inside.fold c.deref-2.result.now c.args.self.now (needles_of c.self.inside.folded)
    c.args.hay.now (c.args.at + k) folds
    (subst (λ ps. CoversNeedles c.self.inside.fold ps (needles_of c.self.inside.folded)) (sym c.deref-2.ensures.value)
    c.self.invariant.1) found))
