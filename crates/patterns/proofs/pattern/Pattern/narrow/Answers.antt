use Rattle.std.proofs.Common.{inr, subst, ap, ◌∙◌}
use Rattle.automata_base.specs.Answers.Spans.{from}
use Rattle.automata_base.specs.Haystacks.Input.{Input}
use Rattle.prefilters.specs.Needles.{SkipsTo}
use Rattle.patterns.proofs.Skips.{none_is, over, skips_all, skips_to}
use Rattle.patterns.proofs.pattern.Pattern.narrow.Goals as goal

pub returns-in_default-skip-clause-narrowed : goal.returns-in_default-skip-clause-narrowed
returns-in_default-skip-clause-narrowed c =
    let p = c.args.self.now in
    let input = c.args.input.now in
    skips_all p _ input c.in-Some.is (c.is_lazy.ensures c.if-is_lazy.true) (p.begins _ c.in-Some.is)
    c.start.ensures.valid (c.may_skip.ensures.free c.if-may_skip.true) (c.may_skip.ensures.undone c.if-may_skip.true)
    (subst (SkipsTo input.haystack _ input.start input.end) (none_is c.skip.result c.in_default-skip.not-Some)
    (over _ input c.haystack.result.now c.start.result c.end.result c.skip.result c.haystack.ensures.same
    c.start.ensures.start c.end.ensures.end c.skip.ensures))

pub returns-in-Some-skip-clause-narrowed : goal.returns-in-Some-skip-clause-narrowed
returns-in-Some-skip-clause-narrowed c =
    let p = c.args.self.now in
    let input = c.args.input.now in
    let at = c.in-Some-skip.at in
    let skipped =
    skips_to p _ input c.in-Some.is (c.is_lazy.ensures c.if-is_lazy.true) (p.begins _ c.in-Some.is)
    c.start.ensures.valid (c.may_skip.ensures.free c.if-may_skip.true) (c.may_skip.ensures.undone c.if-may_skip.true)
    at
    (subst (SkipsTo input.haystack _ input.start input.end) c.in-Some-skip.is
    (over _ input c.haystack.result.now c.start.result c.end.result c.skip.result c.haystack.ensures.same
    c.start.ensures.start c.end.ensures.end c.skip.ensures)) in
    inr (
      skipped.0,
      at,
      skipped.1,
      c.set_start.ensures ∙ ap (λ (v : Input). from at v) c.copied-narrowed.ensures.same,
    )
