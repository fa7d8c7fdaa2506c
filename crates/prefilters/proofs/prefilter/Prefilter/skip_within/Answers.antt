use Rattle.std.proofs.Common.{◌+◌, None, Some, ap, arith, subst}
use Rattle.prefilters.specs.NeedleSearches.{needles_in}
use Rattle.prefilters.specs.Needles.{SkipsTo}
use Rattle.prefilters.specs.declared.heads.Head.TheVariants.{Within}
use Rattle.prefilters.proofs.Skips.{beyond, far_enough, inside, missing}
use Rattle.prefilters.proofs.prefilter.Prefilter.skip_within.Goals as goal

pub returns-in_default : goal.returns-in_default
returns-in_default c =
    subst (λ near. SkipsTo c.args.hay.now (record { needles = near.needles; head = Within c.args.reach }) c.args.start
    c.args.end None) c.self.view_is
    (missing (needles_in c.self.inside.search) c.args.reach c.args.hay.now
    c.self.inside.longest c.saturating_add-past.result c.args.end (c.args.end + c.min.result) c.self.invariant
    c.requires.within
    (far_enough c.self.inside.longest c.args.reach c.saturating_add-past.result _ c.saturating_add-past.ensures
    (omega arith))
    (ap (λ n. c.args.end + n) c.min.ensures) c.args.start c.find.result c.in_default.not-Some
    c.find.ensures)

pub returns-then-first-end : goal.returns-then-first-end
returns-then-first-end c =
    subst (λ near. SkipsTo c.args.hay.now (record { needles = near.needles; head = Within c.args.reach }) c.args.start
    c.args.end None) c.self.view_is
    (beyond (needles_in c.self.inside.search) c.args.reach c.args.hay.now
    c.self.inside.longest c.saturating_add-past.result c.args.end (c.args.end + c.min.result) c.self.invariant
    c.requires.within
    (far_enough c.self.inside.longest c.args.reach c.saturating_add-past.result _ c.saturating_add-past.ensures
    (omega arith))
    (ap (λ n. c.args.end + n) c.min.ensures) c.args.start c.in-Some.at c.find.result c.in-Some.is
    (let less = c.if-first-end.true in let is = c.saturating_sub-first.ensures in omega (arith, less, is))
    c.find.ensures)

pub returns-else-first-end : goal.returns-else-first-end
returns-else-first-end c =
    subst (λ near. SkipsTo c.args.hay.now (record { needles = near.needles; head = Within c.args.reach }) c.args.start
    c.args.end (Some c.max.result)) c.self.view_is
    (inside (needles_in c.self.inside.search) c.args.reach c.args.hay.now
    c.self.inside.longest c.saturating_add-past.result c.args.end (c.args.end + c.min.result) c.self.invariant
    c.requires.within
    (far_enough c.self.inside.longest c.args.reach c.saturating_add-past.result _ c.saturating_add-past.ensures
    (omega arith))
    (ap (λ n. c.args.end + n) c.min.ensures) c.args.start c.in-Some.at c.max.result c.find.result c.in-Some.is
    c.requires.span
    (let less = c.if-first-end.false in let is = c.saturating_sub-first.ensures in omega (arith, less, is))
    (let most = c.max.ensures in let is = c.saturating_sub-first.ensures in omega (arith, most, is))
    c.find.ensures)
