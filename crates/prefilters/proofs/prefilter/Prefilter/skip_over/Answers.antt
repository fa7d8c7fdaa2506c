use Rattle.std.proofs.Common.{◌∙◌, None, Some, length, subst, sym}
use Rattle.std.proofs.lemmas.Option.{none-some}
use Rattle.prefilters.specs.NeedleSearches.{needles_in}
use Rattle.prefilters.specs.Needles.{SkipsTo}
use Rattle.prefilters.specs.declared.heads.Head.TheVariants.{Of}
use Rattle.prefilters.proofs.Skips.{none_left, over_run}
use Rattle.prefilters.proofs.prefilter.Prefilter.skip_over.Goals as goal

pub returns-in-Some : goal.returns-in-Some
returns-in-Some c =
    subst (λ near. SkipsTo c.args.hay.now (record { needles = near.needles; head = Of c.args.table.now }) c.args.start
    (length c.args.hay.now) (Some c.run_start.result)) c.self.view_is
    (over_run (needles_in c.self.inside.search) c.args.table.now c.args.hay.now c.args.start c.in-Some.at
    c.run_start.result c.find.result c.in-Some.is c.find.ensures c.run_start.ensures)

pub returns-in-None : goal.returns-in-None
returns-in-None c =
    subst (λ near. SkipsTo c.args.hay.now (record { needles = near.needles; head = Of c.args.table.now }) c.args.start
    (length c.args.hay.now) None) c.self.view_is
    (none_left (record { needles = needles_in c.self.inside.search; head = Of c.args.table.now }) c.args.hay.now
    c.args.start c.find.result (λ at e. none-some at (sym c.in-None.is ∙ e)) c.find.ensures)
