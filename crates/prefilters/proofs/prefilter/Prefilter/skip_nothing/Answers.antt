use Rattle.std.proofs.Common.{◌∙◌, None, length, subst, sym}
use Rattle.std.proofs.lemmas.Option.{none-some}
use Rattle.prefilters.specs.NeedleSearches.{needles_in}
use Rattle.prefilters.specs.Needles.{SkipsTo}
use Rattle.prefilters.proofs.Skips.{none_left}
use Rattle.prefilters.proofs.prefilter.Prefilter.skip_nothing.Goals as goal

pub returns-in-None : goal.returns-in-None
returns-in-None c =
    subst (λ near. SkipsTo c.args.hay.now near c.args.start (length c.args.hay.now) None) c.self.view_is
    (none_left (record { needles = needles_in c.self.inside.search; head = c.self.inside.head }) c.args.hay.now
    c.args.start c.find.result (λ at e. none-some at (sym c.in-None.is ∙ e)) c.find.ensures)
