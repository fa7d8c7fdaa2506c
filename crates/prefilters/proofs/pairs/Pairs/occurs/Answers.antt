use Rattle.std.proofs.Common.{map, subst}
use Rattle.regex_extract.specs.Needles.{needles_of}
use Rattle.prefilters.specs.Pairs.{HasFolds, NoFoldOccurs}
use Rattle.prefilters.proofs.Covering.{none_folded}
use Rattle.prefilters.proofs.pairs.Pairs.occurs.Goals as goal

pub returns : goal.returns
returns c = λ false.
    none_folded c.self.inside.fold c.args.hay.now c.args.self.now (needles_of c.self.inside.folded) c.args.at
    (subst (λ ns. HasFolds c.self.inside.fold ns (needles_of c.self.inside.folded)) c.self.view_is c.self.invariant.0)
    (subst (λ vs. NoFoldOccurs c.self.inside.fold c.args.hay.now (map (λ w. w.items) vs) c.args.at)
    c.deref.ensures.value (c.any_occurs.ensures false))
