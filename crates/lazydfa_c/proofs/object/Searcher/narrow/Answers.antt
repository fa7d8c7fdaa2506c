use Rattle.std.proofs.Common.{subst}
use Rattle.patterns.specs.Searches.{IsNarrowed}
use Rattle.patterns.specs.declared.pattern.Pattern.{Pattern}
use Rattle.lazydfa_c.proofs.object.Searcher.narrow.Goals as goal

pub returns : goal.returns
returns c =
    subst (λ (v : Pattern). IsNarrowed v c.args.input.now c.narrow.result) c.deref.ensures c.narrow.ensures.narrowed
