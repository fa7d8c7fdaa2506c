use Rattle.prefilters.proofs.Anchoring.{anchored_span}
use Rattle.prefilters.proofs.laws.anchored_search_is_enough.Goals as goal

pub returns : goal.returns
returns c = λ d input p half kind full m a. anchored_span d input p half kind full m a
