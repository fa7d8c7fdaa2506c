use Rattle.std.proofs.Common.{ap}
use Rattle.automata_base.specs.Haystacks.Input.{Input}
use Rattle.automata_base.proofs.util.search.Input.haystack.Goals as goal

pub returns-clause-same : goal.returns-clause-same
returns-clause-same c = ap (λ (i : Input). i.haystack) c.self.view_is
