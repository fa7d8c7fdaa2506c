use Rattle.std.proofs.Common.{ap}
use Rattle.automata_base.specs.Haystacks.Input.{Input}
use Rattle.automata_base.proofs.util.search.Input.get_earliest.Goals as goal

pub returns : goal.returns
returns c = ap (λ (i : Input). i.earliest) c.self.view_is
