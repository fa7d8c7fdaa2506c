use Rattle.std.proofs.Common.{ap}
use Rattle.automata_base.specs.Haystacks.Input.{Input}
use Rattle.automata_base.proofs.util.search.Input.earliest.Goals as goal

pub returns : goal.returns
returns c = ap (λ (i : Input). record i { earliest = c.args.yes }) c.self.view_is
