use Rattle.std.proofs.Common.{ap}
use Rattle.automata_base.specs.Haystacks.StartConfig.{StartConfig}
use Rattle.automata_base.proofs.util.start.Config.anchored.Goals as goal

pub returns : goal.returns
returns c = ap (λ (s : StartConfig). record s { anchored = c.args.mode }) c.self.view_is
