use Rattle.std.proofs.Common.{ap}
use Rattle.automata_base.specs.Haystacks.StartConfig.{StartConfig}
use Rattle.automata_base.proofs.util.start.Config.look_behind.Goals as goal

pub returns : goal.returns
returns c = ap (λ (s : StartConfig). record s { look_behind = c.args.byte }) c.self.view_is
