use Rattle.std.proofs.Common.{ap}
use Rattle.automata_base.specs.Haystacks.StartConfig.{StartConfig}
use Rattle.automata_base.proofs.util.start.Config.get_look_behind.Goals as goal

pub returns : goal.returns
returns c = ap (λ (s : StartConfig). s.look_behind) c.self.view_is
