use Rattle.std.proofs.Common.{ap}
use Rattle.automata_base.specs.Haystacks.Matches.{HalfMatch}
use Rattle.automata_base.proofs.util.search.HalfMatch.offset.Goals as goal

pub returns : goal.returns
returns c = ap (λ (m : HalfMatch). m.offset) c.self.view_is
