use Rattle.std.proofs.Common.{ap, subst, sym}
use Rattle.std.specs.Prelude.{option_map}
use Rattle.lazydfa_c.specs.Programs.{HasRoomForGroups}
use Rattle.lazydfa_c.proofs.object.Searcher.simulate_token.Goals as goal

pub first_token-requires-clause-room : goal.first_token-requires-clause-room
first_token-requires-clause-room c =
    subst (HasRoomForGroups c.in-Some-groups.memory) (sym c.deref.ensures)
    (c.args.self.now.rooms.1 c.in-Some-groups.memory c.in-Some-groups.is c.in-Some.programs.value
    (ap (option_map (λ programs. programs.value)) c.in-Some.is))
