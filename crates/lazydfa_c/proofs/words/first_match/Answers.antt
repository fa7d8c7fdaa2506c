use Rattle.std.proofs.Common.{subst, sym}
use Rattle.meta.specs.Caches.{HaveRoomFor}
use Rattle.lazydfa_c.proofs.Sharing.{rooms_from, sizes_from}
use Rattle.lazydfa_c.proofs.words.first_match.Goals as goal

pub find_first-requires-clause-rooms : goal.find_first-requires-clause-rooms
find_first-requires-clause-rooms c =
    rooms_from c.args.memory.now.simulations.items c.args.programs.now.list.items c.requires.room.0

pub returns-clause-room : goal.returns-clause-room
returns-clause-room c = (
  sizes_from c.find_first.new.self.simulations.items c.args.programs.now.list.items c.find_first.ensures.rooms,
  subst (λ captures. HaveRoomFor captures c.args.programs.now) (sym c.find_first.ensures.captures) c.requires.room.1,
)
