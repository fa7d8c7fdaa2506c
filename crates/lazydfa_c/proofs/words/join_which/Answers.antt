use Rattle.std.proofs.Common.{subst, sym}
use Rattle.meta.specs.Caches.{HaveRoomFor}
use Rattle.lazydfa_c.proofs.Sharing.{rooms_from, sizes_from}
use Rattle.lazydfa_c.proofs.words.join_which.Goals as goal

pub join_which-requires : goal.join_which-requires
join_which-requires c =
    rooms_from c.args.memory.now.simulations.items c.args.programs.now.list.items c.requires.0

pub returns-clause-room : goal.returns-clause-room
returns-clause-room c = (
  sizes_from c.join_which.new.self.simulations.items c.args.programs.now.list.items c.join_which.ensures.rooms,
  subst (λ captures. HaveRoomFor captures c.args.programs.now) (sym c.join_which.ensures.captures) c.requires.1,
)
