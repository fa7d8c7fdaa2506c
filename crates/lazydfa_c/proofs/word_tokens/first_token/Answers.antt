use Rattle.std.proofs.Common.{subst, sym}
use Rattle.meta.specs.Caches.{HaveRoomFor}
use Rattle.lazydfa_c.proofs.Sharing.{rooms_from, sizes_from}
use Rattle.lazydfa_c.proofs.word_tokens.first_token.Goals as goal

pub match_at-found-requires-clause-rooms : goal.match_at-found-requires-clause-rooms
match_at-found-requires-clause-rooms c =
    rooms_from c.args.memory.now.simulations.items c.args.programs.now.list.items c.requires.room.0

pub returns-clause-room : goal.returns-clause-room
returns-clause-room c = (
  sizes_from c.match_at-found.new.self.simulations.items c.args.programs.now.list.items c.match_at-found.ensures.rooms,
  subst (λ captures. HaveRoomFor captures c.args.programs.now) (sym c.match_at-found.ensures.captures)
      c.requires.room.1,
)
