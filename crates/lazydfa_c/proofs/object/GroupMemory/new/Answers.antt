use Rattle.lazydfa_c.proofs.Sharing.{sizes_from}
use Rattle.lazydfa_c.proofs.object.GroupMemory.new.Goals as goal

pub returns-in-Ok : goal.returns-in-Ok
returns-in-Ok c = (
  sizes_from c.in_ok-simulations.simulations.items c.args.programs.now.list.items c.in_ok-simulations.ensures,
  c.in-Ok.ensures.room,
)
