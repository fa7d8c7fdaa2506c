use Rattle.std.proofs.Common.{length}
use Rattle.automata_determinize.proofs.determinize.read.+groups_in.Given as goal

abbrev pub decreases-groups_in : goal.decreases-groups_in
decreases-groups_in l = length l.bytes.now
