use Rattle.std.proofs.Common.{◌≡◌, ◌++◌}
use Rattle.automata_determinize.proofs.determinize.ids.read_ids.Given as goal

abbrev pub invariant-loop-id : goal.invariant-loop-id
invariant-loop-id l = l.out.items ++ l.id-iterator ≡ l.fn.ids
