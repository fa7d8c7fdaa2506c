use Rattle.std.proofs.Common.{ℕ, take}
use Rattle.automata_base.specs.Lists.{In}
use Rattle.automata_base.specs.Retraced.Reach.{node_in}
use Rattle.prefilters.specs.FirstBytes.{ReadsFirstBytes}
use Rattle.prefilters.proofs.first_bytes.add_all.Given as goal

abbrev pub invariant-loop-id : goal.invariant-loop-id
invariant-loop-id l = (q : ℕ) → In q (take l.id-index l.ids) → ReadsFirstBytes l.table (node_in l.states q)
