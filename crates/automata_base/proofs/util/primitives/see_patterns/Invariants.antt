use Rattle.std.proofs.Common.{ℕ, ◌<◌, get_or}
use Rattle.automata_base.specs.Powersets.Powerset.{IsId}
use Rattle.automata_base.proofs.util.primitives.see_patterns.Given as goal

abbrev pub invariant-loop-id : goal.invariant-loop-id
invariant-loop-id l = (k d : ℕ) → k < l.id-index → IsId (get_or l.ids k d)
