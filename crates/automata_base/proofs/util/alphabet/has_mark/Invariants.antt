use Rattle.std.proofs.Common.{ℕ, ◌≡◌, ◌+◌, ◌<◌, false}
use Rattle.automata_base.specs.Retraced.Boundaries.{is_marked}
use Rattle.automata_base.proofs.util.alphabet.has_mark.Given as goal

abbrev pub invariant-loop-i : goal.invariant-loop-i
invariant-loop-i l = l.any ≡ false → (k : ℕ) → k < l.i → is_marked l.marks (l.at + k) ≡ false
