use Rattle.std.proofs.Common.{ℕ, ◌≡◌, ◌⊎◌, drop, is_some, true}
use Rattle.automata_base.specs.Nfas.Nfa.{takes_in}
use Rattle.automata_base.specs.Nfas.Nodes.{ranges_of}
use Rattle.prefilters.specs.Bytes.{in_table}
use Rattle.prefilters.proofs.first_bytes.add_ranges.Given as goal

abbrev pub invariant-loop-transition : goal.invariant-loop-transition
invariant-loop-transition l =
    ((byte : ℕ) → in_table l.initial.table byte ≡ true → in_table l.table byte ≡ true)
    × ((byte : ℕ) → is_some (takes_in (ranges_of l.transitions) byte) ≡ true
    → (in_table l.table byte ≡ true)
    ⊎ (is_some (takes_in (ranges_of (drop l.transition-index l.transitions)) byte) ≡ true))
