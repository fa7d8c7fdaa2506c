use Rattle.std.proofs.Common.{ℕ, ◌≡◌, ◌<◌, is_some, true}
use Rattle.automata_base.specs.Nfas.Nfa.{takes_at}
use Rattle.automata_base.specs.Nfas.Nodes.{node_of}
use Rattle.prefilters.specs.Bytes.{in_table}
use Rattle.prefilters.proofs.first_bytes.add_tested.Given as goal

abbrev pub invariant-loop-byte : goal.invariant-loop-byte
invariant-loop-byte l =
    ((byte : ℕ) → in_table l.initial.table byte ≡ true → in_table l.table byte ≡ true)
    × ((byte : ℕ) → byte < l.byte → is_some (takes_at (node_of l.state) byte) ≡ true
    → in_table l.table byte ≡ true)
