-- Laws about what powerset states keep.
use Rattle.std.specs.Prelude.{ℕ, ◌≡◌, true, false, cond, List, Some, None}
use Rattle.automata_base.specs.Lists.{pick}
use Rattle.automata_base.specs.Nfas.Nfa.{Nfa, node, stays_at, keep}
use Rattle.automata_base.specs.Paths.Paths.{IsLookAcyclic, KeepsCycles}

-- An NFA without a look cycle keeps its cycles.
abbrev pub AcyclicKeepsCycles : Type 0
AcyclicKeepsCycles = (n : Nfa) → IsLookAcyclic n → KeepsCycles n

-- An NFA that keeps unions keeps its cycles.
abbrev pub UnionsKeepCycles : Type 0
UnionsKeepCycles = (n : Nfa) → n.keeps_unions ≡ true → KeepsCycles n

-- If an NFA does not keep unions, its powerset states have only the byte, look and match states of a closure.
abbrev pub UnionsAreDropped : Type 0
UnionsAreDropped =
    (n : Nfa) (closure : List ℕ) → n.keeps_unions ≡ false
    → pick (keep n) closure ≡ pick (λ q. cond (stays_at (node n q)) (Some q) None) closure
