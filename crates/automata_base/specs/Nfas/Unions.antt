-- An NFA whose powerset states keep unions.
use Rattle.std.specs.Prelude.{◌≡◌, ◌↔◌, IsTrue}
use Rattle.automata_base.specs.Nfas.Nodes.{Automaton, nfa_of}
use Rattle.automata_base.specs.Paths.Paths.{IsLookAcyclic}

-- `kept` is `a`, and keeps unions exactly if `a` has a look cycle.
abbrev pub IsKeepingUnions : (a kept : Automaton) → Type 0
IsKeepingUnions a kept =
    (kept ≡ record a { keeps_unions = kept.keeps_unions })
    × (IsTrue kept.keeps_unions ↔ (IsLookAcyclic (nfa_of a) → ⊥))
