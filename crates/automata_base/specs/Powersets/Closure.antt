-- The depth-first search that makes a closure.
use Rattle.std.specs.Prelude.{ℕ, cond, List, [], ◌∷◌, ◌++◌}
use Rattle.automata_base.specs.Lists.{In}
use Rattle.automata_base.specs.Nfas.Nfa.{Nfa, Node, Split, Assert, Read, Accept, Truth, node}

-- The targets of the epsilon edges of a node, in order. A look has one, where it holds.
abbrev pub children_at : Node → Truth → List ℕ
children_at (Split alternates) A = alternates
children_at (Assert look next) A = cond (A look) (next ∷ []) []
children_at (Read ranges) A = []
children_at (Accept p) A = []

-- The targets of the epsilon edges of `q`, in order.
abbrev pub children : Nfa → Truth → ℕ → List ℕ
children n A q = children_at (node n q) A

-- The states that are visited from here on, in order, from this stack and with these states visited: a state on top
-- that was visited is dropped; any other is visited, and its children are pushed on top.
pub data Visits (n : Nfa) (A : Truth) : List ℕ → List ℕ → List ℕ → Type 0 where
  done : {seen : List ℕ} → Visits n A [] seen []
  skip : {x : ℕ} {stack seen out : List ℕ} → In x seen → Visits n A stack seen out → Visits n A (x ∷ stack) seen out
  visit : {x : ℕ} {stack seen out : List ℕ} → (In x seen → ⊥)
      → Visits n A (children n A x ++ stack) (x ∷ seen) out → Visits n A (x ∷ stack) seen (x ∷ out)

-- A loop that visits from the roots is under way: these states are visited, in this order, and this stack is left. With
-- the states that the visits from this stack add, they are the visits from the roots.
abbrev pub IsUnderWay : Nfa → Truth → List ℕ → List ℕ → List ℕ → Type 0
IsUnderWay n A roots stack visited =
    (rest : List ℕ) → Visits n A stack visited rest → Visits n A roots [] (visited ++ rest)
