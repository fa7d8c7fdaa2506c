-- Paths through an NFA along a tape.
use Rattle.std.specs.Prelude.{ℕ, zero, suc, ◌≡◌, true, List, [], ◌∷◌, ◌⊎◌, Option, Some, slice_get}
use Rattle.automata_base.specs.Haystacks.Looks.{Look, holds}
use Rattle.automata_base.specs.Lists.{In, IsListOf, From}
use Rattle.automata_base.specs.Nfas.Nfa.{Nfa, Split, Assert, Truth, node, hop, takes, keeps}

-- A span as a search reads it: its bytes in the order in which they are read, and the bytes of the haystack beside it.
pub record Tape : Type 0 where
  -- the byte before the first one that is read, if the haystack has it
  pub before : Option ℕ
  -- the bytes of the span, in the order in which they are read
  pub bytes : List ℕ
  -- the byte after the last one that is read, if the haystack has it
  pub after : Option ℕ

-- The byte before a place: at the first place, the byte beside the span.
abbrev pub prev_in : Option ℕ → List ℕ → ℕ → Option ℕ
prev_in before bytes zero = before
prev_in before bytes (suc i) = slice_get bytes i

-- The byte after a place: after the last byte of the span, the byte beside it.
abbrev pub next_in : List ℕ → Option ℕ → ℕ → Option ℕ
next_in [] after i = after
next_in (u ∷ us) after zero = Some u
next_in (u ∷ us) after (suc i) = next_in us after i

-- The byte before a place of a tape.
abbrev pub prev : Tape → ℕ → Option ℕ
prev t i = prev_in t.before t.bytes i

-- The byte after a place of a tape.
abbrev pub next : Tape → ℕ → Option ℕ
next t i = next_in t.bytes t.after i

-- Which looks hold at place `i`.
abbrev pub truth : Nfa → Tape → ℕ → Truth
truth n t i look = holds n.terminator n.reverse look (prev t i) (next t i)

-- At place `i` the state `q` has an edge to `r` at the next place of the span.
abbrev pub Moves : Nfa → Tape → ℕ → ℕ → ℕ → Type 0
Moves n t i q r = (u : ℕ) × (slice_get t.bytes i ≡ Some u) × (takes n q u ≡ Some r)

-- A path at one place, by the numbers of its edges, from `q` to `z`, which visits no state of `seen` and no state
-- twice.
abbrev pub IsPathAt : Nfa → Truth → List ℕ → ℕ → List ℕ → ℕ → Type 0
IsPathAt n A seen q [] z = q ≡ z
IsPathAt n A seen q (e ∷ path) z =
    (r : ℕ) × (hop n A q e ≡ Some r) × (In r (q ∷ seen) → ⊥) × IsPathAt n A (q ∷ seen) r path z

-- What a path does by its edge `e` from `q` at place `i`, where it visited the states of `seen` there before. `Here`
-- and `Later` say how it continues from the state that the edge leads to: at this place, or at the next one.
pub data TakesEdge (n : Nfa) (t : Tape) (i : ℕ) (seen : List ℕ) (q e : ℕ) (Here Later : ℕ → Type 0) : Type 0 where
  -- it stays at its place, at a state that it has not visited there
  StaysHere :
      (r : ℕ) → hop n (truth n t i) q e ≡ Some r → (In r (q ∷ seen) → ⊥) → Here r
      → TakesEdge n t i seen q e Here Later
  -- it reads the byte there
  ReadsByte : (r : ℕ) → e ≡ 0 → Moves n t i q r → Later r → TakesEdge n t i seen q e Here Later

-- A path from `q` at place `i` to `z` at place `j`, where the states of `seen` were visited at place `i` before: a
-- sequence of edges with no state twice at one place.
abbrev pub IsPathFrom : Nfa → Tape → ℕ → List ℕ → ℕ → List ℕ → ℕ → ℕ → Type 0
IsPathFrom n t i seen q [] j z = (i ≡ j) × (q ≡ z)
IsPathFrom n t i seen q (e ∷ path) j z =
    TakesEdge n t i seen q e (λ r. IsPathFrom n t i (q ∷ seen) r path j z)
    (λ r. IsPathFrom n t (suc i) [] r path j z)

-- A path from the start to `q` at place `i`.
abbrev pub IsPath : Nfa → Tape → ℕ → ℕ → ℕ → List ℕ → Type 0
IsPath n t start i q path = IsPathFrom n t 0 [] start path i q

-- Every look is taken as true.
abbrev pub all_true : Truth
all_true look = true

-- `q` leads to `z` by these epsilon edges, with every look taken as true.
abbrev pub Run : Nfa → ℕ → List ℕ → ℕ → Type 0
Run n q [] z = q ≡ z
Run n q (e ∷ path) z = (r : ℕ) × (hop n all_true q e ≡ Some r) × Run n r path z

-- `q` leads to `z` by any number of epsilon edges, with every look taken as true.
abbrev pub HasEpsilonPath : Nfa → ℕ → ℕ → Type 0
HasEpsilonPath n q z = (path : List ℕ) × Run n q path z

-- `q` leads to `z` by at least one epsilon edge, with every look taken as true.
abbrev pub LeadsOn : Nfa → ℕ → ℕ → Type 0
LeadsOn n q z = (e r : ℕ) × (hop n all_true q e ≡ Some r) × HasEpsilonPath n r z

-- No cycle of epsilon edges passes a look.
abbrev pub IsLookAcyclic : Nfa → Type 0
IsLookAcyclic n = (q : ℕ) (look : Look) (next : ℕ) → node n q ≡ Assert look next → LeadsOn n q q → ⊥

-- The state has one alternate, as a capture has.
abbrev pub IsSingle : Nfa → ℕ → Type 0
IsSingle n q = (r : ℕ) × (node n q ≡ Split (r ∷ []))

-- A state on a cycle of epsilon edges is kept by powerset states if some state on the cycle is, or it has one
-- alternate. This holds if no cycle passes a look, and also if unions are kept.
abbrev pub KeepsCycles : Nfa → Type 0
KeepsCycles n =
    (x y : ℕ) → keeps n x ≡ true → LeadsOn n x y → HasEpsilonPath n y x → (keeps n y ≡ true) ⊎ IsSingle n y

-- The states reached from the roots at one place, each once, ordered by the least (index of the root, path).
abbrev pub IsClosure : Nfa → Truth → List ℕ → List ℕ → Type 0
IsClosure n A roots xs = IsListOf (From (λ root path q. IsPathAt n A [] root path q) roots) xs
