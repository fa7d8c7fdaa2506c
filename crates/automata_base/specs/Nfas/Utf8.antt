-- What the paths of an NFA read, with every look taken as true, and whether it is UTF-8.
use Rattle.std.specs.Prelude.{ℕ, ◌≡◌, ◌<◌, List, [], ◌∷◌, Some, reverse, IsUtf8}
use Rattle.automata_base.specs.Lists.{In}
use Rattle.automata_base.specs.Haystacks.Looks.{Look}
use Rattle.automata_base.specs.Nfas.Nfa.{Nfa, hop, takes, accepts}
use Rattle.automata_base.specs.Nfas.Nodes.{Automaton, nfa_of}
use Rattle.automata_base.specs.Powersets.Passes.{Occurs}
use Rattle.automata_base.specs.Paths.Paths.{all_true}
use Rattle.automata_base.specs.Haystacks.Tapes.{Direction, Forward, Backward}

-- Edges lead from one state over these bytes to another, with every look taken as true.
pub data ReadsTo (n : Nfa) : ℕ → List ℕ → ℕ → Type 0 where
  ends : {q : ℕ} → ReadsTo n q [] q
  goes :
      {q r z : ℕ} {bytes : List ℕ} (e : ℕ) → hop n all_true q e ≡ Some r → ReadsTo n r bytes z → ReadsTo n q bytes z
  reads :
      {q u r z : ℕ} {bytes : List ℕ} → u < 256 → takes n q u ≡ Some r → ReadsTo n r bytes z
      → ReadsTo n q (u ∷ bytes) z

-- Bytes read in this direction, in the order of the haystack.
abbrev pub in_order : Direction → List ℕ → List ℕ
in_order Forward bytes = bytes
in_order Backward bytes = reverse bytes

-- The bytes that lead from the anchored start or a pattern's start to a match state are UTF-8.
abbrev pub ReadsUtf8 : Direction → Automaton → Type 0
ReadsUtf8 way a =
    (start q p : ℕ) (bytes : List ℕ) → In start (a.start_anchored ∷ a.start_pattern)
    → ReadsTo (nfa_of a) start bytes q → accepts (nfa_of a) q ≡ Some p → IsUtf8 (in_order way bytes)

-- No state is a look.
abbrev pub HasNoLook : Automaton → Type 0
HasNoLook a = (look : Look) → Occurs (nfa_of a) look → ⊥
