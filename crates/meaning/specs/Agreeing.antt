-- How runs of the kit's NFA correspond to least accepting paths of this library.
use Rattle.std.specs.Prelude.{ℕ, suc, ◌≡◌, ◌+◌, ◌<◌, ◌≤◌, false, List, [], ◌∷◌, length, Option, Some, None, slice_get}
use Rattle.regex_hir.specs.Looks as kit_looks
use Rattle.regex_hir.specs.declared.look.Look as kit_look
use Rattle.regex_hir.specs.Re.{Re}
use Rattle.regex_compile.specs.Implements.{HasPaths, Implements}
use Rattle.regex_nfa.specs.Run.{state_of}
use Rattle.regex_nfa.specs.Sides.{is_unicode_look}
use Rattle.regex_nfa.specs.declared.state.State.TheVariants as kit
use Rattle.regex_nfa.specs.declared.nfa.Nfa as kit_nfa
use Rattle.automata_base.specs.Haystacks.Looks as our
use Rattle.automata_base.specs.Haystacks.Matches.{HalfMatch}
use Rattle.automata_base.specs.Haystacks.Tapes.{byte_before}
use Rattle.automata_base.specs.Nfas.Nfa.{Nfa, node, accepts}
use Rattle.automata_base.specs.Paths.Order.{Upto}
use Rattle.automata_base.specs.Paths.Paths.{Tape, IsPathFrom}
use Rattle.meaning.specs.Translated.{look_of, node_of}

-- The NFA has no Unicode look.
abbrev pub HasNoUnicodeLook : kit_nfa.Nfa → Type 0
HasNoUnicodeLook k = (q r : ℕ) (l : kit_look.Look) → state_of k q ≡ kit.Look l r → is_unicode_look l ≡ false

-- On this haystack each look of the NFA holds where the same look of this library holds.
abbrev pub HasSameLooks : List ℕ → kit_nfa.Nfa → Type 0
HasSameLooks hay k =
    (q r : ℕ) (l : kit_look.Look) → state_of k q ≡ kit.Look l r → (i : ℕ) → i ≤ length hay
    → kit_looks.holds l hay i ≡ our.holds 10 false (look_of l) (byte_before hay i) (slice_get hay i)

-- Each of these has the property.
abbrev pub Each : (kit_nfa.Nfa → Type 0) → List kit_nfa.Nfa → Type 0
Each P [] = Unit {0}
Each P (k ∷ ks) = P k × Each P ks

-- From its start the NFA finds at each offset what the pattern means, and each way in which the pattern matches,
-- preferred or not, is a path of the NFA.
abbrev pub HasMeaning : kit_nfa.Nfa → Re → Type 0
HasMeaning k re = Implements k re × HasPaths k re

-- Each NFA finds what its pattern means.
abbrev pub ImplementAll : List kit_nfa.Nfa → List Re → Type 0
ImplementAll [] [] = Unit {0}
ImplementAll [] (re ∷ res) = ⊥
ImplementAll (k ∷ ks) [] = ⊥
ImplementAll (k ∷ ks) (re ∷ res) = HasMeaning k re × ImplementAll ks res

-- The NFA has the states of the kit's one, after `base` others, as pattern `p`; it reads forward, and lines end at
-- `\n`.
pub record HasStatesOf (n : Nfa) (base p : ℕ) (k : kit_nfa.Nfa) : Type 0 where
  -- its states after `base` others are the states of the kit's NFA, in order
  pub nodes :
      (q : ℕ) → q < length k.states.items
      → node n (base + q) ≡ node_of base p k.transitions.items (state_of k q)
  -- lines end at `\n`
  pub lines : n.terminator ≡ 10
  -- it reads forward
  pub forward : n.reverse ≡ false

-- The NFA has the states of each of these, one after another, as patterns that are numbered from `p` on.
abbrev pub HoldsAll : Nfa → (base p : ℕ) → List kit_nfa.Nfa → Type 0
HoldsAll n base p [] = Unit {0}
HoldsAll n base p (k ∷ ks) = HasStatesOf n base p k × HoldsAll n (base + length k.states.items) (suc p) ks

-- The least accepting path from `q` at place `p` of a span that begins at offset `s`, where these states were already
-- visited at that place, has this pattern and this end.
pub record HasLeastPath (n : Nfa) (t : Tape) (s p : ℕ) (seen : List ℕ) (q : ℕ) (half : HalfMatch) : Type 0 where
  -- the path
  pub path : List ℕ
  -- the place where it ends
  pub place : ℕ
  -- the state where it ends
  pub state : ℕ
  -- it is a path from `q` to there
  pub is_path : IsPathFrom n t p seen q path place state
  -- it accepts the pattern
  pub accepted : accepts n state ≡ Some half.pattern
  -- its place is the place of the end
  pub ends : s + place ≡ half.offset
  -- no accepting path from `q` comes before it
  pub least :
      (other : List ℕ) (j z pattern : ℕ) → IsPathFrom n t p seen q other j z → accepts n z ≡ Some pattern
      → Upto path other

-- The pattern and the end of the least accepting path from `q` at place `p` of a span that begins at offset `s`, where
-- these states were already visited at that place; none if no path accepts.
abbrev pub IsLeastEnd : Nfa → Tape → (s p : ℕ) → (seen : List ℕ) → ℕ → Option HalfMatch → Type 0
IsLeastEnd n t s p seen q None =
    (path : List ℕ) (j z pattern : ℕ) → IsPathFrom n t p seen q path j z → accepts n z ≡ Some pattern → ⊥
IsLeastEnd n t s p seen q (Some half) = HasLeastPath n t s p seen q half
