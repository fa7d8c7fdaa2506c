-- A forward and a reverse DFA of one regular expression, and the UTF-8 promise.
use Rattle.std.specs.Prelude.{ℕ, ◌≡◌, ◌<◌, ◌≤◌, ◌-◌, true, List, ◌↔◌, length, Some, IsUtf8}
use Rattle.automata_base.specs.Powersets.Cuts.{All}
use Rattle.automata_base.specs.Paths.Selections.{Accepts}
use Rattle.automata_base.specs.Haystacks.Tapes.{IsHaystack, between, Direction, Forward, Backward, tape_of}
use Rattle.automata_base.specs.Nfas.Engines.{Engine, Anchored, No, first_state, HasEmptyMatch, BeginsLazily}

-- An accepting path of the pattern from the anchored start goes from `i` to `j`, or backward from `j` to `i`.
abbrev pub Joins : Direction → Engine → List ℕ → (i j pattern : ℕ) → Type 0
Joins way d h i j pattern = (path : List ℕ) × Accepts d.nfa (tape_of way h i j) d.anchored (j - i) pattern path

-- Over every haystack the two accept the same, each in its direction.
pub record IsTruePair (f r : Engine) : Type 0 where
  -- the reverse one searches under `MatchKind::All`
  pub all : r.kind ≡ All
  -- both are in UTF-8 mode, or neither is
  pub utf8 : f.utf8 ≡ r.utf8
  -- both have an empty match, or neither has
  pub empty : HasEmptyMatch f ↔ HasEmptyMatch r
  -- over every span of a haystack both accept the same patterns
  pub joins :
      (h : List ℕ) (i j pattern : ℕ) → IsHaystack h → i ≤ j → j ≤ length h
      → Joins Forward f h i j pattern ↔ Joins Backward r h i j pattern
  -- unanchored searches of the forward one begin at the anchored start, or lazily skip bytes before it
  pub begins : BeginsLazily f.nfa f.anchored f.unanchored

-- In UTF-8 mode, every accepting path of an anchored mode that is not empty reads valid UTF-8.
abbrev pub KeepsUtf8 : Direction → Engine → Type 0
KeepsUtf8 way d =
    (h : List ℕ) (i j pattern : ℕ) (mode : Anchored) (start : ℕ) (path : List ℕ)
    → d.utf8 ≡ true → IsHaystack h → i < j → j ≤ length h
    → (mode ≡ No → ⊥) → first_state d mode ≡ Some start
    → Accepts d.nfa (tape_of way h i j) start (j - i) pattern path → IsUtf8 (between h i j)
