-- How a closure continues from a state along its epsilon edges.
use Rattle.std.specs.Prelude.{ℕ, ◌≡◌, List, [], ◌∷◌, ◌++◌, drop}
use Rattle.automata_base.specs.Nfas.Nfa.{Nfa, Truth}
use Rattle.automata_base.specs.Lists.{In}
use Rattle.automata_base.specs.Powersets.Closure.{IsUnderWay, Visits}

-- the second list is the first one, with some elements after it
abbrev pub Extends : List ℕ → List ℕ → Type 0
Extends before after = (more : List ℕ) × (after ≡ before ++ more)

-- Some of these children, at the front, were visited, and the others wait before the states that waited already.
-- `before` and `after` are the states visited.
pub record IsExpanded (n : Nfa) (A : Truth) (children before after waited waiting : List ℕ) : Type 0 where
  -- a closure that was under way before these children is still under way after them
  pub way : (roots tail : List ℕ) → IsUnderWay n A roots (children ++ (waited ++ tail)) before
      → IsUnderWay n A roots (waiting ++ tail) after
  -- the states visited before come first among those visited after
  pub grown : Extends before after
  -- the first `visited` of the children were visited; the others wait first
  pub left : (visited : ℕ) × (waiting ≡ drop visited children ++ waited)

-- The states visited from a root were added to the states visited before, and none of them was visited before.
pub record IsAddedApart (n : Nfa) (A : Truth) (root : ℕ) (before after : List ℕ) : Type 0 where
  -- the states that were added
  pub added : List ℕ
  -- they come after those visited before
  pub after_before : after ≡ before ++ added
  -- they are what is visited from the root, where nothing was visited before
  pub visited : Visits n A (root ∷ []) [] added
  -- none of them was visited before
  pub apart : (q : ℕ) → In q added → In q before → ⊥
