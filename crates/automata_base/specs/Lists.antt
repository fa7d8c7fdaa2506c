-- Lists of numbers: their members, and states in the order of their least keys.
use Rattle.std.specs.Prelude.{ℕ, ◌≡◌, ◌&&◌, Bool, true, ltb, List, [], ◌∷◌, ◌⊎◌, Option, Some, None, slice_get}
use Rattle.automata_base.specs.Paths.Order.{Before, Upto}

-- The number is a member of the list.
abbrev pub In : ℕ → List ℕ → Type 0
In x [] = ⊥
In x (y ∷ ys) = (x ≡ y) ⊎ In x ys

-- No element repeats.
abbrev pub Distinct : List ℕ → Type 0
Distinct [] = Unit {0}
Distinct (x ∷ xs) = (In x xs → ⊥) × Distinct xs

-- A state has a least key, which is before all keys of the states after it. `P` says what the keys of a state are.
pub record HasLeastKey (P : ℕ → List ℕ → Type 0) (q : ℕ) (rest : List ℕ) : Type 0 where
  -- that key
  pub key : List ℕ
  -- it is a key of the state
  pub has : P q key
  -- no key of the state is less
  pub least : (other : List ℕ) → P q other → Upto key other
  -- it is before all keys of the states after it
  pub before : (later : ℕ) (other : List ℕ) → In later rest → P later other → Before key other

-- Each state has a least key, which is before all keys of the states after it.
abbrev pub Sorted : (ℕ → List ℕ → Type 0) → List ℕ → Type 0
Sorted P [] = Unit {0}
Sorted P (q ∷ rest) = HasLeastKey P q rest × Sorted P rest

-- The list of the states that have a key, each once, in the order of their least keys.
abbrev pub IsListOf : (ℕ → List ℕ → Type 0) → List ℕ → Type 0
IsListOf P xs = ((q : ℕ) (key : List ℕ) → P q key → In q xs) × Sorted P xs

-- The list with this element in front, if there is one.
abbrev pub cons_some : Option ℕ → List ℕ → List ℕ
cons_some None ys = ys
cons_some (Some y) ys = y ∷ ys

-- The states that `g` gives for the states of a list, in order.
abbrev pub pick : (ℕ → Option ℕ) → List ℕ → List ℕ
pick g [] = []
pick g (x ∷ xs) = cons_some (g x) (pick g xs)

-- A key is the index of a root, followed by a path from that root to the state.
abbrev pub From : (ℕ → List ℕ → ℕ → Type 0) → List ℕ → ℕ → List ℕ → Type 0
From S roots q [] = ⊥
From S roots q (k ∷ path) = (root : ℕ) × (slice_get roots k ≡ Some root) × S root path q

-- The list has exactly the states for which `P` holds.
abbrev pub IsSet : (ℕ → Type 0) → List ℕ → Type 0
IsSet P xs = ((q : ℕ) → In q xs → P q) × ((q : ℕ) → P q → In q xs)

-- Whether each number of the list is below the bound.
abbrev pub all_below : ℕ → List ℕ → Bool
all_below N [] = true
all_below N (x ∷ xs) = ltb x N && all_below N xs
