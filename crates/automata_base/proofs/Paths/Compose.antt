-- Least keys, carried from one order to another.
use Rattle.std.proofs.Common.{ℕ, List, [], ◌∷◌}
use Rattle.automata_base.specs.Paths.Order.{Before, Upto}
use Rattle.automata_base.specs.Lists.{In, Sorted, IsListOf}

-- Keys of one kind stand for keys of another kind that are in the same order.
abbrev pub Carries : (ℕ → List ℕ → Type 0) → (ℕ → List ℕ → Type 0) → List ℕ → List ℕ → Type 0
Carries P P' key image =
    (q : ℕ) (other : List ℕ) → P' q other
    → (pre : List ℕ) × P q pre × (Before key pre → Before image other) × (Upto key pre → Upto image other)

-- No other key of the state is less.
abbrev pub IsLeast : (ℕ → List ℕ → Type 0) → ℕ → List ℕ → Type 0
IsLeast P q key = (other : List ℕ) → P q other → Upto key other

-- Each least key stands for one of another kind.
abbrev pub Moved : (ℕ → List ℕ → Type 0) → (ℕ → List ℕ → Type 0) → Type 0
Moved P P' =
    (q : ℕ) (key : List ℕ) → P q key → IsLeast P q key → (image : List ℕ) × P' q image × Carries P P' key image

transfer_least_sorted :
    (P P' : ℕ → List ℕ → Type 0) (xs : List ℕ) → Moved P P' → Sorted P xs → Sorted P' xs
transfer_least_sorted P P' [] m s = tt
transfer_least_sorted P P' (x ∷ xs) m s =
    let i = m x s.0.key s.0.has s.0.least in (
      record { key = i.0; has = i.1; least = least i.0 i.2; before = later i.0 i.2 },
      transfer_least_sorted P P' xs m s.1,
    )
  where
    least : (image : List ℕ) → Carries P P' s.0.key image → (other : List ℕ) → P' x other → Upto image other
    least image c other h = let w = c x other h in w.3 (s.0.least w.0 w.1)

    later :
        (image : List ℕ) → Carries P P' s.0.key image → (y : ℕ) (other : List ℕ)
        → In y xs → P' y other → Before image other
    later image c y other i h = let w = c y other h in w.2 (s.0.before y w.0 i w.1)

pub transfer_least :
    (P P' : ℕ → List ℕ → Type 0) (xs : List ℕ)
    → Moved P P' → ((q : ℕ) (key : List ℕ) → P' q key → (pre : List ℕ) × P q pre)
    → IsListOf P xs → IsListOf P' xs
transfer_least P P' xs m back l =
    (λ q key h. let w = back q key h in l.0 q w.0 w.1, transfer_least_sorted P P' xs m l.1)

pub transfer :
    (P P' : ℕ → List ℕ → Type 0) (xs : List ℕ)
    → ((q : ℕ) (key : List ℕ) → P q key → (image : List ℕ) × P' q image × Carries P P' key image)
    → ((q : ℕ) (key : List ℕ) → P' q key → (pre : List ℕ) × P q pre)
    → IsListOf P xs → IsListOf P' xs
transfer P P' xs m back l = transfer_least P P' xs (λ q key h least. m q key h) back l
