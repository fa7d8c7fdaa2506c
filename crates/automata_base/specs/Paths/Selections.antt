-- The answers of a search and a walk, by paths.
use Rattle.std.specs.Prelude.{ℕ, zero, suc, ◌≡◌, ◌<◌, Bool, true, false, List, [], ◌∷◌, ◌++◌, length, Option}
use Rattle.std.specs.Prelude.{Some, None}
use Rattle.automata_base.specs.Paths.Order.{Before, Upto}
use Rattle.automata_base.specs.Lists.{IsListOf}
use Rattle.automata_base.specs.Nfas.Nfa.{Nfa, accepts}
use Rattle.automata_base.specs.Paths.Paths.{Tape, IsPath}
use Rattle.automata_base.specs.Powersets.Cuts.{MatchKind, All, LeftmostFirst}

-- The path ends at place `i`, in a match state of the pattern.
abbrev pub Accepts : Nfa → Tape → ℕ → ℕ → ℕ → List ℕ → Type 0
Accepts n t start i pattern path = (q : ℕ) × IsPath n t start i q path × (accepts n q ≡ Some pattern)

-- The patterns that a walk under `MatchKind::All` reports at place `i`: the patterns of the accepting paths that end
-- there, each once, in the order of their least paths.
abbrev pub IsAllAt : Nfa → Tape → ℕ → ℕ → List ℕ → Type 0
IsAllAt n t start i patterns = IsListOf (λ pattern path. Accepts n t start i pattern path) patterns

-- Some accepting path that ends before place `i` is less than this one.
pub record IsPreceded (n : Nfa) (t : Tape) (start i : ℕ) (path : List ℕ) : Type 0 where
  -- where it ends
  pub place : ℕ
  -- its pattern
  pub pattern : ℕ
  -- that path
  pub less : List ℕ
  -- it ends before place `i`
  pub earlier : place < i
  -- it accepts
  pub accepted : Accepts n t start place pattern less
  -- it is less
  pub before : Before less path

-- An accepting path that ends at place `i` is less than all the others there, and than all that end before.
pub record IsLeastAt (n : Nfa) (t : Tape) (start i pattern : ℕ) (path : List ℕ) : Type 0 where
  -- it accepts the pattern
  pub accepted : Accepts n t start i pattern path
  -- no path there is less
  pub least : (other : ℕ) (more : List ℕ) → Accepts n t start i other more → Upto path more
  -- it is less than every path that ends before
  pub first : (j other : ℕ) (more : List ℕ) → j < i → Accepts n t start j other more → Before path more

-- The patterns that a walk under `MatchKind::LeftmostFirst` reports at place `i`: the pattern of the least accepting
-- path that ends there, if this path is less than every accepting path that ends at an earlier place.
pub data IsFirstAt (n : Nfa) (t : Tape) (start i : ℕ) (patterns : List ℕ) : Type 0 where
  -- none: each accepting path that ends there has a lesser one that ends before
  ReportsNoneAt :
      patterns ≡ [] → ((pattern : ℕ) (path : List ℕ) → Accepts n t start i pattern path → IsPreceded n t start i path)
      → IsFirstAt n t start i patterns
  -- the pattern of the least one
  ReportsLeast :
      (pattern : ℕ) (path : List ℕ) → patterns ≡ pattern ∷ [] → IsLeastAt n t start i pattern path
      → IsFirstAt n t start i patterns

-- The patterns that a walk under a match kind reports at place `i`.
abbrev pub ArePatternsAt : MatchKind → Nfa → Tape → ℕ → ℕ → List ℕ → Type 0
ArePatternsAt All n t start i patterns = IsAllAt n t start i patterns
ArePatternsAt LeftmostFirst n t start i patterns = IsFirstAt n t start i patterns

-- A pattern and a place.
pub record Pair : Type 0 where
  -- the number of the pattern, counted from 0
  pub pattern : ℕ
  -- where a path of it ends: a place on a tape, or the offset there
  pub place : ℕ

-- These patterns, each at the place.
abbrev pub at_place : ℕ → List ℕ → List Pair
at_place i [] = []
at_place i (p ∷ ps) = record { pattern = p; place = i } ∷ at_place i ps

-- Pairs at the places before `i`, and then those at `i`. `Earlier` says which are those before it, `AtPlace` which
-- patterns are at it.
pub record AddsPlace (Earlier : List Pair → Type 0) (AtPlace : List ℕ → Type 0) (i : ℕ) (pairs : List Pair) :
    Type 0 where
  -- the pairs at the places before
  pub earlier : List Pair
  -- the patterns at place `i`
  pub patterns : List ℕ
  -- those are the pairs before
  pub before : Earlier earlier
  -- these are the patterns at the place
  pub here : AtPlace patterns
  -- the pairs are both, in this order
  pub joined : pairs ≡ earlier ++ at_place i patterns

-- The pairs at this many first places, by a rule for one place.
abbrev pub Pairs : (ℕ → List ℕ → Type 0) → ℕ → List Pair → Type 0
Pairs At zero pairs = pairs ≡ []
Pairs At (suc i) pairs = AddsPlace (Pairs At i) (At i) i pairs

-- The whole list of a walk, by paths.
abbrev pub IsOverlappingOn : MatchKind → Nfa → Tape → ℕ → List Pair → Type 0
IsOverlappingOn kind n t start pairs = Pairs (ArePatternsAt kind n t start) (suc (length t.bytes)) pairs

-- A path is preferred to another by its place, or at the same place by its edges. `better` says that its place is
-- preferred.
pub data IsPreferred (better : Type 0) (i : ℕ) (path : List ℕ) (j : ℕ) (other : List ℕ) : Type 0 where
  -- its place is preferred
  ByPlace : better → IsPreferred better i path j other
  -- both end at the same place, and the other one is not less
  ByEdges : i ≡ j → Upto path other → IsPreferred better i path j other

-- Whether the place `i` of a path with that edge list is preferred to `j` of another.
abbrev pub IsChosen : MatchKind → (earliest : Bool) → ℕ → List ℕ → ℕ → List ℕ → Type 0
IsChosen kind true i path j other = IsPreferred (i < j) i path j other
IsChosen LeftmostFirst false i path j other = Upto path other
IsChosen All false i path j other = IsPreferred (j < i) i path j other

-- What a search over the span answers, by paths.
abbrev pub Selects : MatchKind → Bool → Nfa → Tape → ℕ → Option Pair → Type 0
Selects kind earliest n t start None =
    (i pattern : ℕ) (path : List ℕ) → Accepts n t start i pattern path → ⊥
Selects kind earliest n t start (Some pair) =
    (path : List ℕ) × Accepts n t start pair.place pair.pattern path
    × ((j pattern : ℕ) (other : List ℕ) → Accepts n t start j pattern other
    → IsChosen kind earliest pair.place path j other)

-- The nearest end of an accepting path, and the pattern of one that ends there; none if there is no accepting path. An
-- earliest search finds it, for every NFA and match kind.
abbrev pub IsNearest : Nfa → Tape → ℕ → Option Pair → Type 0
IsNearest n t start None = (i pattern : ℕ) (path : List ℕ) → Accepts n t start i pattern path → ⊥
IsNearest n t start (Some pair) =
    ((path : List ℕ) × Accepts n t start pair.place pair.pattern path)
    × ((j pattern : ℕ) (path : List ℕ) → j < pair.place → Accepts n t start j pattern path → ⊥)

-- The farthest end of an accepting path, and the pattern of one that ends there; none if there is no accepting path. A
-- search under `MatchKind::All` that is not earliest finds it, for every NFA.
abbrev pub IsFarthest : Nfa → Tape → ℕ → Option Pair → Type 0
IsFarthest n t start None = (i pattern : ℕ) (path : List ℕ) → Accepts n t start i pattern path → ⊥
IsFarthest n t start (Some pair) =
    ((path : List ℕ) × Accepts n t start pair.place pair.pattern path)
    × ((j pattern : ℕ) (path : List ℕ) → pair.place < j → Accepts n t start j pattern path → ⊥)
