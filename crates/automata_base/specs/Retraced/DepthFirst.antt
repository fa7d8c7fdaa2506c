-- A depth-first search, and the order in which it finishes states.
use Rattle.std.specs.Prelude.{ℕ, ◌≡◌, ◌<◌, ◌⊎◌, List, [], ◌∷◌, take, Some, slice_get}
use Rattle.automata_base.specs.declared.nfa.thompson.finishing.Frame.{Frame}
use Rattle.automata_base.specs.Lists.{In}
use Rattle.automata_base.specs.Retraced.Reach.{Route}

-- `p` leads to `z` by at least one edge.
abbrev pub LeadsBy : (ℕ → List ℕ) → ℕ → ℕ → Type 0
LeadsBy targets p z = (r : ℕ) × (way : List ℕ) × In r (targets p) × Route targets r way z

-- No state repeats, and a state that leads to a later one is on a cycle.
abbrev pub IsFinishingOrder : (ℕ → List ℕ) → List ℕ → Type 0
IsFinishingOrder targets xs =
    (i q p : ℕ) → slice_get xs i ≡ Some q → In p (take i xs) → (p ≡ q → ⊥) × (LeadsBy targets p q → LeadsBy targets p p)

-- The states on the stack, the top first.
abbrev pub states_in : List Frame → List ℕ
states_in [] = []
states_in (frame ∷ below) = frame.state ∷ states_in below

-- Each state leads to those before it in the list.
abbrev pub IsChain : (ℕ → List ℕ) → List ℕ → Type 0
IsChain targets [] = Unit {0}
IsChain targets (p ∷ below) = ((q : ℕ) → In q below → LeadsBy targets q p) × IsChain targets below

-- The states exist, and the edges that were followed lead to states that were visited.
abbrev pub AreFollowed : ℕ → (ℕ → List ℕ) → List ℕ → List Frame → Type 0
AreFollowed n targets visited [] = Unit {0}
AreFollowed n targets visited (frame ∷ below) =
    (frame.state < n) × ((r : ℕ) → In r (take frame.edge (targets frame.state)) → In r visited)
    × AreFollowed n targets visited below

-- A depth-first search over `n` states is under way: these are visited, these finished, and these on its stack.
pub record IsUnderSearch
    (n : ℕ) (targets : ℕ → List ℕ) (visited finished : List ℕ) (frames : List Frame)
    : Type 0 where
  -- each state visited is finished, or still on the stack
  pub visits : (q : ℕ) → In q visited → In q finished ⊎ In q (states_in frames)
  -- the states on the stack exist, and the edges followed from them lead to states visited
  pub follows : AreFollowed n targets visited frames
  -- each state on the stack leads to those above it
  pub chain : IsChain targets (states_in frames)
  -- an edge from a finished state leads to a state that is finished or on the stack
  pub closed : (p r : ℕ) → In p finished → In r (targets p) → In r finished ⊎ In r (states_in frames)
  -- a finished state that leads to one that is not finished is on a cycle
  pub cyclic : (p q : ℕ) → In p finished → (In q finished → ⊥) → LeadsBy targets p q → LeadsBy targets p p
  -- the states finished so far are in a finishing order
  pub order : IsFinishingOrder targets finished

-- The list has each state, in a finishing order.
pub record IsWholeOrder (n : ℕ) (targets : ℕ → List ℕ) (xs : List ℕ) : Type 0 where
  -- the list is in a finishing order
  pub order : IsFinishingOrder targets xs
  -- each of the `n` states is in it
  pub whole : (q : ℕ) → q < n → In q xs
  -- no other state is in it
  pub below : (q : ℕ) → In q xs → q < n
