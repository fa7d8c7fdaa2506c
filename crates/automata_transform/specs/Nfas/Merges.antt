-- An NFA some of whose unions are merged: a union becomes a state that reads bytes, or a union of such states, and
-- additional states stand for the lists of states that the merged ones lead to.
use Rattle.std.specs.Prelude.{ℕ, ◌≡◌, ◌<◌, ◌≤◌, ◌+◌, ◌-◌, cond, ltb, List, [], ◌∷◌, ◌++◌, length, slice_get}
use Rattle.std.specs.Prelude.{Option, Some, None}
use Rattle.automata_base.specs.Lists.{In}
use Rattle.automata_base.specs.Nfas.Nfa.{Nfa, Node, Range, Split, Assert, Read, Accept, node, takes_in}
use Rattle.automata_base.specs.Powersets.Cuts.{targets}

-- The list, or no states if there is none.
abbrev pub list_or_none : Option (List ℕ) → List ℕ
list_or_none None = []
list_or_none (Some xs) = xs

-- The states of an NFA that a state of the merged one stands for: each of the first `count` states for itself, and each
-- additional one for its list.
abbrev pub stood_for : (count : ℕ) → (lists : List (List ℕ)) → ℕ → List ℕ
stood_for count lists q = cond (ltb q count) (q ∷ []) (list_or_none (slice_get lists (q - count)))

-- What the states of a list stand for, one after another.
abbrev pub all_stood_for : (count : ℕ) → (lists : List (List ℕ)) → List ℕ → List ℕ
all_stood_for count lists [] = []
all_stood_for count lists (q ∷ qs) = stood_for count lists q ++ all_stood_for count lists qs

-- What the target of an edge stands for; without a target, no states.
abbrev pub target_for : (count : ℕ) → (lists : List (List ℕ)) → Option ℕ → List ℕ
target_for count lists None = []
target_for count lists (Some q) = stood_for count lists q

-- Ranges read for a list of states: each of them reads bytes, none is the state `anchored`, and on each byte the ranges
-- lead to what stands for the targets of the list, in order.
pub record ReadsFor (n : Nfa) (anchored : ℕ) (lists : List (List ℕ)) (ranges : List Range) (list : List ℕ) :
    Type 0 where
  -- each state of the list reads bytes, and paths that begin at `anchored` begin at none of them
  pub plain : (q : ℕ) → In q list → (q ≡ anchored → ⊥) × ((own : List Range) × (node n q ≡ Read own))
  -- on each byte, the target stands for the targets of the list
  pub same :
      (u : ℕ) → u < 256 → target_for (length n.nodes) lists (takes_in ranges u) ≡ targets n (Some u) list

-- A node of the merged NFA stands for a list: it reads for it, or it is a union whose alternates stand for the parts of
-- the list, in order. Of these alternates, the additional states read bytes, so no two of them follow each other at one
-- place.
abbrev pub Shows :
    (n m : Nfa) → (anchored : ℕ) → (lists : List (List ℕ)) → Node → List ℕ → Type 0
Shows n m anchored lists (Split alternates) list =
    (all_stood_for (length n.nodes) lists alternates ≡ list)
    × ((q : ℕ) → In q alternates → length n.nodes ≤ q → (ranges : List Range) × (node m q ≡ Read ranges))
Shows n m anchored lists (Assert look next) list = ⊥
Shows n m anchored lists (Read ranges) list = ReadsFor n anchored lists ranges list
Shows n m anchored lists (Accept p) list = ⊥

-- What a node of the first NFA becomes.
pub data IsMergedNode (n m : Nfa) (anchored : ℕ) (lists : List (List ℕ)) (was now : Node) : Type 0 where
  -- it is unchanged
  KeepsNode : now ≡ was → IsMergedNode n m anchored lists was now
  -- it was a union, and stands for its alternates
  MergesUnion :
      (alternates : List ℕ) → was ≡ Split alternates → Shows n m anchored lists now alternates
      → IsMergedNode n m anchored lists was now

-- The second NFA is the first one with some of its unions merged. The states of the first keep their numbers.
pub record IsMerged (n m : Nfa) (anchored : ℕ) (lists : List (List ℕ)) : Type 0 where
  -- lines end at the same byte
  pub terminator : m.terminator ≡ n.terminator
  -- both read the haystack in the same direction
  pub reverse : m.reverse ≡ n.reverse
  -- there is one additional state for each list
  pub count : length m.nodes ≡ length n.nodes + length lists
  -- each state of the first NFA is unchanged, or was a union and stands for its alternates
  pub first_states : (q : ℕ) → q < length n.nodes → IsMergedNode n m anchored lists (node n q) (node m q)
  -- each additional state stands for its list
  pub further :
      (q : ℕ) → length n.nodes ≤ q → q < length m.nodes
      → Shows n m anchored lists (node m q) (stood_for (length n.nodes) lists q)
