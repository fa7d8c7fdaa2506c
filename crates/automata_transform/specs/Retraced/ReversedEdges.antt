-- How the code reverses edges: for each state, what leads to it, and the states that stand for edges.
use Rattle.std.specs.Prelude.{ℕ, zero, suc, ◌+◌, ◌≡◌, List, [], ◌∷◌, ◌++◌, length, slice_index_or, cond, eqb, Some}
use Rattle.std.specs.Prelude.{Option, None, map, ◌↔◌, Bool, false, slice_get, ◌-◌, ◌<◌, ◌≤◌}
use Rattle.automata_base.specs.declared.nfa.thompson.state.State.{State}
use Rattle.automata_base.specs.declared.nfa.thompson.state.State.TheVariants as is
use Rattle.automata_base.specs.declared.nfa.thompson.state.Transition.{Transition}
use Rattle.automata_transform.specs.declared.alternates.Alternates.{Alternates}
use Rattle.automata_transform.specs.declared.alternates.Alternates.TheVariants as few
use Rattle.automata_transform.specs.declared.turn.EdgesByTarget.{EdgesByTarget}
use Rattle.automata_transform.specs.Nfas.Mirrors.{flip}
use Rattle.automata_base.specs.Nfas.Nfa.{Node, Split, Assert, Read, Accept, accepts_at}
use Rattle.automata_base.specs.Nfas.Nodes.{node_of, nodes_of}
use Rattle.automata_base.specs.Lists.{In, Distinct}
use Rattle.automata_base.specs.Retraced.Reach.{IsReached}
use Rattle.automata_transform.specs.Retraced.DenseRuns.{runs_from}
use Rattle.automata_base.specs.declared.nfa.thompson.reach.Edges.TheVariants.{Every}
use Rattle.std.specs.declared.alloc.Global.{Global}
use Rattle.std.proofs.Common.{Vec}
use Rattle.automata_base.specs.Retraced.ReversedEdges.{push_at, no_lists, place_in}

-- The states in a list of alternates.
abbrev pub alternates_in : Alternates → List ℕ
alternates_in few.Empty = []
alternates_in (few.One x) = x ∷ []
alternates_in (few.Several ids) = ids.items

-- The states in each of these lists of alternates.
abbrev pub alternate_lists : List Alternates → List (List ℕ)
alternate_lists [] = []
alternate_lists (xs ∷ rest) = alternates_in xs ∷ alternate_lists rest

-- The alternates of each state, and the helpers. The helpers come after the states, so the number of helper k is the
-- number of states plus k.
pub record Turns : Type 0 where
  -- for each state, the states that it leads to once edges are reversed
  pub lists : List (List ℕ)
  -- the states that stand for reversed edges that read a byte or test a look, and for the match
  pub helpers : List State

-- The alternates and helpers that the code holds.
abbrev pub turns_of : EdgesByTarget → Turns
turns_of t = record { lists = alternate_lists t.lists.items; helpers = t.helpers.items }

-- Whether there is a number, and it is `x`.
abbrev pub is_of : Option ℕ → (x : ℕ) → Bool
is_of None x = false
is_of (Some y) x = eqb y x

-- Whether `x` is the last of the list.
abbrev pub ends_in : List ℕ → (x : ℕ) → Bool
ends_in xs x = is_of (slice_get xs (length xs - 1)) x

-- These alternates with `x` after them, unless it is already the last of them.
abbrev pub put : List ℕ → (x : ℕ) → List ℕ
put xs x = cond (ends_in xs x) xs (xs ++ x ∷ [])

-- Adds `x` after the alternates of the state `k`, unless it is already the last of them.
abbrev pub put_at : List (List ℕ) → ℕ → (x : ℕ) → List (List ℕ)
put_at [] k x = []
put_at (xs ∷ rest) zero x = put xs x ∷ rest
put_at (xs ∷ rest) (suc k) x = xs ∷ put_at rest k x

-- Makes the state `to` lead to `x`. The edges from `x` are reversed one after another, so that `x` does not repeat.
abbrev pub turn_free : Turns → (x to : ℕ) → Turns
turn_free t x to = record t { lists = put_at t.lists to x }

-- Adds a helper, and makes the state `to` lead to it.
abbrev pub turn_by : Turns → State → (to : ℕ) → Turns
turn_by t helper to = record {
  lists = push_at t.lists to (length t.lists + length t.helpers);
  helpers = t.helpers ++ helper ∷ [];
}

-- Reverses the edges from one state to these, which read nothing, one after another.
abbrev pub turn_all : Turns → (from : ℕ) → List ℕ → Turns
turn_all t from [] = t
turn_all t from (x ∷ xs) = turn_all (turn_free t from x) from xs

-- Reverses the edges of one state that read a byte, one for each range, one after another.
abbrev pub turn_ranges : Turns → (from : ℕ) → List Transition → Turns
turn_ranges t from [] = t
turn_ranges t from (r ∷ rs) = turn_ranges (turn_by t (is.ByteRange r.lo r.hi from) r.next) from rs

-- Reverses each edge of the state `from`.
abbrev pub turn_state : Turns → (from : ℕ) → State → Turns
turn_state t from (is.ByteRange lo hi next) = turn_by t (is.ByteRange lo hi from) next
turn_state t from (is.Sparse ts) = turn_ranges t from ts.items
turn_state t from (is.Dense targets) = turn_ranges t from (runs_from 0 0 targets.value)
turn_state t from (is.Look look next) = turn_by t (is.Look (flip look) from) next
turn_state t from (is.Union alternates) = turn_all t from alternates.items
turn_state t from (is.BinaryUnion alt1 alt2) = turn_free (turn_free t from alt1) from alt2
turn_state t from (is.Capture next pattern index slot) = turn_free t from next
turn_state t from is.Fail = t
turn_state t from (is.Match pattern) = t

-- Reverses each edge of these states.
abbrev pub turn_states : Turns → List State → List ℕ → Turns
turn_states t states [] = t
turn_states t states (q ∷ qs) = turn_states (turn_state t q (slice_index_or states q is.Fail)) states qs

-- The number of states and helpers.
abbrev pub size : Turns → ℕ
size t = length t.lists + length t.helpers

-- The state is made of these alternates. Helpers have the numbers from `n` on.
pub data IsHead (n : ℕ) (helpers : List State) (alternates : List ℕ) (s : State) : Type 0 where
  -- their union
  IsUnionOfAll : (v : Vec ℕ Global) → s ≡ is.Union v → v.items ≡ alternates → IsHead n helpers alternates s
  -- the helper itself, if it is the only one
  IsOnlyHelper :
      (j : ℕ) → alternates ≡ (n + j) ∷ [] → slice_get helpers j ≡ Some s → IsHead n helpers alternates s

-- The states are made of these lists of alternates, in order.
abbrev pub AreHeads : (n : ℕ) → List State → List (List ℕ) → List State → Type 0
AreHeads n helpers [] [] = Unit {0}
AreHeads n helpers [] (s ∷ ss) = ⊥
AreHeads n helpers (xs ∷ rest) [] = ⊥
AreHeads n helpers (xs ∷ rest) (s ∷ ss) = IsHead n helpers xs s × AreHeads n helpers rest ss

-- These states are made of the edges: one for each list of alternates, and after them the helpers.
abbrev pub AreMade : Turns → List State → Type 0
AreMade t states =
    (heads : List State) × (states ≡ heads ++ t.helpers) × AreHeads (length t.lists) t.helpers t.lists heads

-- The copy of a state: each of its targets is `f` of the old one, and a match state matches the pattern `p`.
abbrev pub copied : (ℕ → ℕ) → (p : ℕ) → State → Node
copied f p (is.ByteRange lo hi next) = Read (record { lo = lo; hi = hi; next = f next } ∷ [])
copied f p (is.Sparse ts) = Split []
copied f p (is.Dense targets) = Split []
copied f p (is.Look look next) = Assert look (f next)
copied f p (is.Union alternates) = Split (map f alternates.items)
copied f p (is.BinaryUnion alt1 alt2) = Split []
copied f p (is.Capture next pattern index slot) = Split []
copied f p is.Fail = Split []
copied f p (is.Match pattern) = Accept p

-- The lists with one more match state, after those of its pattern.
abbrev pub list_match : List (List ℕ) → Option ℕ → (x : ℕ) → List (List ℕ)
list_match lists None x = lists
list_match lists (Some p) x = push_at lists p x

-- The copies of the states of a list.
abbrev pub copies : (ℕ → ℕ) → (p : ℕ) → List State → List ℕ → List Node
copies f p states [] = []
copies f p states (q ∷ qs) = copied f p (slice_index_or states q is.Fail) ∷ copies f p states qs

-- The number of the copy of a state: the copies of the members come one after another, from a base on.
abbrev pub copy_of : (base : ℕ) → List ℕ → ℕ → ℕ
copy_of base items q = base + place_in items q

-- The match states of the pattern among these.
abbrev pub matches_in : List State → (p : ℕ) → List ℕ → List ℕ
matches_in states p [] = []
matches_in states p (q ∷ qs) =
    cond (is_of (accepts_at (node_of (slice_index_or states q is.Fail))) p) (q ∷ matches_in states p qs)
    (matches_in states p qs)

-- The list is made of the reversed edges of these states, where the state `first` also leads to a match.
abbrev pub AreTurned : List State → (reached : List ℕ) → (first : ℕ) → List State → Type 0
AreTurned states reached first turned =
    (t : Turns) × AreMade t turned
    × (t
    ≡ turn_by (turn_states (record { lists = no_lists (length states); helpers = [] }) states reached) (is.Match 0)
    first)

-- The nodes from `base` up to the entry are copies, for the pattern `p`, of the turned states that are reached from the
-- roots; and the entry leads to the copies of the roots.
pub record IsCopied (nodes : List Node) (turned : List State) (roots : List ℕ) (p entry base : ℕ) (items : List ℕ) :
    Type 0 where
  -- the states that are copied are those that edges reach from the roots
  pub reached : (q : ℕ) → In q items ↔ IsReached Every turned roots q
  -- each is copied once
  pub distinct : Distinct items
  -- their copies come one after another, from `base` on
  pub each :
      (k q : ℕ) → slice_get items k ≡ Some q
      → slice_get nodes (base + k) ≡ Some (copied (copy_of base items) p (slice_index_or turned q is.Fail))
  -- the entry leads to the copies of the roots
  pub enters : slice_get nodes entry ≡ Some (Split (map (copy_of base items) roots))
  -- the entry comes after the copies
  pub ends : entry ≡ base + length items

-- Where the copies for a pattern begin, and of which states they are.
pub record Copied : Type 0 where
  -- the number of the first copy
  pub base : ℕ
  -- the states that are copied, in this order
  pub items : List ℕ

-- The copies for the pattern `p`; none past the last one.
abbrev pub part_at : List Copied → (p : ℕ) → Copied
part_at [] p = record { base = 0; items = [] }
part_at (x ∷ xs) zero = x
part_at (x ∷ xs) (suc p) = part_at xs p

-- The nodes are copies for each pattern, each followed by its entry.
pub record HaveCopies (nodes : List Node) (states turned : List State) (reached entries : List ℕ) : Type 0 where
  -- where the copies for each pattern begin, and of which states they are
  pub parts : List Copied
  -- each pattern has its copies and its entry
  pub few : length parts ≡ length entries
  -- they are copies of the turned states that are reached from the match states of the pattern
  pub each :
      (p entry : ℕ) → slice_get entries p ≡ Some entry
      → IsCopied nodes turned (matches_in states p reached) p entry (part_at parts p).base (part_at parts p).items
  -- each node is one of these copies, or an entry
  pub only :
      (x : ℕ) → x < length nodes
      → (p entry : ℕ) × (slice_get entries p ≡ Some entry) × ((part_at parts p).base ≤ x) × (x ≤ entry)
  -- each entry is one of the nodes
  pub inside : (e : ℕ) → In e entries → e < length nodes
  -- no entry repeats
  pub distinct : Distinct entries

-- These are the states of a reversed NFA: the copies for each pattern, and after them the root, which leads to each
-- pattern's entry.
pub record AreReversed (states : List State) (first patterns : ℕ) (made : List State) (entries : List ℕ) (root : ℕ) :
    Type 0 where
  -- the states with their edges reversed, for all patterns
  pub turned : List State
  -- the states of the NFA that have a part in it
  pub reached : List ℕ
  -- all states that are made but the root, as nodes
  pub nodes : List Node
  -- the reached states are those that edges lead to from the first one
  pub reach : (q : ℕ) → In q reached ↔ IsReached Every states (first ∷ []) q
  -- no reached state repeats
  pub distinct : Distinct reached
  -- each reached state is one of the NFA's
  pub below : (q : ℕ) → In q reached → q < length states
  -- the turned states are made of their reversed edges
  pub turns : AreTurned states reached first turned
  -- the states that are made are the copies and entries, and the root, which leads to each entry
  pub whole : nodes_of made ≡ nodes ++ Split entries ∷ []
  -- the root is the last one
  pub starts : root ≡ length nodes
  -- the nodes are copies for each pattern, each with its entry
  pub copies : HaveCopies nodes states turned reached entries
  -- there is an entry for each pattern
  pub few : length entries ≡ patterns
