-- How the copies for each pattern are added, and that they meet the conditions on the states of an NFA.
use Rattle.std.specs.Prelude.{ℕ, ◌≡◌, ◌<◌, ◌≤◌, ◌+◌, ◌*◌, ◌^◌, ◌↔◌, List, [], ◌∷◌, ◌++◌, length, map, sum_by, true}
use Rattle.automata_base.specs.declared.nfa.thompson.state.State.{State}
use Rattle.automata_base.specs.declared.nfa.thompson.reach.Edges.TheVariants.{Every}
use Rattle.automata_base.specs.Lists.{In, Distinct}
use Rattle.automata_base.specs.Nfas.Nfa.{Node, Range, Split, Assert, Read, Accept}
use Rattle.automata_base.specs.Nfas.Nodes.{nodes_of}
use Rattle.automata_base.specs.Retraced.Reach.{IsReached}
use Rattle.automata_base.specs.Nfas.Errors.{alternates_of, states_below, states_ordered}
use Rattle.automata_transform.specs.Nfas.ReversedSizes.{asking_edges, free_edges}
use Rattle.automata_transform.specs.Retraced.ReversedEdges.{copies, copy_of}

-- The copies of the states that are reached from the roots are added, and after them the entry, which leads to the
-- copies of the roots.
pub record IsAdded
    (old new : List Node) (turned : List State) (roots : List ℕ) (p entry : ℕ) (items : List ℕ) : Type 0 where
  -- the states that are copied are those that edges reach from the roots
  pub reached : (q : ℕ) → In q items ↔ IsReached Every turned roots q
  -- each is copied once
  pub distinct : Distinct items
  -- each is one of the turned states
  pub below : (q : ℕ) → In q items → q < length turned
  -- there are no more copies than turned states
  pub few : length items ≤ length turned
  -- after the existing nodes come the copies, and the entry, which leads to the copies of the roots
  pub nodes :
      new
      ≡ (old ++ copies (copy_of (length old) items) p turned items)
      ++ Split (map (copy_of (length old) items) roots) ∷ []
  -- the number of the entry is the one after the copies
  pub enters : entry ≡ length old + length items

-- The copies of the states that are reached from the roots are added, and after them the entry.
abbrev pub IsPartAdded : (old new : List Node) → (turned : List State) → (roots : List ℕ) → (p entry : ℕ) → Type 0
IsPartAdded old new turned roots p entry = (items : List ℕ) × IsAdded old new turned roots p entry items

-- One range, in order, that leads to a state below `n`.
abbrev pub IsOneRange : (n : ℕ) → List Range → Type 0
IsOneRange n [] = ⊥
IsOneRange n (r ∷ []) = (r.lo ≤ r.hi) × (r.next < n)
IsOneRange n (r ∷ s ∷ rest) = ⊥

-- The node leads to states below `n`, has at most one range, and matches a pattern below `P`.
abbrev pub IsPlain : (n P : ℕ) → Node → Type 0
IsPlain n P (Split alternates) = (x : ℕ) → In x alternates → x < n
IsPlain n P (Assert look next) = next < n
IsPlain n P (Read ranges) = IsOneRange n ranges
IsPlain n P (Accept p) = p < P

-- Each node of a list leads to states below `n`, has at most one range, and matches a pattern below `P`.
abbrev pub ArePlain : (n P : ℕ) → List Node → Type 0
ArePlain n P [] = Unit {0}
ArePlain n P (x ∷ xs) = IsPlain n P x × ArePlain n P xs

-- The number of alternates of a node.
abbrev pub width : Node → ℕ
width (Split alternates) = length alternates
width (Assert look next) = 0
width (Read ranges) = 0
width (Accept p) = 0

-- The states with their edges reversed: each edge leads to one of them, their ranges are in order, and there are at
-- least as many as before.
pub record AreCopyable (states turned : List State) : Type 0 where
  -- each edge leads to one of the turned states
  pub range : states_below (length turned) turned ≡ true
  -- their ranges are in order
  pub ordered : states_ordered turned ≡ true
  -- there are at least as many as before
  pub whole : length states ≤ length turned

-- The parts of the first `p` of `P` patterns, each with at most `most` roots.
pub record AreParts
    (turned : List State) (most P p : ℕ) (nodes : List Node) (entries : List ℕ) : Type 0 where
  -- each node leads to nodes of the list, has at most one range, and matches a pattern below `P`
  pub plain : ArePlain (length nodes) P nodes
  -- for each pattern there are at most as many nodes as turned states, plus one
  pub few : length nodes ≤ p * (length turned + 1)
  -- for each pattern there are at most as many alternates as the turned states have, and `most` more
  pub narrow : sum_by width nodes ≤ p * (sum_by alternates_of turned + most)
  -- each entry is one of the nodes
  pub entered : (e : ℕ) → In e entries → e < length nodes

-- These states meet the conditions on the states of an NFA, except that there may be too many alternates; their number
-- and the number of their alternates have upper bounds.
pub record IsFit (states : List State) (patterns : ℕ) (made : List State) (entries : List ℕ) (root : ℕ) : Type 0 where
  -- each state leads to states of the list, has at most one range, and matches a pattern with an entry
  pub plain : ArePlain (length made) (length entries) (nodes_of made)
  -- there are at most 2^27 states
  pub small : length made ≤ 2 ^ 27
  -- each entry is one of the states
  pub entered : (e : ℕ) → In e entries → e < length made
  -- the root is one of the states
  pub starts : root < length made
  -- the number of states has an upper bound, by the size of the NFA that is reversed
  pub few : length made ≤ (patterns + 1) * (length states + sum_by asking_edges states + 2)
  -- the number of alternates in all has an upper bound as well
  pub narrow :
      sum_by alternates_of made
      ≤ (patterns + 1) * (length states + sum_by asking_edges states + sum_by free_edges states + 2)
