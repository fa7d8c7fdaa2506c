-- A tree over the bytes, with a list of states for each node.
use Rattle.std.specs.Prelude.{ℕ, zero, suc, ◌≡◌, ◌+◌, ◌/◌, ◌%◌, List, Option, None, Some, slice_get}
use Rattle.automata_base.specs.Lists.{In}
use Rattle.automata_base.specs.Retraced.ReversedEdges.{list_at, push_at}

-- The node that is this many steps above a node.
abbrev pub above : (steps node : ℕ) → ℕ
above zero node = node
above (suc steps) node = above steps node / 2

-- The state is in the list of the node or of one above it.
abbrev pub IsOnWay : List (List ℕ) → (node state : ℕ) → Type 0
IsOnWay lists node state = (steps : ℕ) × In state (list_at lists (above steps node))

-- The head of a node; past the last node there is none.
abbrev pub head_or_none : Option (Option ℕ) → Option ℕ
head_or_none None = None
head_or_none (Some head) = head

-- The head of the leaf of a byte, which is the node 256 plus the byte.
abbrev pub leaf_head : List (Option ℕ) → (u : ℕ) → Option ℕ
leaf_head heads u = head_or_none (slice_get heads (u + 256))

-- Whether the state is added to the node `left` where a row begins, which then begins at `first`.
pub data IsPutFirst (old new : List (List ℕ)) (left next first : ℕ) : Type 0 where
  -- no: the node is a first child, and the row has both
  BeginsWithPair : left % 2 ≡ 0 → first ≡ left → new ≡ old → IsPutFirst old new left next first
  -- yes: it is a second child, and the row then begins after it
  PutsAtFirst :
      left % 2 ≡ 1 → first ≡ left + 1 → new ≡ push_at old left next → IsPutFirst old new left next first

-- Whether the state is added to the node before the end of a row, which then ends before `last`.
pub data IsPutLast (old new : List (List ℕ)) (end next last : ℕ) : Type 0 where
  -- no: the node is a second child, and the row has both
  EndsWithPair : end % 2 ≡ 0 → last ≡ end → new ≡ old → IsPutLast old new end next last
  -- yes: it is a first child, and the row then ends before it
  PutsAtLast : end % 2 ≡ 1 → last + 1 ≡ end → new ≡ push_at old last next → IsPutLast old new end next last
