-- An NFA as paths see it: its states, the line terminator, the reverse flag, and whether powerset states keep unions.
use Rattle.std.specs.Prelude.{ℕ, zero, suc, Bool, true, false, ◌||◌, cond, List, [], ◌∷◌, Option, Some, None}
use Rattle.std.specs.Prelude.{◌&&◌, length, ltb, slice_get}
use Rattle.automata_base.specs.Haystacks.Looks.{Look, within}

-- Bytes from `lo` to `hi` lead to `next`.
pub record Range : Type 0 where
  -- the first byte of the range
  pub lo : ℕ
  -- the last byte of the range, inclusive
  pub hi : ℕ
  -- the state that these bytes lead to
  pub next : ℕ

-- A node: a union (`Split`) with its alternates in order, where a capture has one and a fail state has none; a look
-- (`Assert`); a byte state (`Read`) with its ranges; or a match state (`Accept`).
pub data Node : Type 0 where
  Split : List ℕ → Node
  Assert : Look → ℕ → Node
  Read : List Range → Node
  Accept : ℕ → Node

-- An NFA, as paths and powerset states see it.
pub record Nfa : Type 0 where
  -- its states; the number of a state is its index
  pub nodes : List Node
  -- the byte that ends a line, for the looks of lines
  pub terminator : ℕ
  -- whether it reads the haystack backward, and so reads the line feed of `\r\n` first
  pub reverse : Bool
  -- whether powerset states keep its unions of two or more alternates
  pub keeps_unions : Bool

-- The node, or a fail state if there is none.
abbrev pub node_or_fail : Option Node → Node
node_or_fail None = Split []
node_or_fail (Some x) = x

-- The node of the state with this number. Past the last state it is a fail state.
abbrev pub node : Nfa → ℕ → Node
node n q = node_or_fail (slice_get n.nodes q)

-- Which looks hold at a place.
abbrev pub Truth : Type 0
Truth = Look → Bool

-- The target of the epsilon edge `e` of a node. A look has one, the edge 0, where it holds.
abbrev pub hop_at : Node → Truth → ℕ → Option ℕ
hop_at (Split alternates) A e = slice_get alternates e
hop_at (Assert look next) A zero = cond (A look) (Some next) None
hop_at (Assert look next) A (suc e) = None
hop_at (Read ranges) A e = None
hop_at (Accept p) A e = None

-- The target of the epsilon edge `e` of `q`, if `q` has it.
abbrev pub hop : Nfa → Truth → ℕ → ℕ → Option ℕ
hop n A q e = hop_at (node n q) A e

-- The target of the first range that contains the byte.
abbrev pub takes_in : List Range → ℕ → Option ℕ
takes_in [] u = None
takes_in (r ∷ rs) u = cond (within r.lo r.hi u) (Some r.next) (takes_in rs u)

-- The target of a state on the byte `u`, if it reads this byte.
abbrev pub takes_at : Node → ℕ → Option ℕ
takes_at (Split alternates) u = None
takes_at (Assert look next) u = None
takes_at (Read ranges) u = takes_in ranges u
takes_at (Accept p) u = None

-- The target of `q` on the byte `u`, if it reads this byte.
abbrev pub takes : Nfa → ℕ → ℕ → Option ℕ
takes n q u = takes_at (node n q) u

-- The pattern of a state, if it is a match state.
abbrev pub accepts_at : Node → Option ℕ
accepts_at (Split alternates) = None
accepts_at (Assert look next) = None
accepts_at (Read ranges) = None
accepts_at (Accept p) = Some p

-- The pattern of a match state.
abbrev pub accepts : Nfa → ℕ → Option ℕ
accepts n q = accepts_at (node n q)

-- Whether a state is a byte, look or match state.
abbrev pub stays_at : Node → Bool
stays_at (Split alternates) = false
stays_at (Assert look next) = true
stays_at (Read ranges) = true
stays_at (Accept p) = true

-- Whether a state is a union of two or more alternates.
abbrev pub splits_at : Node → Bool
splits_at (Split alternates) = ltb 1 (length alternates)
splits_at (Assert look next) = false
splits_at (Read ranges) = false
splits_at (Accept p) = false

-- Whether powerset states keep a state of their closure: byte, look and match states, and unions if the NFA keeps them.
abbrev pub keeps : Nfa → ℕ → Bool
keeps n q = stays_at (node n q) || (splits_at (node n q) && n.keeps_unions)

-- The state, if powerset states keep it.
abbrev pub keep : Nfa → ℕ → Option ℕ
keep n q = cond (keeps n q) (Some q) None

-- Whether a state reads a byte or is a match.
abbrev pub ends_at : Node → Bool
ends_at (Split alternates) = false
ends_at (Assert look next) = false
ends_at (Read ranges) = true
ends_at (Accept p) = true

-- The state, if it reads a byte or is a match.
abbrev pub ends : Nfa → ℕ → Option ℕ
ends n q = cond (ends_at (node n q)) (Some q) None

-- Whether a state is a look that passes the test.
abbrev pub looks_at : (Look → Bool) → Node → Bool
looks_at f (Split alternates) = false
looks_at f (Assert look next) = f look
looks_at f (Read ranges) = false
looks_at f (Accept p) = false

-- Whether some node is a look that passes the test.
abbrev pub any_node : (Look → Bool) → List Node → Bool
any_node f [] = false
any_node f (x ∷ xs) = looks_at f x || any_node f xs
