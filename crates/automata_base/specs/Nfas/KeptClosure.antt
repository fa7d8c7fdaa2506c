-- The closure of one state, which an NFA may keep, and what powerset states keep of it.
use Rattle.std.specs.Prelude.{ℕ, ◌≡◌, ◌+◌, ◌<◌, ◌≤◌, List, [], ◌∷◌, ◌++◌, All, false, Some, option_to_list}
use Rattle.std.specs.Prelude.{length, take, drop, eqb}
use Rattle.std.specs.declared.alloc.Global.{Global}
use Rattle.std.proofs.Common.{Vec}
use Rattle.automata_base.specs.Haystacks.Looks.{Look, look_index}
use Rattle.automata_base.specs.Lists.{pick}
use Rattle.automata_base.specs.Nfas.Nfa.{Nfa, Node, Truth, keep, takes_at}
use Rattle.automata_base.specs.Nfas.Nodes.{Automaton, nfa_of}
use Rattle.automata_base.specs.Powersets.Closure.{Visits}
use Rattle.automata_base.specs.Powersets.Code.{ids_code}
use Rattle.automata_base.specs.Powersets.Cuts.{targets, has_match}
use Rattle.automata_base.specs.Powersets.Members.{Members}
use Rattle.automata_base.specs.Powersets.Powerset.{IsId}
use Rattle.automata_base.specs.Retraced.Computed.{any_state}
use Rattle.automata_base.specs.Retraced.ReversedEdges.{lists_of, list_at}
use Rattle.automata_base.specs.declared.nfa.thompson.kept.KeptClosure.{KeptClosure}

-- The states visited from a root, in order, whichever looks hold.
pub record IsVisited (a : Automaton) (root : ℕ) (closure : Members) : Type 0 where
  -- the set has room for each state of the NFA
  pub whole : closure.capacity ≡ length a.states
  -- its members are the states visited from the root, in order, whichever looks hold
  pub visited : (A : Truth) → Visits (nfa_of a) A (root ∷ []) [] closure.items

-- The states that powerset states keep from a closure without looks.
pub record IsKept (n : Nfa) (closure kept : List ℕ) : Type 0 where
  -- they are the states of the closure that powerset states keep, in order
  pub same : kept ≡ pick (keep n) closure
  -- there are at most as many as in the closure
  pub few : length kept ≤ length closure
  -- none of them is a look
  pub looks : (other : Look) → any_state (λ look. eqb (look_index look) (look_index other)) n kept ≡ false

-- The list contains the part from an index on.
pub record IsPartAt (list part : List ℕ) (start : ℕ) : Type 0 where
  -- the list is long enough for the part
  pub within : start + length part ≤ length list
  -- from the index on the list has the elements of the part
  pub same : take (length part) (drop start list) ≡ part

-- These are the bytes that encode the NFA states after the first.
pub record IsRestCode (kept code : List ℕ) : Type 0 where
  -- whatever state comes before, the bytes of all are the bytes of the first one, followed by these
  pub joined : (before : ℕ) → ids_code before kept ≡ ids_code before (take 1 kept) ++ code
  -- the states after the first one have numbers that IDs may have
  pub ids : All IsId (drop 1 kept)

-- These are the targets of a list on a byte, and no state of the list matches.
pub record AreTargets (n : Nfa) (list : List ℕ) (u : ℕ) (row : List ℕ) : Type 0 where
  -- no state of the list matches
  pub unmatched : has_match n list ≡ false
  -- these are the states that its byte states lead to on the byte
  pub same : row ≡ targets n (Some u) list

-- Each row has the targets of a list on a byte: row k those on byte k.
abbrev pub AreRows : Nfa → List ℕ → List (Vec ℕ Global) → Type 0
AreRows n list rows = (u : ℕ) → u < length rows → AreTargets n list u (list_at (lists_of rows) u)

-- For each byte, the state that a node leads to on it is added to the byte's row.
abbrev pub AddsEdges : Node → (old new : List (Vec ℕ Global)) → Type 0
AddsEdges node old new =
    (u : ℕ) → u < 256 → list_at (lists_of new) u ≡ list_at (lists_of old) u ++ option_to_list (takes_at node u)

-- The closure of a root, what is kept of it, its bytes and its targets.
pub record IsKeptClosure (a : Automaton) (c : KeptClosure) : Type 0 where
  -- the states visited from the root
  pub closure : IsVisited a c.root c.set
  -- what powerset states keep of them
  pub kept : IsKept (nfa_of a) c.set.items c.kept.items
  -- the bytes of those kept, without the first one
  pub code : IsRestCode c.kept.items c.code.items
  -- the states that those kept lead to on each byte
  pub rows : AreRows (nfa_of a) c.kept.items c.rows.items
