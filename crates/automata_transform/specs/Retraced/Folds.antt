-- Unions whose alternates that read bytes are folded into one state that reads, and the states that it leads to.
use Rattle.std.specs.Prelude.{ℕ, zero, suc, ◌≡◌, ◌<◌, ◌≤◌, ◌↔◌, List, [], ◌∷◌, ◌++◌, Option, None, Some, slice_get}
use Rattle.std.specs.Prelude.{Bool, true, false, leb, length}
use Rattle.automata_base.specs.declared.nfa.thompson.state.State.{State}
use Rattle.automata_base.specs.declared.nfa.thompson.state.State.TheVariants as is
use Rattle.automata_base.specs.declared.nfa.thompson.state.Transition.{Transition}
use Rattle.automata_base.specs.Nfas.Nodes.{node_of}
use Rattle.std.specs.declared.alloc.Global.{Global}
use Rattle.std.proofs.Common.{Vec}
use Rattle.automata_base.specs.Lists.{In}
use Rattle.automata_base.specs.Retraced.Reach.{node_in, targets_of}
use Rattle.automata_base.specs.declared.nfa.thompson.reach.Edges.TheVariants.{Every}
use Rattle.automata_transform.specs.Retraced.Segments.{IsOnWay, head_or_none}
use Rattle.automata_base.specs.Nfas.Nfa.{Nfa, Node, Range, Split, Assert, Read, Accept, Truth}
use Rattle.automata_base.specs.Nfas.Nfa.{hop_at, node, takes, takes_in}

-- The state is not one of the free ones, which are replaced.
abbrev pub IsNotFree : (free : List ℕ) → (state : ℕ) → Type 0
IsNotFree free state = In state free → ⊥

-- The state is a free one, and this node replaces it.
abbrev pub IsMade : (free : List ℕ) → (made : List Node) → (state : ℕ) → Node → Type 0
IsMade free made state x = (k : ℕ) × (slice_get free k ≡ Some state) × (slice_get made k ≡ Some x)

-- The list is the targets of the states, one after another. `Stands` says which are the targets of one state.
abbrev pub AreTargetsOf : (ℕ → List ℕ → Type 0) → (states targets : List ℕ) → Type 0
AreTargetsOf Stands [] targets = targets ≡ []
AreTargetsOf Stands (x ∷ xs) targets =
    (own rest : List ℕ) × Stands x own × AreTargetsOf Stands xs rest × (targets ≡ own ++ rest)

-- How a state stands for the targets, where `Stand` says which states stand for them together.
pub data IsStandIn (free : List ℕ) (made : List Node) (Stand : List ℕ → Type 0) (state : ℕ) (targets : List ℕ) :
    Type 0 where
  -- it is not one of the free ones, and it is the only target
  IsTheTarget : IsNotFree free state → targets ≡ state ∷ [] → IsStandIn free made Stand state targets
  -- it is a union that was made, and its alternates stand for them
  JoinsStandIns :
      (xs : List ℕ) → IsMade free made state (Split xs) → Stand xs → IsStandIn free made Stand state targets

-- The state stands for the targets: it leads to them over unions that were made, in at most `depth` steps.
abbrev pub StandsFor : (free : List ℕ) → (made : List Node) → (depth state : ℕ) → (targets : List ℕ) → Type 0
StandsFor free made zero state targets = IsStandIn free made (λ xs. ⊥) state targets
StandsFor free made (suc depth) state targets =
    IsStandIn free made (λ xs. AreTargetsOf (StandsFor free made depth) xs targets) state targets

-- If there is no state, there are no targets; a state stands for those that it leads to in some number of steps.
abbrev pub StandsIfAny : (free : List ℕ) → (made : List Node) → Option ℕ → (targets : List ℕ) → Type 0
StandsIfAny free made None targets = targets ≡ []
StandsIfAny free made (Some state) targets = (depth : ℕ) × StandsFor free made depth state targets

-- One of these states leads to the target on a byte.
abbrev pub SomeTakes : Nfa → (states : List ℕ) → (u target : ℕ) → Type 0
SomeTakes n states u target = (x : ℕ) × In x states × (takes n x u ≡ Some target)

-- What becomes of an alternate of a union that is folded.
pub data IsFoldedAlternate (n : Nfa) (stay : List ℕ) (targets : ℕ → List ℕ) (x : ℕ) : Type 0 where
  -- it stays
  StaysAlternate : In x stay → IsFoldedAlternate n stay targets x
  -- it reads bytes, and leads to these targets
  FoldsAlternate :
      (own : List Range) → node n x ≡ Read own → ((u t : ℕ) → takes_in own u ≡ Some t → In t (targets u))
      → IsFoldedAlternate n stay targets x

-- A union of the states `xs` becomes one of some of them, and of a state that reads what the others read.
pub record IsFoldedUnion (n : Nfa) (free : List ℕ) (made : List Node) (xs : List ℕ) (folded : Node) : Type 0 where
  -- the alternates that stay
  pub stay : List ℕ
  -- the state that reads
  pub reader : ℕ
  -- its ranges
  pub ranges : List Range
  -- the folded union leads to both
  pub union : folded ≡ Split (stay ++ reader ∷ [])
  -- the state that reads was made, with these ranges
  pub reads : IsMade free made reader (Read ranges)
  -- the alternates that stay are alternates of the union, and are kept
  pub kept : (x : ℕ) → In x stay → In x xs × IsNotFree free x
  -- for each byte the targets of the state that reads
  pub targets : ℕ → List ℕ
  -- on each byte it leads to a state that stands for its targets
  pub stands : (u : ℕ) → StandsIfAny free made (takes_in ranges u) (targets u)
  -- an alternate of the union leads to each of these targets
  pub sound : (u t : ℕ) → In t (targets u) → SomeTakes n xs u t
  -- an alternate of the union stays, or it reads bytes and leads to these targets
  pub alternates : (x : ℕ) → In x xs → IsFoldedAlternate n stay targets x

-- What becomes of a node.
pub data IsFoldedNode (n : Nfa) (free : List ℕ) (made : List Node) (old new : Node) : Type 0 where
  -- it is unchanged, and no epsilon edge of it leads to a free state
  StaysNode :
      new ≡ old → ((A : Truth) (e y : ℕ) → hop_at old A e ≡ Some y → IsNotFree free y)
      → IsFoldedNode n free made old new
  -- it was a union and is folded
  FoldsNode : (xs : List ℕ) → old ≡ Split xs → IsFoldedUnion n free made xs new → IsFoldedNode n free made old new

-- The states of `m` are those of `n`, with some unions folded and the free states replaced.
pub record IsFolded (n m : Nfa) (free : List ℕ) (made : List Node) : Type 0 where
  -- each state that is kept is unchanged, or it was a union and is folded
  pub each : (x : ℕ) → IsNotFree free x → IsFoldedNode n free made (node n x) (node m x)
  -- the free states are replaced by what was made
  pub more : (x : ℕ) (new : Node) → IsMade free made x new → node m x ≡ new
  -- no byte leads to a free state
  pub moves : (x u y : ℕ) → takes n x u ≡ Some y → IsNotFree free y

-- The range of a state that reads one.
abbrev pub range_read : State → Option Transition
range_read (is.ByteRange lo hi next) = Some (record { lo = lo; hi = hi; next = next })
range_read (is.Sparse ts) = None
range_read (is.Dense targets) = None
range_read (is.Look look next) = None
range_read (is.Union alternates) = None
range_read (is.BinaryUnion alt1 alt2) = None
range_read (is.Capture next pattern index slot) = None
range_read is.Fail = None
range_read (is.Match pattern) = None

-- The state of this number reads the range.
abbrev pub ReadsRange : List State → (x : ℕ) → Transition → Type 0
ReadsRange states x range = (state : State) × (slice_get states x ≡ Some state) × (range_read state ≡ Some range)

-- One of the states `xs` reads a range that has the byte, and leads to the target.
pub record SomeReads (states : List State) (xs : List ℕ) (u target : ℕ) : Type 0 where
  -- the state
  pub state : ℕ
  -- the range that it reads
  pub range : Transition
  -- it is one of them
  pub among : In state xs
  -- it reads that range
  pub reads : ReadsRange states state range
  -- which leads to the target
  pub leads : range.next ≡ target
  -- the range begins no later than the byte
  pub begins : range.lo ≤ u
  -- the range ends no earlier than the byte
  pub ends : u ≤ range.hi

-- Whether a state is a union that may be folded: it has many alternates.
abbrev pub is_large : Node → Bool
is_large (Split alternates) = leb 64 (length alternates)
is_large (Assert look next) = false
is_large (Read ranges) = false
is_large (Accept p) = false

-- Each of the first `count` nodes of a tree has a head that stands for the states in the lists on its way.
abbrev pub AreTreeHeads :
    (free : List ℕ) → (made : List Node) → (lists : List (List ℕ)) → (heads : List (Option ℕ)) → (count : ℕ) → Type 0
AreTreeHeads free made lists heads count =
    (k : ℕ) → k < count
    → (targets : List ℕ) × StandsIfAny free made (head_or_none (slice_get heads k)) targets
    × ((t : ℕ) → In t targets ↔ IsOnWay lists k t)

-- What becomes of an alternate of the union.
pub data StaysOrReads (states : List State) (stay : List ℕ) (x : ℕ) : Type 0 where
  -- it stays
  KeepsAlternate : In x stay → StaysOrReads states stay x
  -- it reads a range
  ReadsARange : (range : Transition) → ReadsRange states x range → StaysOrReads states stay x

-- A union of the states `xs` becomes a union of those that do not read a range and of one that reads what the others
-- read.
pub record IsFoldOf
    (states : List State) (free : List ℕ) (made : List Node) (xs : List ℕ) (folded : Node) : Type 0 where
  -- the alternates that stay
  pub stay : List ℕ
  -- the state that reads
  pub reader : ℕ
  -- its ranges
  pub ranges : List Range
  -- the folded union leads to both
  pub union : folded ≡ Split (stay ++ reader ∷ [])
  -- the state that reads was made, with these ranges
  pub reads : IsMade free made reader (Read ranges)
  -- the alternates that stay are alternates of the union that read no range
  pub sound : (x : ℕ) → In x stay → In x xs × ((range : Transition) → ReadsRange states x range → ⊥)
  -- each alternate of the union stays, or it reads a range
  pub alternates : (x : ℕ) → In x xs → StaysOrReads states stay x
  -- on each byte, the state that reads leads to a state that stands for the targets of these ranges
  pub stands :
      (u : ℕ)
      → (targets : List ℕ) × StandsIfAny free made (takes_in ranges u) targets
      × ((t : ℕ) → In t targets ↔ SomeReads states xs u t)

-- Whether there is a state, and it is a union that may be folded.
abbrev pub is_large_state : Option State → Bool
is_large_state None = false
is_large_state (Some state) = is_large (node_of state)

-- What becomes of a state.
pub data IsFoldedState (states : List State) (free : List ℕ) (made : List Node) (old new : Option State) : Type 0 where
  -- it is unchanged, and it is not a union that may be folded
  StaysState : new ≡ old → is_large_state old ≡ false → IsFoldedState states free made old new
  -- it was a union and is folded, to a state that reads no range
  FoldsState :
      (alternates : Vec ℕ Global) (folded : State) → old ≡ Some (is.Union alternates) → new ≡ Some folded
      → IsFoldOf states free made alternates.items (node_of folded) → range_read folded ≡ None
      → IsFoldedState states free made old new

-- The state is the union of these.
abbrev pub IsUnionOf : State → (list : List ℕ) → Type 0
IsUnionOf state list = (alternates : Vec ℕ Global) × (state ≡ is.Union alternates) × (list ≡ alternates.items)

-- Some unions of the old states are folded, and the free states are replaced.
pub record AreFolded (old new : List State) (free : List ℕ) (made : List Node) : Type 0 where
  -- each state that is kept is unchanged, or it was a union and is folded
  pub each : (x : ℕ) → IsNotFree free x → IsFoldedState old free made (slice_get old x) (slice_get new x)
  -- the free states are replaced by what was made
  pub more : (x : ℕ) (node : Node) → IsMade free made x node → node_in new x ≡ node
  -- no state but a large union leads to a free one
  pub led : (q t : ℕ) → is_large (node_in old q) ≡ false → In t (targets_of Every old q) → IsNotFree free t
  -- the free states read a range
  pub reads : (x : ℕ) → In x free → (range : Transition) × ReadsRange old x range

-- The new states are the old ones with unions folded, and the root and the entries are kept.
pub record IsFoldedFrom (old new : List State) (root : ℕ) (entries : List ℕ) : Type 0 where
  -- the states that are replaced
  pub free : List ℕ
  -- the nodes that replace them
  pub made : List Node
  -- unions are folded with these
  pub folded : AreFolded old new free made
  -- the root is kept
  pub rooted : IsNotFree free root
  -- each entry is kept
  pub entered : (e : ℕ) → In e entries → IsNotFree free e

-- Whether a state tests a look.
abbrev pub tests_look : State → Bool
tests_look (is.ByteRange lo hi next) = false
tests_look (is.Sparse ts) = false
tests_look (is.Dense targets) = false
tests_look (is.Look look next) = true
tests_look (is.Union alternates) = false
tests_look (is.BinaryUnion alt1 alt2) = false
tests_look (is.Capture next pattern index slot) = false
tests_look is.Fail = false
tests_look (is.Match pattern) = false

-- Each new state that tests a look is the old state of the same number.
abbrev pub AddsNoLook : (old new : List State) → Type 0
AddsNoLook old new =
    (x : ℕ) (state : State) → slice_get new x ≡ Some state → tests_look state ≡ true → slice_get old x ≡ Some state

-- If the state of this number is a union, its alternates are states.
abbrev pub IsUnionBelow : List State → (x : ℕ) → Type 0
IsUnionBelow states x =
    (state : State) (list : List ℕ) → slice_get states x ≡ Some state → IsUnionOf state list → (y : ℕ) → In y list
    → y < length states
