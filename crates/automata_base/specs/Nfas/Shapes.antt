-- The shape of a state: its kind and its parts, vectors as lists.
use Rattle.std.specs.Prelude.{ℕ, List, [], ◌∷◌, ◌++◌, reverse, Option, Some, None}
use Rattle.automata_base.specs.declared.nfa.thompson.state.State.{State}
use Rattle.automata_base.specs.declared.nfa.thompson.state.State.TheVariants as is
use Rattle.automata_base.specs.declared.nfa.thompson.state.Transition.{Transition}
use Rattle.automata_base.specs.declared.nfa.thompson.building.Added.{Added}
use Rattle.automata_base.specs.declared.nfa.thompson.building.Added.TheVariants as was
use Rattle.automata_base.specs.Haystacks.Looks.{Look}

-- The shape of a state of an NFA, or of one that a builder keeps. Only a builder has empty states and reversed unions.
pub data Shape : Type 0 where
  EmptyShape : (next : ℕ) → Shape
  RangeShape : (lo hi next : ℕ) → Shape
  SparseShape : List Transition → Shape
  DenseShape : List ℕ → Shape
  LookShape : Look → (next : ℕ) → Shape
  UnionShape : (alternates : List ℕ) → Shape
  UnionReverseShape : (alternates : List ℕ) → Shape
  BinaryUnionShape : (alt1 alt2 : ℕ) → Shape
  CaptureShape : (next pattern index slot : ℕ) → Shape
  FailShape : Shape
  MatchShape : (pattern : ℕ) → Shape

-- The shape of a state of an NFA.
abbrev pub shape_of : State → Shape
shape_of (is.ByteRange lo hi next) = RangeShape lo hi next
shape_of (is.Sparse ts) = SparseShape ts.items
shape_of (is.Dense targets) = DenseShape targets.value
shape_of (is.Look look next) = LookShape look next
shape_of (is.Union alternates) = UnionShape alternates.items
shape_of (is.BinaryUnion alt1 alt2) = BinaryUnionShape alt1 alt2
shape_of (is.Capture next pattern index slot) = CaptureShape next pattern index slot
shape_of is.Fail = FailShape
shape_of (is.Match pattern) = MatchShape pattern

-- The shape of a state that a builder keeps.
abbrev pub shape_added : Added → Shape
shape_added (was.Empty next) = EmptyShape next
shape_added (was.Range t) = RangeShape t.lo t.hi t.next
shape_added (was.Sparse ts) = SparseShape ts.items
shape_added (was.Look look next) = LookShape look next
shape_added (was.Union alternates) = UnionShape alternates.items
shape_added (was.UnionReverse alternates) = UnionReverseShape alternates.items
shape_added (was.Capture next pattern index slot) = CaptureShape next pattern index slot
shape_added was.Fail = FailShape
shape_added (was.Match pattern) = MatchShape pattern

-- The shape that a union is built as: without alternates a fail state, and with two a binary union.
abbrev pub union_of : List ℕ → Shape
union_of [] = FailShape
union_of (a ∷ []) = UnionShape (a ∷ [])
union_of (a ∷ b ∷ []) = BinaryUnionShape a b
union_of (a ∷ b ∷ c ∷ rest) = UnionShape (a ∷ b ∷ c ∷ rest)

-- The shape that a state of a builder is built as: an empty state becomes a union of one alternate.
abbrev pub built_of : Shape → Shape
built_of (EmptyShape next) = UnionShape (next ∷ [])
built_of (RangeShape lo hi next) = RangeShape lo hi next
built_of (SparseShape ts) = SparseShape ts
built_of (DenseShape targets) = DenseShape targets
built_of (LookShape look next) = LookShape look next
built_of (UnionShape alternates) = union_of alternates
built_of (UnionReverseShape alternates) = union_of (reverse alternates)
built_of (BinaryUnionShape alt1 alt2) = BinaryUnionShape alt1 alt2
built_of (CaptureShape next pattern index slot) = CaptureShape next pattern index slot
built_of FailShape = FailShape
built_of (MatchShape pattern) = MatchShape pattern

-- A state after it was patched: a union has one more alternate, and a state with one target leads to the new target
-- instead. A state without a target is unchanged. A sparse state cannot be patched, since each of its ranges has its
-- own target.
abbrev pub patched : Shape → ℕ → Option Shape
patched (EmptyShape next) to = Some (EmptyShape to)
patched (RangeShape lo hi next) to = Some (RangeShape lo hi to)
patched (SparseShape ts) to = None
patched (DenseShape targets) to = None
patched (LookShape look next) to = Some (LookShape look to)
patched (UnionShape alternates) to = Some (UnionShape (alternates ++ to ∷ []))
patched (UnionReverseShape alternates) to = Some (UnionReverseShape (alternates ++ to ∷ []))
patched (BinaryUnionShape alt1 alt2) to = None
patched (CaptureShape next pattern index slot) to = Some (CaptureShape to pattern index slot)
patched FailShape to = Some FailShape
patched (MatchShape pattern) to = Some (MatchShape pattern)
