-- The tests of `NFA::from_states`. They depend only on the shapes of states.
use Rattle.std.specs.Prelude.{ℕ, ◌+◌, ◌^◌, Option, Some, None, sum_by, length, map, Bool, true, ◌&&◌, ltb, leb}
use Rattle.std.specs.Prelude.{if◌then◌else◌, List, [], ◌∷◌}
use Rattle.automata_base.specs.declared.nfa.thompson.state.NfaError.{NfaError}
use Rattle.automata_base.specs.declared.nfa.thompson.state.NfaError.TheVariants.{TooLarge, StartRange, StateRange}
use Rattle.automata_base.specs.declared.nfa.thompson.state.NfaError.TheVariants.{Ranges}
use Rattle.automata_base.specs.declared.nfa.thompson.state.NfaError.TheVariants.{PatternRange}
use Rattle.automata_base.specs.declared.nfa.thompson.state.State.{State}
use Rattle.automata_base.specs.declared.nfa.thompson.state.Transition.{Transition}
use Rattle.automata_base.specs.Lists.{all_below}
use Rattle.automata_base.specs.Nfas.Shapes.{Shape, EmptyShape, RangeShape, SparseShape, DenseShape, LookShape}
use Rattle.automata_base.specs.Nfas.Shapes.{UnionShape, UnionReverseShape, BinaryUnionShape, CaptureShape, FailShape}
use Rattle.automata_base.specs.Nfas.Shapes.{MatchShape, shape_of}

-- Each of these ranges leads to a state below the bound.
abbrev pub transitions_below : ℕ → List Transition → Bool
transitions_below n [] = true
transitions_below n (t ∷ ts) = ltb t.next n && transitions_below n ts

-- Each state number of a shape is in range.
abbrev pub shape_below : ℕ → Shape → Bool
shape_below n (EmptyShape next) = ltb next n
shape_below n (RangeShape lo hi next) = ltb next n
shape_below n (SparseShape ts) = transitions_below n ts
shape_below n (DenseShape targets) = all_below n targets
shape_below n (LookShape look next) = ltb next n
shape_below n (UnionShape alternates) = all_below n alternates
shape_below n (UnionReverseShape alternates) = all_below n alternates
shape_below n (BinaryUnionShape alt1 alt2) = ltb alt1 n && ltb alt2 n
shape_below n (CaptureShape next pattern index slot) = ltb next n
shape_below n FailShape = true
shape_below n (MatchShape pattern) = true

-- Each state number of a state of an NFA is in range.
abbrev pub state_below : ℕ → State → Bool
state_below n state = shape_below n (shape_of state)

-- Each state number of these states is in range.
abbrev pub states_below : ℕ → List State → Bool
states_below n [] = true
states_below n (x ∷ xs) = state_below n x && states_below n xs

-- The pattern of a shape is in range, if it is the shape of a match state.
abbrev pub shape_matches_below : ℕ → Shape → Bool
shape_matches_below P (EmptyShape next) = true
shape_matches_below P (RangeShape lo hi next) = true
shape_matches_below P (SparseShape ts) = true
shape_matches_below P (DenseShape targets) = true
shape_matches_below P (LookShape look next) = true
shape_matches_below P (UnionShape alternates) = true
shape_matches_below P (UnionReverseShape alternates) = true
shape_matches_below P (BinaryUnionShape alt1 alt2) = true
shape_matches_below P (CaptureShape next pattern index slot) = true
shape_matches_below P FailShape = true
shape_matches_below P (MatchShape pattern) = ltb pattern P

-- The pattern of a state of an NFA is in range, if it is a match state.
abbrev pub match_below : ℕ → State → Bool
match_below P state = shape_matches_below P (shape_of state)

-- Each pattern of these states is in range.
abbrev pub matches_below : ℕ → List State → Bool
matches_below P [] = true
matches_below P (x ∷ xs) = match_below P x && matches_below P xs

-- None of these ranges is reversed or begins below the bound, and they are sorted and do not overlap.
abbrev pub ordered_from : ℕ → List Transition → Bool
ordered_from low [] = true
ordered_from low (t ∷ ts) = leb low t.lo && leb t.lo t.hi && ordered_from (t.hi + 1) ts

-- Ranges are not reversed, and those of a sparse state are sorted and do not overlap.
abbrev pub shape_ordered : Shape → Bool
shape_ordered (EmptyShape next) = true
shape_ordered (RangeShape lo hi next) = leb lo hi
shape_ordered (SparseShape ts) = ordered_from 0 ts
shape_ordered (DenseShape targets) = true
shape_ordered (LookShape look next) = true
shape_ordered (UnionShape alternates) = true
shape_ordered (UnionReverseShape alternates) = true
shape_ordered (BinaryUnionShape alt1 alt2) = true
shape_ordered (CaptureShape next pattern index slot) = true
shape_ordered FailShape = true
shape_ordered (MatchShape pattern) = true

-- The ranges of a state of an NFA are in order.
abbrev pub state_ordered : State → Bool
state_ordered state = shape_ordered (shape_of state)

-- The ranges of each of these states are in order.
abbrev pub states_ordered : List State → Bool
states_ordered [] = true
states_ordered (x ∷ xs) = state_ordered x && states_ordered xs

-- The number of alternates of a shape: only unions have any.
abbrev pub shape_alternates : Shape → ℕ
shape_alternates (EmptyShape next) = 0
shape_alternates (RangeShape lo hi next) = 0
shape_alternates (SparseShape ts) = 0
shape_alternates (DenseShape targets) = 0
shape_alternates (LookShape look next) = 0
shape_alternates (UnionShape alternates) = length alternates
shape_alternates (UnionReverseShape alternates) = length alternates
shape_alternates (BinaryUnionShape alt1 alt2) = 2
shape_alternates (CaptureShape next pattern index slot) = 0
shape_alternates FailShape = 0
shape_alternates (MatchShape pattern) = 0

-- The number of alternates of a state of an NFA.
abbrev pub alternates_of : State → ℕ
alternates_of state = shape_alternates (shape_of state)

-- There are at most 2^27 states, and at most 2^27 patterns.
abbrev pub is_small : List State → List ℕ → Bool
is_small states starts = leb (length states) (2 ^ 27) && leb (length starts) (2 ^ 27)

-- There are at most 2^31 alternates in all.
abbrev pub is_narrow : List State → Bool
is_narrow states = leb (sum_by alternates_of states) (2 ^ 31)

-- Each start is in range.
abbrev pub starts_below : ℕ → (anchored unanchored : ℕ) → (starts : List ℕ) → Bool
starts_below n anchored unanchored starts = ltb anchored n && ltb unanchored n && all_below n starts

-- The error if the test fails, and otherwise the error of the later tests.
abbrev pub unless : Bool → NfaError → Option NfaError → Option NfaError
unless passes error later = if passes then later else Some error

-- Whether each of these states passes the test.
abbrev pub every : (Shape → Bool) → List Shape → Bool
every test [] = true
every test (x ∷ xs) = test x && every test xs

-- The error of the first test that fails; none if all pass.
unfoldable pub shapes_error : List Shape → (anchored unanchored : ℕ) → (starts : List ℕ) → Option NfaError
shapes_error shapes anchored unanchored starts =
    unless (leb (length shapes) (2 ^ 27) && leb (length starts) (2 ^ 27)) TooLarge
    (unless (leb (sum_by shape_alternates shapes) (2 ^ 31)) TooLarge
    (unless (starts_below (length shapes) anchored unanchored starts) StartRange
    (unless (every (shape_below (length shapes)) shapes) StateRange
    (unless (every shape_ordered shapes) Ranges
    (unless (every (shape_matches_below (length starts)) shapes) PatternRange None)))))

-- The error of the first test of `NFA::from_states` that these states fail; none if they pass all.
abbrev pub states_error : List State → (anchored unanchored : ℕ) → (starts : List ℕ) → Option NfaError
states_error states anchored unanchored starts = shapes_error (map shape_of states) anchored unanchored starts
