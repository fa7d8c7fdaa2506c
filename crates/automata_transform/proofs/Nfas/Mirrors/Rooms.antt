-- The room of a closure in a reversed NFA.
use Rattle.std.proofs.Common.{ℕ, ◌≡◌, ◌≤◌, ◌+◌, ◌-◌, List, [], ◌∷◌, refl, arith}
use Rattle.std.specs.Prelude.{sum_by}
use Rattle.std.proofs.lemmas.List.Sums.{sum_by-cons}
use Rattle.automata_base.specs.declared.nfa.thompson.state.State.{State}
use Rattle.automata_base.specs.declared.nfa.thompson.state.State.TheVariants as is
use Rattle.automata_base.specs.Nfas.Errors.{alternates_of}
use Rattle.automata_base.specs.Nfas.Nodes.{extra_of, stack_room}

extra_is : (x : State) → extra_of x ≡ alternates_of x - 1
extra_is (is.ByteRange lo hi next) = refl
extra_is (is.Sparse ts) = refl
extra_is (is.Dense targets) = refl
extra_is (is.Look look next) = refl
extra_is (is.Union alternates) = refl
extra_is (is.BinaryUnion alt1 alt2) = refl
extra_is (is.Capture next pattern index slot) = refl
extra_is is.Fail = refl
extra_is (is.Match pattern) = refl

extras_most : (xs : List State) → sum_by extra_of xs ≤ sum_by alternates_of xs
extras_most [] = omega arith
extras_most (x ∷ xs) =
    let e : extra_of x ≡ alternates_of x - 1 = extra_is x in
    let ih : sum_by extra_of xs ≤ sum_by alternates_of xs = extras_most xs in
    let left : sum_by extra_of (x ∷ xs) ≡ extra_of x + sum_by extra_of xs = sum_by-cons extra_of x xs in
    let right : sum_by alternates_of (x ∷ xs) ≡ alternates_of x + sum_by alternates_of xs =
    sum_by-cons alternates_of x xs in
    omega arith

-- The room is at most one more than the number of alternates.
pub room_most : (xs : List State) (most : ℕ) → sum_by alternates_of xs ≤ most → stack_room xs ≤ most + 1
unfolding stack_room
room_most xs most few =
    let extras : sum_by extra_of xs ≤ sum_by alternates_of xs = extras_most xs in
    let all : 1 + sum_by extra_of xs ≤ most + 1 = omega arith in
    all
