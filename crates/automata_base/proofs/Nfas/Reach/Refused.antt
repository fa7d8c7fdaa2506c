-- What the tests of `NFA::from_states` mean.
use Rattle.std.proofs.Common.{ℕ, ◌≡◌, ◌<◌, ◌≤◌, ◌+◌, ◌-◌, ◌^◌, ◌&&◌, Bool, true, false, leb, ltb, List, [], ◌∷◌, length}
use Rattle.std.proofs.Common.{map}
use Rattle.std.proofs.Common.{Option, Some, None, Result, Ok, Err, refl, sym, ap, ◌∙◌, arith}
use Rattle.std.specs.Prelude.{sum_by, IsOk}
use Rattle.std.proofs.lemmas.Bool.{leb-true, ltb-true}
use Rattle.std.proofs.lemmas.List.{length-map}
use Rattle.std.proofs.lemmas.List.Sums.{sum_by-cons}
use Rattle.automata_base.specs.declared.nfa.thompson.state.NfaError.{NfaError}
use Rattle.automata_base.specs.declared.nfa.thompson.state.NfaError.TheVariants.{TooLarge, StartRange, StateRange}
use Rattle.automata_base.specs.declared.nfa.thompson.state.NfaError.TheVariants.{Ranges}
use Rattle.automata_base.specs.declared.nfa.thompson.state.NfaError.TheVariants.{PatternRange}
use Rattle.automata_base.specs.declared.nfa.thompson.state.State.{State}
use Rattle.automata_base.specs.declared.nfa.thompson.checks.Totals.{Totals}
use Rattle.automata_base.specs.Nfas.Nodes.{extra_of, stack_room}
use Rattle.automata_base.specs.Nfas.Errors.{alternates_of, is_small, is_narrow, starts_below, states_below}
use Rattle.automata_base.specs.Nfas.Errors.{states_ordered, matches_below, unless, states_error, shapes_error, every}
use Rattle.automata_base.specs.Nfas.Errors.{shape_below, shape_matches_below, shape_ordered, shape_alternates}
use Rattle.automata_base.specs.Nfas.Shapes.{shape_of}
use Rattle.automata_base.proofs.Powersets.ListTests.{extra_is}
use Rattle.automata_base.specs.Lists.{all_below}
use Rattle.std.proofs.lemmas.Bool.{and_parts}

abbrev pub chain : (small narrow starts targets ranges patterns : Bool) → Option NfaError
chain small narrow starts targets ranges patterns =
    unless small TooLarge
    (unless narrow TooLarge
    (unless starts StartRange (unless targets StateRange (unless ranges Ranges (unless patterns PatternRange None)))))

-- Testing states is the same as testing their shapes.
all_below_is : (n : ℕ) (xs : List State) → every (shape_below n) (map shape_of xs) ≡ states_below n xs
all_below_is n [] = refl
all_below_is n (x ∷ xs) = ap (λ b. shape_below n (shape_of x) && b) (all_below_is n xs)

all_matches_is : (n : ℕ) (xs : List State) → every (shape_matches_below n) (map shape_of xs) ≡ matches_below n xs
all_matches_is n [] = refl
all_matches_is n (x ∷ xs) = ap (λ b. shape_matches_below n (shape_of x) && b) (all_matches_is n xs)

all_ordered_is : (xs : List State) → every shape_ordered (map shape_of xs) ≡ states_ordered xs
all_ordered_is [] = refl
all_ordered_is (x ∷ xs) = ap (λ b. shape_ordered (shape_of x) && b) (all_ordered_is xs)

all_alternates_is : (xs : List State) → sum_by shape_alternates (map shape_of xs) ≡ sum_by alternates_of xs
all_alternates_is [] = refl
all_alternates_is (x ∷ xs) =
    sum_by-cons shape_alternates (shape_of x) (map shape_of xs)
    ∙ (ap (λ k. shape_alternates (shape_of x) + k) (all_alternates_is xs) ∙ sym (sum_by-cons alternates_of x xs))

pub refusal_is :
    (states : List State) (a u : ℕ) (starts : List ℕ)
    → states_error states a u starts
    ≡ chain (is_small states starts) (is_narrow states) (starts_below (length states) a u starts)
    (states_below (length states) states) (states_ordered states) (matches_below (length starts) states)
unfolding shapes_error
refusal_is states a u starts =
    ap (λ n. chain (leb n (2 ^ 27) && leb (length starts) (2 ^ 27))
    (leb (sum_by shape_alternates (map shape_of states)) (2 ^ 31))
    (starts_below n a u starts) (every (shape_below n) (map shape_of states))
    (every shape_ordered (map shape_of states))
    (every (shape_matches_below (length starts)) (map shape_of states))) (length-map states shape_of)
    ∙ (ap (λ k. chain (is_small states starts) (leb k (2 ^ 31)) (starts_below (length states) a u starts)
    (every (shape_below (length states)) (map shape_of states)) (every shape_ordered (map shape_of states))
    (every (shape_matches_below (length starts)) (map shape_of states))) (all_alternates_is states)
    ∙ (ap (λ b. chain (is_small states starts) (is_narrow states) (starts_below (length states) a u starts) b
    (every shape_ordered (map shape_of states)) (every (shape_matches_below (length starts)) (map shape_of states)))
    (all_below_is (length states) states)
    ∙ (ap (λ b. chain (is_small states starts) (is_narrow states) (starts_below (length states) a u starts)
    (states_below (length states) states) b (every (shape_matches_below (length starts)) (map shape_of states)))
    (all_ordered_is states)
    ∙ ap (λ b. chain (is_small states starts) (is_narrow states) (starts_below (length states) a u starts)
    (states_below (length states) states) (states_ordered states) b) (all_matches_is (length starts) states))))

pub stops_small : (a b c d e f : Bool) → a ≡ false → chain a b c d e f ≡ Some TooLarge
stops_small a b c d e f h = ap (λ z. chain z b c d e f) h

pub stops_narrow : (a b c d e f : Bool) → a ≡ true → b ≡ false → chain a b c d e f ≡ Some TooLarge
stops_narrow a b c d e f h i = ap (λ z. chain z b c d e f) h ∙ ap (λ z. chain true z c d e f) i

pub stops_starts : (a b c d e f : Bool) → a ≡ true → b ≡ true → c ≡ false → chain a b c d e f ≡ Some StartRange
stops_starts a b c d e f h i j =
    ap (λ z. chain z b c d e f) h ∙ (ap (λ z. chain true z c d e f) i ∙ ap (λ z. chain true true z d e f) j)

pub stops_targets :
    (a b c d e f : Bool) → a ≡ true → b ≡ true → c ≡ true → d ≡ false → chain a b c d e f ≡ Some StateRange
stops_targets a b c d e f h i j k =
    ap (λ z. chain z b c d e f) h
    ∙ (ap (λ z. chain true z c d e f) i
    ∙ (ap (λ z. chain true true z d e f) j ∙ ap (λ z. chain true true true z e f) k))

pub stops_ranges :
    (a b c d e f : Bool) → a ≡ true → b ≡ true → c ≡ true → d ≡ true → e ≡ false → chain a b c d e f ≡ Some Ranges
stops_ranges a b c d e f h i j k l =
    ap (λ z. chain z b c d e f) h
    ∙ (ap (λ z. chain true z c d e f) i
    ∙ (ap (λ z. chain true true z d e f) j
    ∙ (ap (λ z. chain true true true z e f) k ∙ ap (λ z. chain true true true true z f) l)))

pub goes_on :
    (a b c d e f : Bool) → a ≡ true → b ≡ true → c ≡ true → d ≡ true → e ≡ true
    → chain a b c d e f ≡ unless f PatternRange None
goes_on a b c d e f h i j k l =
    ap (λ z. chain z b c d e f) h
    ∙ (ap (λ z. chain true z c d e f) i
    ∙ (ap (λ z. chain true true z d e f) j
    ∙ (ap (λ z. chain true true true z e f) k ∙ ap (λ z. chain true true true true z f) l)))

some_apart : {x : NfaError} → ◌≡◌ {A = Option NfaError} (Some x) None → ⊥
some_apart e = cc

same_error : {x y : NfaError} → ◌≡◌ {A = Option NfaError} (Some x) (Some y) → x ≡ y
same_error e = cc

-- The result is the error of the first test that fails, or `Ok` if none fails.
abbrev pub IsReported : Option NfaError → Result Totals NfaError → Type 0
IsReported o r = ((e : NfaError) → o ≡ Some e → r ≡ Err e) × (o ≡ None → IsOk r)

pub reported : (o : Option NfaError) (x : NfaError) → o ≡ Some x → IsReported o (Err x)
reported o x h = (λ e k. ap (λ z. Err z) (same_error (sym h ∙ k)), λ k. absurd (some_apart (sym h ∙ k)))

pub reported_none : (o : Option NfaError) (totals : Totals) → o ≡ None → IsReported o (Ok totals)
reported_none o totals h = (λ e k. absurd (some_apart (sym k ∙ h)), λ k. refl)

pub all_passed :
    (a b c d e f : Bool) → chain a b c d e f ≡ None
    → (a ≡ true) × (b ≡ true) × (c ≡ true) × (d ≡ true) × (e ≡ true) × (f ≡ true)
all_passed true true true true true true h = (refl, refl, refl, refl, refl, refl)
all_passed true true true true true false h = absurd (some_apart h)
all_passed true true true true false f h = absurd (some_apart h)
all_passed true true true false e f h = absurd (some_apart h)
all_passed true true false d e f h = absurd (some_apart h)
all_passed true false c d e f h = absurd (some_apart h)
all_passed false b c d e f h = absurd (some_apart h)

extras_most : (xs : List State) → sum_by extra_of xs ≤ sum_by alternates_of xs
extras_most [] = omega arith
extras_most (x ∷ xs) =
    let e : extra_of x ≡ alternates_of x - 1 = extra_is x in
    let ih : sum_by extra_of xs ≤ sum_by alternates_of xs = extras_most xs in
    let left : sum_by extra_of (x ∷ xs) ≡ extra_of x + sum_by extra_of xs = sum_by-cons extra_of x xs in
    let right : sum_by alternates_of (x ∷ xs) ≡ alternates_of x + sum_by alternates_of xs =
    sum_by-cons alternates_of x xs in
    omega arith

-- If the states have few alternates, the room of the stack is small.
pub room_small : (xs : List State) → is_narrow xs ≡ true → stack_room xs ≤ 2 ^ 31 + 1
unfolding stack_room
room_small xs h =
    let narrow : sum_by alternates_of xs ≤ 2147483648 = leb-true (sum_by alternates_of xs) 2147483648 h in
    let most : sum_by extra_of xs ≤ sum_by alternates_of xs = extras_most xs in
    let all : 1 + sum_by extra_of xs ≤ 2147483649 = omega arith in
    all

module _ (s : List State) (a u : ℕ) (t : List ℕ) where
  pub refused_small : is_small s t ≡ false → IsReported (states_error s a u t) (Err TooLarge)
  refused_small h =
      reported (states_error s a u t) TooLarge
      (refusal_is s a u t
      ∙ stops_small (is_small s t) (is_narrow s) (starts_below (length s) a u t) (states_below (length s) s)
      (states_ordered s) (matches_below (length t) s) h)

  pub refused_wide : is_small s t ≡ true → is_narrow s ≡ false → IsReported (states_error s a u t) (Err TooLarge)
  refused_wide h i =
      reported (states_error s a u t) TooLarge
      (refusal_is s a u t
      ∙ stops_narrow (is_small s t) (is_narrow s) (starts_below (length s) a u t) (states_below (length s) s)
      (states_ordered s) (matches_below (length t) s) h i)

  pub refused_starts :
      is_small s t ≡ true → is_narrow s ≡ true → starts_below (length s) a u t ≡ false
      → IsReported (states_error s a u t) (Err StartRange)
  refused_starts h i j =
      reported (states_error s a u t) StartRange
      (refusal_is s a u t
      ∙ stops_starts (is_small s t) (is_narrow s) (starts_below (length s) a u t) (states_below (length s) s)
      (states_ordered s) (matches_below (length t) s) h i j)

  pub refused_targets :
      is_small s t ≡ true → is_narrow s ≡ true → starts_below (length s) a u t ≡ true
      → states_below (length s) s ≡ false
      → IsReported (states_error s a u t) (Err StateRange)
  refused_targets h i j k =
      reported (states_error s a u t) StateRange
      (refusal_is s a u t
      ∙ stops_targets (is_small s t) (is_narrow s) (starts_below (length s) a u t) (states_below (length s) s)
      (states_ordered s) (matches_below (length t) s) h i j k)

  pub refused_ranges :
      is_small s t ≡ true → is_narrow s ≡ true → starts_below (length s) a u t ≡ true → states_below (length s) s ≡ true
      → states_ordered s ≡ false
      → IsReported (states_error s a u t) (Err Ranges)
  refused_ranges h i j k l =
      reported (states_error s a u t) Ranges
      (refusal_is s a u t
      ∙ stops_ranges (is_small s t) (is_narrow s) (starts_below (length s) a u t) (states_below (length s) s)
      (states_ordered s) (matches_below (length t) s) h i j k l)

  last_test :
      is_small s t ≡ true → is_narrow s ≡ true → starts_below (length s) a u t ≡ true → states_below (length s) s ≡ true
      → states_ordered s ≡ true
      → states_error s a u t ≡ unless (matches_below (length t) s) PatternRange None
  last_test h i j k l =
      refusal_is s a u t
      ∙ goes_on (is_small s t) (is_narrow s) (starts_below (length s) a u t) (states_below (length s) s)
      (states_ordered s) (matches_below (length t) s) h i j k l

  pub refused_patterns :
      is_small s t ≡ true → is_narrow s ≡ true → starts_below (length s) a u t ≡ true → states_below (length s) s ≡ true
      → states_ordered s ≡ true
      → matches_below (length t) s ≡ false → IsReported (states_error s a u t) (Err PatternRange)
  refused_patterns h i j k l m =
      reported (states_error s a u t) PatternRange (last_test h i j k l ∙ ap (λ z. unless z PatternRange None) m)

  pub refused_none :
      (totals : Totals) → is_small s t ≡ true → is_narrow s ≡ true → starts_below (length s) a u t ≡ true
      → states_below (length s) s ≡ true → states_ordered s ≡ true
      → matches_below (length t) s ≡ true → IsReported (states_error s a u t) (Ok totals)
  refused_none totals h i j k l m =
      reported_none (states_error s a u t) totals (last_test h i j k l ∙ ap (λ z. unless z PatternRange None) m)

-- What holds if all tests passed.
pub record IsPassed (s : List State) (a u : ℕ) (t : List ℕ) : Type 0 where
  pub small : length s ≤ 134217728
  pub few : length t ≤ 134217728
  pub narrow : is_narrow s ≡ true
  pub anchored : a < length s
  pub unanchored : u < length s
  pub starts : all_below (length s) t ≡ true
  pub range : states_below (length s) s ≡ true
  pub ordered : states_ordered s ≡ true
  pub patterns : matches_below (length t) s ≡ true

pub passing : (s : List State) (a u : ℕ) (t : List ℕ) → states_error s a u t ≡ None → IsPassed s a u t
passing s a u t none =
    let n = length s in
    let tests =
    all_passed (is_small s t) (is_narrow s) (starts_below n a u t) (states_below n s) (states_ordered s)
    (matches_below (length t) s)
    (sym (refusal_is s a u t) ∙ none) in
    let sizes = and_parts (leb n 134217728) (leb (length t) 134217728) tests.0 in
    let starts = and_parts (ltb a n && ltb u n) (all_below n t) tests.2 in
    let two = and_parts (ltb a n) (ltb u n) starts.0 in
    record {
      small = leb-true n 134217728 sizes.0;
      few = leb-true (length t) 134217728 sizes.1;
      narrow = tests.1;
      anchored = ltb-true a n two.0;
      unanchored = ltb-true u n two.1;
      starts = starts.1;
      range = tests.3;
      ordered = tests.4;
      patterns = tests.5;
    }
