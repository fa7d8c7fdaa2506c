-- The patterns that a walk puts into a set.
use Rattle.std.proofs.Common.{ℕ, zero, suc, ◌≡◌, ◌<◌, ◌≤◌, ◌+◌, ◌-◌, ◌*◌, ◌⊎◌, ◌↔◌, inl, inr, Bool, true, false, List}
use Rattle.std.proofs.Common.{[], ◌∷◌, length, take, set, Option, Some, None, refl, sym, ap, ◌∙◌, subst, arith}
use Rattle.std.proofs.Common.{length-set}
use Rattle.std.proofs.lemmas.Bool.{cases_eq}
use Rattle.std.proofs.lemmas.List.{get_or-set_other, get_or-set_same}
use Rattle.automata_hybrid.proofs.Words.{cost, Forward, HalfMatch, HasPattern, In, Input, IsInput, Known, Machine}
use Rattle.automata_hybrid.proofs.Words.{match_kind_of, members, nfa_of, Pair, Powerset, tape_in}
use Rattle.automata_base.specs.Answers.Answers.{ArePatterns, ArePatternsFound, IsInSet}
use Rattle.automata_base.specs.Answers.Answers.{IsGivenPattern, IsReportedPattern, first_alone}
use Rattle.automata_base.specs.Paths.Paths.{KeepsCycles}
use Rattle.automata_base.specs.Haystacks.PatternSet.{has, members_from}
use Rattle.automata_determinize.specs.Laws.Walks.{WalkIsRight}
use Rattle.automata_base.proofs.ByteClasses.PatternsInSets.{members-few}
use Rattle.automata_hybrid.specs.Known.Walks.{HaveCalled, NoCall}
use Rattle.automata_hybrid.specs.Walks.Cached.{IsOpen, LacksOne, NoPair}
use Rattle.automata_hybrid.specs.Machines.Machine.{engine}
use Rattle.automata_hybrid.specs.Walks.Progress.{IsJoined, IsJoinedAfter}
use Rattle.automata_hybrid.specs.Walks.Answers.{AreWalked, HasReported, HasReportedAt, ReportsNext, half_nth}
use Rattle.automata_hybrid.specs.Private.Walks.Answers.{CallGoesOn, FindsNone, ReadsMore, ReportsOneMore}
use Rattle.automata_hybrid.specs.Walks.State.{At, Ended, Fresh, Stage, Walk, fresh_walk}
use Rattle.automata_hybrid.proofs.Searches.PassState.{false_true}
use Rattle.automata_hybrid.proofs.Walks.Reports.{reported_rises}
use Rattle.automata_hybrid.proofs.Searches.Directions.{units_in}
use Rattle.std.proofs.Math.Nat.{mul-le-mul_right}
use Rattle.automata_hybrid.proofs.Machines.Powersets.{walked_reported}

-- the members of a set, by their flags
has_in : (xs : List Bool) (j i : ℕ) → has xs i ≡ true → In (j + i) (members_from j xs)
has_in [] j i e = absurd (false_true e)
has_in (true ∷ xs) j zero e = inl (omega arith)
has_in (false ∷ xs) j zero e = absurd (false_true e)
has_in (true ∷ xs) j (suc i) e =
    let s : suc j + i ≡ j + suc i = omega arith in
    inr (subst (λ n. In n (members_from (suc j) xs)) s (has_in xs (suc j) i e))
has_in (false ∷ xs) j (suc i) e =
    let s : suc j + i ≡ j + suc i = omega arith in
    subst (λ n. In n (members_from (suc j) xs)) s (has_in xs (suc j) i e)

pub record HasAt (xs : List Bool) (j p : ℕ) : Type 0 where
  pub index : ℕ
  pub place : p ≡ j + index
  pub flag : has xs index ≡ true

has_later : (x : Bool) (xs : List Bool) (j p : ℕ) → HasAt xs (suc j) p → HasAt (x ∷ xs) j p
has_later x xs j p h = record { index = suc h.index; place = omega (arith, h.place); flag = h.flag }

in_has : (xs : List Bool) (j p : ℕ) → In p (members_from j xs) → HasAt xs j p
in_has [] j p i = absurd i
in_has (true ∷ xs) j p (inl e) = record { index = 0; place = omega (arith, e); flag = refl }
in_has (true ∷ xs) j p (inr i) = has_later true xs j p (in_has xs (suc j) p i)
in_has (false ∷ xs) j p i = has_later false xs j p (in_has xs (suc j) p i)

flag_in : (xs : List Bool) (p : ℕ) → has xs p ≡ true → In p (members xs)
flag_in xs p e = let z : 0 + p ≡ p = omega arith in subst (λ n. In n (members xs)) z (has_in xs 0 p e)

in_flag : (xs : List Bool) (p : ℕ) → In p (members xs) → has xs p ≡ true
in_flag xs p i =
    let h : HasAt xs 0 p = in_has xs 0 p i in
    let z : h.index ≡ p = omega (arith, h.place) in
    subst (λ n. has xs n ≡ true) z h.flag

-- a full set has each pattern below its capacity
full_at : (xs : List Bool) (j p : ℕ) → length (members_from j xs) ≡ length xs → p < length xs → has xs p ≡ true
full_at [] j p e l = absurd (omega (arith, l))
full_at (true ∷ xs) j zero e l = refl
full_at (true ∷ xs) j (suc p) e l = full_at xs (suc j) p (omega (arith, e)) (omega (arith, l))
full_at (false ∷ xs) j p e l = let few = members-few xs (suc j) in absurd (omega (arith, e, few))

-- one more pattern
insert_in :
    (xs : List Bool) (i p : ℕ) → In p (members (set xs i true)) ↔ (In p (members xs) ⊎ ((p < length xs) × (p ≡ i)))
insert_in xs i p = (λ h. there (in_flag (set xs i true) p h) (cases_eq p i), λ h. back h (cases_eq p i))
  where
    inside : (ys : List Bool) (n : ℕ) → has ys n ≡ true → n < length ys
    inside [] n e = absurd (false_true e)
    inside (y ∷ ys) zero e = omega arith
    inside (y ∷ ys) (suc n) e = let l = inside ys n e in omega (arith, l)

    there : has (set xs i true) p ≡ true → (p ≡ i) ⊎ (p ≡ i → ⊥) → In p (members xs) ⊎ ((p < length xs) × (p ≡ i))
    there e (inl same) = let l = inside (set xs i true) p e in inr (omega (arith, l, length-set xs i true), same)
    there e (inr other) = inl (flag_in xs p (sym (get_or-set_other xs i p true false other) ∙ e))

    back : In p (members xs) ⊎ ((p < length xs) × (p ≡ i)) → (p ≡ i) ⊎ (p ≡ i → ⊥) → In p (members (set xs i true))
    back (inl h) (inl same) =
        let l : p < length xs = inside xs p (in_flag xs p h) in
        flag_in (set xs i true) p
        (ap (λ n. has (set xs i true) n) same ∙ get_or-set_same xs i true false (omega (arith, l, same)))
    back (inl h) (inr other) = flag_in (set xs i true) p (get_or-set_other xs i p true false other ∙ in_flag xs p h)
    back (inr (l, e)) c =
        flag_in (set xs i true) p
        (ap (λ n. has (set xs i true) n) e ∙ get_or-set_same xs i true false (omega (arith, l, e)))

-- the patterns of one more pair
more_pattern :
    (pairs : List Pair) (k p : ℕ) (half : HalfMatch)
    → half_nth pairs k ≡ Some half
    → HasPattern p (take (suc k) pairs) ↔ (HasPattern p (take k pairs) ⊎ (p ≡ half.pattern))
more_pattern [] k p half e = absurd (cc)
more_pattern (x ∷ xs) zero p half e =
    let same : x.pattern ≡ half.pattern = cc in
    (λ h. first h same, λ h. last h same)
  where
    first : (p ≡ x.pattern) ⊎ HasPattern p (take 0 xs) → x.pattern ≡ half.pattern → ⊥ ⊎ (p ≡ half.pattern)
    first (inl f) same = inr (f ∙ same)
    first (inr h) same = absurd h

    last : ⊥ ⊎ (p ≡ half.pattern) → x.pattern ≡ half.pattern → (p ≡ x.pattern) ⊎ HasPattern p (take 0 xs)
    last (inl h) same = absurd h
    last (inr f) same = inl (f ∙ sym same)
more_pattern (x ∷ xs) (suc k) p half e =
    (λ h. first h (more_pattern xs k p half e), λ h. last h (more_pattern xs k p half e))
  where
    first :
        (p ≡ x.pattern) ⊎ HasPattern p (take (suc k) xs)
        → HasPattern p (take (suc k) xs) ↔ (HasPattern p (take k xs) ⊎ (p ≡ half.pattern))
        → ((p ≡ x.pattern) ⊎ HasPattern p (take k xs)) ⊎ (p ≡ half.pattern)
    first (inl f) again = inl (inl f)
    first (inr h) again = go (again.0 h) where
      go :
          HasPattern p (take k xs) ⊎ (p ≡ half.pattern) → ((p ≡ x.pattern) ⊎ HasPattern p (take k xs))
          ⊎ (p ≡ half.pattern)
      go (inl g) = inl (inr g)
      go (inr g) = inr g

    last :
        ((p ≡ x.pattern) ⊎ HasPattern p (take k xs)) ⊎ (p ≡ half.pattern)
        → HasPattern p (take (suc k) xs) ↔ (HasPattern p (take k xs) ⊎ (p ≡ half.pattern))
        → (p ≡ x.pattern) ⊎ HasPattern p (take (suc k) xs)
    last (inl (inl f)) again = inl f
    last (inl (inr h)) again = inr (again.1 (inl h))
    last (inr f) again = inr (again.1 (inr f))

taken_pattern : (pairs : List Pair) (k p : ℕ) → HasPattern p (take k pairs) → HasPattern p pairs
taken_pattern pairs zero p h = absurd h
taken_pattern [] (suc k) p h = absurd h
taken_pattern (x ∷ xs) (suc k) p (inl e) = inl e
taken_pattern (x ∷ xs) (suc k) p (inr h) = inr (taken_pattern xs k p h)

take_all : (pairs : List Pair) (k : ℕ) → half_nth pairs k ≡ None → take k pairs ≡ pairs
take_all [] zero e = refl
take_all [] (suc k) e = refl
take_all (x ∷ xs) zero e = absurd (cc)
take_all (x ∷ xs) (suc k) e = ap (λ (zs : List Pair). x ∷ zs) (take_all xs k e)

all_of : (pairs : List Pair) → first_alone false pairs ≡ pairs
all_of [] = refl
all_of (x ∷ xs) = refl

one_of : (pairs : List Pair) → first_alone true pairs ≡ take 1 pairs
one_of [] = refl
one_of (x ∷ xs) = refl

-- a set lacks some pattern below its capacity
pub record IsLacking (xs : List Bool) : Type 0 where
  pub pattern : ℕ
  pub below : pattern < length xs
  pub absent : has xs pattern ≡ false

pub lacking : (xs : List Bool) (j : ℕ) → (length (members_from j xs) ≡ length xs → ⊥) → IsLacking xs
lacking [] j full = absurd (full refl)
lacking (false ∷ xs) j full = record { pattern = 0; below = omega arith; absent = refl }
lacking (true ∷ xs) j full =
    let rest : IsLacking xs = lacking xs (suc j) (λ e. full (ap suc e)) in
    record { pattern = suc rest.pattern; below = omega (arith, rest.below); absent = rest.absent }

-- a set with the patterns of the pairs that its walk has reported; an earliest search continues only if there are none
pub record Joins (m : Machine) (input : Input) (walk : Walk) (old new : List Bool) : Type 0 where
  pub k : ℕ
  pub reported : HasReported Forward m input walk k
  pub first : input.earliest ≡ true → k ≡ 0
  pub joined : IsJoinedAfter m input old new k
  pub capacity : length new ≡ length old
  pub open_at : (k ≡ 0) ⊎ IsLacking new

joined_none : (xs : List Bool) → IsJoined [] xs xs
joined_none xs p = (λ h. IsGivenPattern h, λ h. go h) where
  go : IsInSet (length xs) (members xs) [] p → In p (members xs)
  go (IsGivenPattern h) = h
  go (IsReportedPattern l h) = absurd h

module _ (m : Machine) (input : Input) (old : List Bool) where
  module _ (walk next : Walk) (new : List Bool) (j : Joins m input walk old new)
      (reports : ReportsNext Forward m input walk next)
      (list : (pairs : List Pair) × AreWalked Forward m input pairs) where
    abbrev pairs : List Pair
    pairs = list.0

    found : next.found ≡ half_nth pairs j.k
    found = ((reports j.k j.reported).1 pairs list.1).0

    one_more :
        (half : HalfMatch) (ps : List Pair) → half_nth ps j.k ≡ Some half → IsJoined (take j.k ps) old new
        → IsJoined (take (suc j.k) ps) old (set new half.pattern true)
    one_more half ps e before p = (λ h. there ((insert_in new half.pattern p).0 h), λ h. back h)
      where
        more : HasPattern p (take (suc j.k) ps) ↔ (HasPattern p (take j.k ps) ⊎ (p ≡ half.pattern))
        more = more_pattern ps j.k p half e

        there :
            In p (members new) ⊎ ((p < length new) × (p ≡ half.pattern)) → IsInSet (length old) (members old)
            (take (suc j.k) ps) p
        there (inl h) = go ((before p).0 h) where
          go : IsInSet (length old) (members old) (take j.k ps) p → IsInSet (length old) (members old)
              (take (suc j.k) ps) p
          go (IsGivenPattern g) = IsGivenPattern g
          go (IsReportedPattern l g) = IsReportedPattern l (more.1 (inl g))
        there (inr (l, e)) = IsReportedPattern (omega (arith, l, j.capacity)) (more.1 (inr e))

        back : IsInSet (length old) (members old) (take (suc j.k) ps) p → In p (members (set new half.pattern true))
        back (IsGivenPattern h) = (insert_in new half.pattern p).1 (inl ((before p).1 (IsGivenPattern h)))
        back (IsReportedPattern l h) = go (more.0 h) where
          go : HasPattern p (take j.k ps) ⊎ (p ≡ half.pattern) → In p (members (set new half.pattern true))
          go (inl g) = (insert_in new half.pattern p).1 (inl ((before p).1 (IsReportedPattern l g)))
          go (inr g) = (insert_in new half.pattern p).1 (inr (omega (arith, l, j.capacity), g))

    -- no match is left
    pub joins_all :
        next.found ≡ None → ArePatterns (AreWalked Forward m input) input (length old) (members old) (members new)
    joins_all e = record {
      pairs = pairs;
      reports = list.1;
      members = subst (λ (ps : List Pair). IsJoined ps old new) (go input.earliest refl) (j.joined pairs list.1);
    }
      where
        whole : take j.k pairs ≡ pairs
        whole = take_all pairs j.k (sym found ∙ e)

        go : (b : Bool) → input.earliest ≡ b → take j.k pairs ≡ first_alone b pairs
        go false s = whole ∙ sym (all_of pairs)
        go true s =
            let none : pairs ≡ [] = sym whole ∙ ap (λ n. take n pairs) (j.first s) in
            whole ∙ none ∙ ap (first_alone true) (sym none)

    -- a match is left, and its pattern is added
    module _ (half : HalfMatch) (is_found : next.found ≡ Some half) where
      here : half_nth pairs j.k ≡ Some half
      here = sym found ∙ is_found

      pub joined_more : IsJoined (take (suc j.k) pairs) old (set new half.pattern true)
      joined_more = one_more half pairs here (j.joined pairs list.1)

      -- a full set cannot gain a pattern
      pub joins_full :
          length (members (set new half.pattern true)) ≡ length (set new half.pattern true)
          → ArePatterns (AreWalked Forward m input) input (length old) (members old)
          (members (set new half.pattern true))
      joins_full full = record {
        pairs = pairs;
        reports = list.1;
        members = λ p. (λ h. there p ((joined_more p).0 h) input.earliest refl, λ h. back p h);
      }
        where
          there :
              (p : ℕ) → IsInSet (length old) (members old) (take (suc j.k) pairs) p
              → (b : Bool) → input.earliest ≡ b → IsInSet (length old) (members old) (first_alone b pairs) p
          there p (IsGivenPattern h) b s = IsGivenPattern h
          there p (IsReportedPattern l h) false s =
              IsReportedPattern l (subst (HasPattern p) (sym (all_of pairs)) (taken_pattern pairs (suc j.k) p h))
          there p (IsReportedPattern l h) true s =
              IsReportedPattern l
              (subst (HasPattern p) (sym (one_of pairs))
              (subst (λ n. HasPattern p (take (suc n) pairs)) (j.first s) h))

          back :
              (p : ℕ) → IsInSet (length old) (members old) (first_alone input.earliest pairs) p
              → In p (members (set new half.pattern true))
          back p (IsGivenPattern h) = (joined_more p).1 (IsGivenPattern h)
          back p (IsReportedPattern l h) =
              flag_in (set new half.pattern true) p
              (full_at (set new half.pattern true) 0 p full
              (omega (arith, l, j.capacity, length-set new half.pattern true)))

      -- an earliest search takes only the first pair
      pub joins_first :
          input.earliest ≡ true
          → ArePatterns (AreWalked Forward m input) input (length old) (members old)
          (members (set new half.pattern true))
      joins_first e =
          let one : take (suc j.k) pairs ≡ first_alone input.earliest pairs =
          ap (λ n. take (suc n) pairs) (j.first e) ∙ (sym (one_of pairs) ∙ ap (λ b. first_alone b pairs) (sym e)) in
          record {
            pairs = pairs;
            reports = list.1;
            members = subst (λ (ps : List Pair). IsJoined ps old (set new half.pattern true)) one joined_more;
          }

      -- any other search continues
      pub joins_more :
          input.earliest ≡ false → IsLacking (set new half.pattern true)
          → Joins m input next old (set new half.pattern true)
      joins_more e lacks =
          record {
            k = suc j.k;
            reported = (reports j.k j.reported).0;
            first = λ f. absurd (false_true (sym e ∙ f));
            joined =
                λ ps walked. one_more half ps (sym (((reports j.k j.reported).1 ps walked).0) ∙ is_found)
                (j.joined ps walked);
            capacity = length-set new half.pattern true ∙ j.capacity;
            open_at = inr lacks;
          }

      -- it continues with one more call
      pub calls_more :
          (e : input.earliest ≡ false) (lacks : IsLacking (set new half.pattern true)) (first last : Known)
          → HaveCalled m input old first (suc j.k) next last
          → HaveCalled m input old first (joins_more e lacks).k next last
      unfolding joins_more
      calls_more e lacks first last called = called

-- a walk that has not begun has made no call
pub joins_begin :
    (m : Machine) (input : Input) (walk : Walk) (set : List Bool) (c : Known) → walk ≡ fresh_walk
    → (j : Joins m input walk set set) × HaveCalled m input set c j.k walk c
joins_begin m input walk set c fresh = (
  record {
    k = 0;
    reported = subst (λ (w : Walk). HasReported Forward m input w 0) (sym fresh) (refl, refl);
    first = λ e. refl;
    joined = λ pairs walked. joined_none set;
    capacity = refl;
    open_at = inl refl;
  },
  NoCall walk c fresh refl,
)

-- an upper bound on the steps that a walk has left: for each unit as many as a state has patterns, and one more
abbrev pub steps_left : Machine → Input → Walk → ℕ
steps_left m input w = (input.end - input.start + 2 - w.units) * (m.greatest + 1) + (m.greatest - w.reported)

module _ (m : Machine) (input : Input) (inside : input.end ≤ length input.haystack) where
  -- a walk that has reported a match is in its span, and has reported at most as many patterns as a state can have
  pub record StandsWell (w : Walk) : Type 0 where
    pub units : w.units ≤ input.end - input.start + 1
    pub reported : w.reported ≤ m.greatest

  few_patterns : (q : Powerset) → cost q ≤ m.greatest → length q.patterns ≤ m.greatest
  few_patterns q l = omega (arith, l)

  pub stands_well : (w : Walk) (k : ℕ) → HasReported Forward m input w (suc k) → (w.stage ≡ Ended → ⊥) → StandsWell w
  stands_well w k t on = go w.stage refl t on where
    go :
        (s : Stage) → w.stage ≡ s → HasReportedAt Forward m input s w.units w.reported (suc k) → (s ≡ Ended → ⊥)
        → StandsWell w
    go Fresh e (none, first) on = absurd (omega (arith, none))
    go (At q) e s on =
        let all : input.end - input.start ≡ length (tape_in Forward input).bytes =
        units_in Forward input s.undone inside in
        record {
          units = omega (arith, s.one_after, s.within, all);
          reported = omega (arith, s.few, few_patterns q s.row.cheap);
        }
    go Ended e t on = absurd (on refl)

  pub steps_less :
      (old new : Walk) → StandsWell new
      → (old.units < new.units) ⊎ ((new.units ≡ old.units) × (new.reported ≡ suc old.reported))
      → steps_left m input new < steps_left m input old
  steps_less old new s (inl l) =
      let x : ℕ = input.end - input.start + 2 - new.units in
      let y : ℕ = input.end - input.start + 2 - old.units in
      let more : x + 1 ≤ y = omega (arith, l, s.units) in
      let times : (x + 1) * (m.greatest + 1) ≤ y * (m.greatest + 1) = mul-le-mul_right (m.greatest + 1) more in
      let one : (x + 1) * (m.greatest + 1) ≡ x * (m.greatest + 1) + (m.greatest + 1) = grind arith in
      omega (arith, times, one)
  steps_less old new s (inr (same, more)) =
      let units : input.end - input.start + 2 - new.units ≡ input.end - input.start + 2 - old.units =
      ap (λ n. input.end - input.start + 2 - n) same in
      let times : (input.end - input.start + 2 - new.units) * (m.greatest + 1)
      ≡ (input.end - input.start + 2 - old.units) * (m.greatest + 1) = ap (λ n. n * (m.greatest + 1)) units in
      omega (arith, times, more, s.reported)

-- what the walk reports is what the ordered paths report, if the NFA keeps its cycles
pub patterns_of :
    (m : Machine) (input : Input) → WalkIsRight m.nfa → IsInput input → (old new : List Bool)
    → KeepsCycles (nfa_of m.nfa)
    → ArePatterns (AreWalked Forward m input) input (length old) (members old) (members new)
    → ArePatternsFound (engine m) input (length old) (members old) (members new)
patterns_of m input law good old new kept h = record {
  pairs = h.pairs;
  reports = law Forward (match_kind_of m.config) input h.pairs kept good
      (walked_reported Forward m input h.pairs h.reports);
  members = h.members;
}

none_half : (half : HalfMatch) → ◌≡◌ {A = Option HalfMatch} None (Some half) → ⊥
none_half half e = cc

pub on_found :
    (old new : Walk) (half : HalfMatch)
    → CallGoesOn old new → new.found ≡ Some half
    → (new.stage ≡ Ended → ⊥)
    × ((old.units < new.units) ⊎ ((new.units ≡ old.units) × (new.reported ≡ suc old.reported)))
on_found old new half (FindsNone none) e = absurd (none_half half (sym none ∙ e))
on_found old new half (ReadsMore on more) e = (on, inl more)
on_found old new half (ReportsOneMore on same more) e = (on, inr (same, more))

-- two counts of the pairs that a walk has reported are equal
pub reported_one :
    (m : Machine) (input : Input) (w : Walk) (a b : ℕ)
    → (w.stage ≡ Ended → ⊥) → HasReported Forward m input w a → HasReported Forward m input w b → a ≡ b
reported_one m input w a b on t u = go w.stage on t u where
  go :
      (s : Stage) → (s ≡ Ended → ⊥) → HasReportedAt Forward m input s w.units w.reported a
      → HasReportedAt Forward m input s w.units w.reported b → a ≡ b
  go Fresh on (t, x) (u, y) = t ∙ sym u
  go (At q) on t u =
      let up : t.earlier ≤ u.earlier =
      reported_rises Forward m input t.place u.place t.earlier u.earlier (omega (arith, t.one_after, u.one_after))
      t.before u.before in
      let down : u.earlier ≤ t.earlier =
      reported_rises Forward m input u.place t.place u.earlier t.earlier (omega (arith, t.one_after, u.one_after))
      u.before t.before in
      omega (arith, up, down, t.count, u.count)
  go Ended on t u = absurd (on refl)

-- a walk that has reported a match has a span that is not done
pub reported_undone :
    (m : Machine) (input : Input) (w : Walk) (k : ℕ)
    → HasReported Forward m input w (suc k) → (w.stage ≡ Ended → ⊥) → input.start ≤ input.end
reported_undone m input w k t on = go w.stage t on where
  go :
      (s : Stage) → HasReportedAt Forward m input s w.units w.reported (suc k) → (s ≡ Ended → ⊥)
      → input.start ≤ input.end
  go Fresh (none, first) on = absurd (omega (arith, none))
  go (At q) s on = s.undone
  go Ended t on = absurd (on refl)

-- a set whose search continues is open after the pairs that its walk has reported
pub open_after :
    (m : Machine) (input : Input) (walk : Walk) (old new : List Bool) (j : Joins m input walk old new)
    (pairs : List Pair) → AreWalked Forward m input pairs → IsOpen input old (take j.k pairs)
open_after m input walk old new j pairs walked = go j.open_at input.earliest refl where
  none : j.k ≡ 0 → IsOpen input old (take j.k pairs)
  none z = NoPair (ap (λ n. take n pairs) z)

  go : (j.k ≡ 0) ⊎ IsLacking new → (b : Bool) → input.earliest ≡ b → IsOpen input old (take j.k pairs)
  go (inl z) b e = none z
  go (inr lacks) true e = none (j.first e)
  go (inr lacks) false e =
      let absent : In lacks.pattern (members new) → ⊥ =
      (λ i. false_true (sym lacks.absent ∙ in_flag new lacks.pattern i)) in
      let below : lacks.pattern < length old = omega (arith, lacks.below, j.capacity) in
      LacksOne e lacks.pattern below
      (λ i. absent ((j.joined pairs walked lacks.pattern).1 (IsGivenPattern i)))
      (λ h. absent ((j.joined pairs walked lacks.pattern).1 (IsReportedPattern below h)))

-- the search for a set does not continue if it is earliest or the set is full
pub closes :
    (input : Input) (old new : List Bool) (pairs : List Pair) (k : ℕ) (half : HalfMatch)
    → half_nth pairs k ≡ Some half → length new ≡ length old → IsJoined (take (suc k) pairs) old new
    → (input.earliest ≡ true) ⊎ (length (members new) ≡ length new) → IsOpen input old (take (suc k) pairs) → ⊥
closes input old new pairs k half found capacity joined stop is_open = go is_open stop where
  taken : (ps : List Pair) (n : ℕ) → half_nth ps n ≡ Some half → take (suc n) ps ≡ [] → ⊥
  taken [] n f e = absurd (cc)
  taken (x ∷ xs) n f e = absurd (cc)

  go : IsOpen input old (take (suc k) pairs) → (input.earliest ≡ true) ⊎ (length (members new) ≡ length new) → ⊥
  go (NoPair none) s = taken pairs k found none
  go (LacksOne e p below absent other) (inl early) = false_true (sym e ∙ early)
  go (LacksOne e p below absent other) (inr full) =
      among ((joined p).0 (flag_in new p (full_at new 0 p full (omega (arith, below, capacity))))) where
        among : IsInSet (length old) (members old) (take (suc k) pairs) p → ⊥
        among (IsGivenPattern i) = absent i
        among (IsReportedPattern b h) = other h
