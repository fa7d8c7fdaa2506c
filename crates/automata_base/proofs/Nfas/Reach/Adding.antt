-- The members of a set after the states of a list were added.
use Rattle.std.proofs.Common.{ℕ, zero, suc, ◌≡◌, ◌<◌, ◌≤◌, ◌+◌, ◌⊎◌, Bool, true, false, cond, List, [], ◌∷◌, ◌++◌}
use Rattle.std.proofs.Common.{length, get_or, take, drop, inl, inr, refl, sym, ap, ◌∙◌, subst, arith, append_assoc}
use Rattle.std.proofs.Common.{append-nil}
use Rattle.std.specs.Prelude.{IsTrue, IsFalse, ltb}
use Rattle.std.proofs.lemmas.Bool.{ltb-true}
use Rattle.std.proofs.lemmas.List.{take-append-le}
use Rattle.automata_base.specs.declared.nfa.thompson.state.State.{State}
use Rattle.automata_base.specs.declared.nfa.thompson.state.Transition.{Transition}
use Rattle.automata_base.specs.Lists.{all_below, In}
use Rattle.automata_base.specs.Retraced.Computed.{is_in}
use Rattle.automata_base.specs.Nfas.Nodes.{dense_from}
use Rattle.automata_base.specs.Retraced.Once.{once_from}
use Rattle.automata_base.specs.Retraced.Reach.{nexts}
use Rattle.automata_base.specs.Nfas.Errors.{transitions_below, state_below, states_below}
use Rattle.automata_base.proofs.Powersets.Distinct.{In-get_or}
use Rattle.automata_base.proofs.Powersets.Keeping.{next_drop}
use Rattle.automata_base.proofs.Paths.Checked.{below_in}
use Rattle.automata_base.proofs.Paths.Fuels.{is_in_cases}
use Rattle.std.proofs.lemmas.Bool.{and_parts}
use Rattle.automata_base.proofs.Paths.Walks.{in_left}
use Rattle.automata_base.proofs.Paths.FirstVisits.{in_right}
use Rattle.automata_base.proofs.Paths.Walks.{in_either}

new_is : (id : ℕ) (old : List ℕ) → (In id old → ⊥) → is_in id old ≡ false
new_is id old new = go (is_in_cases id old)
  where
    go : ((is_in id old ≡ true) × In id old) ⊎ ((is_in id old ≡ false) × (In id old → ⊥)) → is_in id old ≡ false
    go (inl h) = absurd (new h.1)
    go (inr h) = h.0

had_is : (id : ℕ) (old : List ℕ) → In id old → is_in id old ≡ true
had_is id old had = go (is_in_cases id old)
  where
    go : ((is_in id old ≡ true) × In id old) ⊎ ((is_in id old ≡ false) × (In id old → ⊥)) → is_in id old ≡ true
    go (inl h) = h.0
    go (inr h) = absurd (h.1 had)

-- An insertion adds one state.
pub inserted :
    (old new : List ℕ) (id : ℕ) (b : Bool) → (IsTrue b → In id old → ⊥) → (IsTrue b → new ≡ old ++ id ∷ [])
    → (IsFalse b → In id old) → (IsFalse b → new ≡ old) → new ≡ once_from old (id ∷ [])
inserted old new id true fresh added had kept =
    added refl ∙ ap (λ z. old ++ cond z [] (id ∷ [])) (sym (new_is id old (fresh refl)))
inserted old new id false fresh added had kept =
    kept refl ∙ (sym (append-nil old) ∙ ap (λ z. old ++ cond z [] (id ∷ [])) (sym (had_is id old (had refl))))

-- Inserting a state that is not a member puts it last.
pub inserted_new :
    (old new : List ℕ) (id : ℕ) (b : Bool) → (In id old → ⊥) → (IsTrue b → new ≡ old ++ id ∷ [])
    → (IsFalse b → In id old)
    → new ≡ old ++ id ∷ []
inserted_new old new id true fresh added had = added refl
inserted_new old new id false fresh added had = absurd (fresh (had refl))

pub once_more : (ys xs : List ℕ) → (more : List ℕ) × (once_from ys xs ≡ ys ++ more)
once_more ys [] = ([], sym (append-nil ys))
once_more ys (x ∷ xs) =
    let one : List ℕ = cond (is_in x ys) [] (x ∷ []) in
    let w = once_more (ys ++ one) xs in
    (one ++ w.0, w.1 ∙ append_assoc ys one w.0)

pub once_keeps : (q : ℕ) (ys xs : List ℕ) → In q ys → In q (once_from ys xs)
once_keeps q ys xs i = let w = once_more ys xs in subst (λ z. In q z) (sym w.1) (in_left q ys w.0 i)

pub once_has : (q : ℕ) (ys xs : List ℕ) → In q xs → In q (once_from ys xs)
once_has q ys [] i = absurd i
once_has q ys (x ∷ xs) (inl e) = once_keeps q (ys ++ cond (is_in x ys) [] (x ∷ [])) xs (go (is_in_cases x ys))
  where
    go :
        ((is_in x ys ≡ true) × In x ys) ⊎ ((is_in x ys ≡ false) × (In x ys → ⊥))
        → In q (ys ++ cond (is_in x ys) [] (x ∷ []))
    go (inl h) = in_left q ys (cond (is_in x ys) [] (x ∷ [])) (subst (λ z. In z ys) (sym e) h.1)
    go (inr h) =
        in_right q ys (cond (is_in x ys) [] (x ∷ [])) (subst (λ b. In q (cond b [] (x ∷ []))) (sym h.0) (inl e))
once_has q ys (x ∷ xs) (inr i) = once_has q (ys ++ cond (is_in x ys) [] (x ∷ [])) xs i

pub once_only : (q : ℕ) (ys xs : List ℕ) → In q (once_from ys xs) → In q ys ⊎ In q xs
once_only q ys [] i = inl i
once_only q ys (x ∷ xs) i = go (once_only q (ys ++ cond (is_in x ys) [] (x ∷ [])) xs i)
  where
    split : In q ys ⊎ In q (x ∷ []) → In q ys ⊎ In q (x ∷ xs)
    split (inl j) = inl j
    split (inr (inl e)) = inr (inl e)
    split (inr (inr j)) = absurd j

    from : (b : Bool) → In q (ys ++ cond b [] (x ∷ [])) → In q ys ⊎ In q (x ∷ xs)
    from true j = inl (subst (λ z. In q z) (append-nil ys) j)
    from false j = split (in_either q ys (x ∷ []) j)

    go : In q (ys ++ cond (is_in x ys) [] (x ∷ [])) ⊎ In q xs → In q ys ⊎ In q (x ∷ xs)
    go (inl j) = from (is_in x ys) j
    go (inr j) = inr (inr j)

pub once_take : (n : ℕ) (ys xs : List ℕ) → n ≤ length ys → take n (once_from ys xs) ≡ take n ys
once_take n ys xs l = let w = once_more ys xs in ap (take n) w.1 ∙ take-append-le n ys w.0 l

nexts_alike : (j k : ℕ) (xs : List ℕ) → nexts (dense_from j xs) ≡ nexts (dense_from k xs)
nexts_alike j k [] = refl
nexts_alike j k (zero ∷ xs) = nexts_alike (suc j) (suc k) xs
nexts_alike j k (suc m ∷ xs) = ap (λ z. suc m ∷ z) (nexts_alike (suc j) (suc k) xs)

dense_first :
    (ys : List ℕ) (x : ℕ) (rest : List ℕ)
    → once_from ys (nexts (dense_from 0 (x ∷ rest)))
    ≡ once_from (once_from ys (nexts (dense_from 0 (x ∷ [])))) (nexts (dense_from 0 rest))
dense_first ys zero rest = ap (once_from ys) (nexts_alike 1 0 rest)
dense_first ys (suc m) rest = ap (once_from (ys ++ cond (is_in (suc m) ys) [] (suc m ∷ []))) (nexts_alike 1 0 rest)

pub dense_next :
    (ys xs new w : List ℕ) (i x : ℕ) → i < length xs → x ≡ get_or xs i x
    → new ≡ once_from ys (nexts (dense_from 0 (x ∷ [])))
    → once_from ys (nexts (dense_from 0 (drop i xs))) ≡ w → once_from new (nexts (dense_from 0 (drop (i + 1) xs))) ≡ w
dense_next ys xs new w i x l e s h =
    ap (λ z. once_from z (nexts (dense_from 0 (drop (i + 1) xs)))) s
    ∙ (sym (dense_first ys x (drop (i + 1) xs))
    ∙ (sym (ap (λ z. once_from ys (nexts (dense_from 0 z))) (next_drop xs i x l e)) ∙ h))

-- Each element of a list whose test passes is below the bound.
pub id_below : (n : ℕ) (xs : List ℕ) (i x : ℕ) → all_below n xs ≡ true → i < length xs → x ≡ get_or xs i x → x < n
id_below n xs i x h l e = below_in n xs x h (subst (λ z. In z xs) (sym e) (In-get_or xs i x l))

pub next_below :
    (n : ℕ) (xs : List Transition) (i : ℕ) (x : Transition) → transitions_below n xs ≡ true → i < length xs
    → x ≡ get_or xs i x → x.next < n
next_below n [] i x h l e = absurd (omega (arith, l))
next_below n (y ∷ ys) zero x h l e =
    subst (λ (z : Transition). z.next < n) (sym e)
    (ltb-true y.next n (and_parts (ltb y.next n) (transitions_below n ys) h).0)
next_below n (y ∷ ys) (suc i) x h l e =
    next_below n ys i x (and_parts (ltb y.next n) (transitions_below n ys) h).1 (omega (arith, l)) e

pub state_at_below :
    (n : ℕ) (xs : List State) (i : ℕ) (x : State) → states_below n xs ≡ true → i < length xs → x ≡ get_or xs i x
    → state_below n x ≡ true
state_at_below n [] i x h l e = absurd (omega (arith, l))
state_at_below n (y ∷ ys) zero x h l e =
    subst (λ z. state_below n z ≡ true) (sym e) (and_parts (state_below n y) (states_below n ys) h).0
state_at_below n (y ∷ ys) (suc i) x h l e =
    state_at_below n ys i x (and_parts (state_below n y) (states_below n ys) h).1 (omega (arith, l)) e
