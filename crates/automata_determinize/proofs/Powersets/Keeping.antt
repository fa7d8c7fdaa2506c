-- Steps of the loops that read lists of states.
use Rattle.std.proofs.Common.{ℕ, ◌≡◌, ◌<◌, ◌≤◌, ◌+◌, ◌||◌, Bool, true, false, cond, eqb, List, [], ◌∷◌, ◌++◌}
use Rattle.std.proofs.Common.{length, get_or, take, drop, Option, Some, None, refl, sym, ap, ◌∙◌, subst, arith}
use Rattle.std.proofs.Common.{append_assoc, append-nil, length-append}
use Rattle.std.proofs.lemmas.List.{take_more, drop_all, take_all}
use Rattle.automata_base.specs.Lists.{In, pick, cons_some, Distinct}
use Rattle.automata_base.specs.Nfas.Nfa.{Nfa, Node, Split, Assert, Read, Accept, node}
use Rattle.automata_base.specs.Nfas.Nfa.{accepts}
use Rattle.automata_base.specs.Nfas.Nfa.{accepts_at, takes, takes_at}
use Rattle.automata_base.specs.Retraced.Computed.{is_in}
use Rattle.automata_base.specs.Powersets.Cuts.{cut, cut_after, targets}
use Rattle.automata_base.proofs.Powersets.Distinct.{In-get_or, distinct_append, distinct_below}
use Rattle.automata_base.specs.Retraced.Once.{once_from}
use Rattle.automata_determinize.specs.Retraced.Computed.{once_past}
use Rattle.automata_base.specs.Powersets.Cuts.{IsOnce}
use Rattle.automata_determinize.proofs.Paths.Machines.{once_right}
use Rattle.automata_determinize.specs.Powersets.Results.{AreMatched}
use Rattle.automata_base.specs.Nfas.Nodes.{Automaton, nfa_of}
use Rattle.automata_base.proofs.Paths.Fuels.{is_in_false}
use Rattle.std.specs.Prelude.{All}
use Rattle.std.proofs.Common.{inl, inr, ◌⊎◌}
use Rattle.automata_base.proofs.Paths.Walks.{in_either}
use Rattle.automata_base.proofs.Powersets.Keeping.{next_drop, pick_next}

pub cut_next :
    (n : Nfa) (xs : List ℕ) (i x : ℕ) → i < length xs → x ≡ get_or xs i x → accepts n x ≡ None
    → cut n xs ≡ take i xs ++ cut n (drop i xs) → cut n xs ≡ take (i + 1) xs ++ cut n (drop (i + 1) xs)
cut_next n xs i x l e none h =
    h ∙ (ap (λ z. take i xs ++ cut n z) (next_drop xs i x l e)
    ∙ (ap (λ z. take i xs ++ cut_after z x (cut n (drop (i + 1) xs))) none
    ∙ (sym (append_assoc (take i xs) (x ∷ []) (cut n (drop (i + 1) xs)))
    ∙ ap (λ z. z ++ cut n (drop (i + 1) xs)) (sym (take_more xs i x l ∙ ap (λ z. take i xs ++ z ∷ []) (sym e))))))

pub cut_here :
    (n : Nfa) (xs : List ℕ) (i x p : ℕ) → i < length xs → x ≡ get_or xs i x → accepts n x ≡ Some p
    → cut n xs ≡ take i xs ++ cut n (drop i xs) → take (i + 1) xs ≡ cut n xs
cut_here n xs i x p l e some h =
    take_more xs i x l ∙ (ap (λ z. take i xs ++ z ∷ []) (sym e)
    ∙ sym (h ∙ (ap (λ z. take i xs ++ cut n z) (next_drop xs i x l e)
    ∙ ap (λ z. take i xs ++ cut_after z x (cut n (drop (i + 1) xs))) some)))

pub cut_done :
    (n : Nfa) (xs : List ℕ) (i : ℕ) → length xs ≤ i → cut n xs ≡ take i xs ++ cut n (drop i xs)
    → take (length xs) xs ≡ cut n xs
cut_done n xs i l h =
    take_all (length xs) xs (omega arith)
    ∙ sym (h ∙ (ap (λ z. take i xs ++ cut n z) (drop_all i xs l) ∙ (append-nil (take i xs) ∙ take_all i xs l)))

-- Before the first match state, the patterns that count are those of the remaining states; at it, only its pattern
-- counts.
pub cut_picks_next :
    (n : Nfa) (xs : List ℕ) (i x : ℕ) → i < length xs → x ≡ get_or xs i x → accepts n x ≡ None
    → pick (accepts n) (cut n xs) ≡ pick (accepts n) (cut n (drop i xs))
    → pick (accepts n) (cut n xs) ≡ pick (accepts n) (cut n (drop (i + 1) xs))
cut_picks_next n xs i x l e none h =
    h ∙ (ap (λ z. pick (accepts n) (cut n z)) (next_drop xs i x l e)
    ∙ (ap (λ z. pick (accepts n) (cut_after z x (cut n (drop (i + 1) xs)))) none
    ∙ ap (λ z. cons_some z (pick (accepts n) (cut n (drop (i + 1) xs)))) none))

pub cut_picks_here :
    (n : Nfa) (xs : List ℕ) (i x p : ℕ) → i < length xs → x ≡ get_or xs i x → accepts n x ≡ Some p
    → pick (accepts n) (cut n xs) ≡ pick (accepts n) (cut n (drop i xs)) → pick (accepts n) (cut n xs) ≡ p ∷ []
cut_picks_here n xs i x p l e some h =
    h ∙ (ap (λ z. pick (accepts n) (cut n z)) (next_drop xs i x l e)
    ∙ (ap (λ z. pick (accepts n) (cut_after z x (cut n (drop (i + 1) xs)))) some
    ∙ ap (λ z. cons_some z []) some))

pub cut_picks_done :
    (n : Nfa) (xs : List ℕ) (i : ℕ) → length xs ≤ i
    → pick (accepts n) (cut n xs) ≡ pick (accepts n) (cut n (drop i xs)) → pick (accepts n) (cut n xs) ≡ []
cut_picks_done n xs i l h = h ∙ ap (λ z. pick (accepts n) (cut n z)) (drop_all i xs l)

-- Before the first match state, the targets that count are those of the next state and of the remaining ones; at it,
-- none counts.
pub cut_targets_next :
    (n : Nfa) (xs : List ℕ) (u i x : ℕ) → i < length xs → x ≡ get_or xs i x → accepts n x ≡ None
    → targets n (Some u) (cut n (drop i xs)) ≡ cons_some (takes n x u) (targets n (Some u) (cut n (drop (i + 1) xs)))
cut_targets_next n xs u i x l e none =
    ap (λ z. targets n (Some u) (cut n z)) (next_drop xs i x l e)
    ∙ ap (λ z. targets n (Some u) (cut_after z x (cut n (drop (i + 1) xs)))) none

takes_none : (m : Node) (u p : ℕ) → accepts_at m ≡ Some p → takes_at m u ≡ None
takes_none (Split alternates) u p e = refl
takes_none (Assert look next) u p e = refl
takes_none (Read ranges) u p e = absurd cc
takes_none (Accept q) u p e = refl

pub cut_targets_here :
    (n : Nfa) (xs : List ℕ) (u i x p : ℕ) → i < length xs → x ≡ get_or xs i x → accepts n x ≡ Some p
    → targets n (Some u) (cut n (drop i xs)) ≡ []
cut_targets_here n xs u i x p l e some =
    ap (λ z. targets n (Some u) (cut n z)) (next_drop xs i x l e)
    ∙ (ap (λ z. targets n (Some u) (cut_after z x (cut n (drop (i + 1) xs)))) some
    ∙ ap (λ z. cons_some z []) (takes_none (node n x) u p some))

pub cut_targets_done :
    (n : Nfa) (xs : List ℕ) (u i : ℕ) → length xs ≤ i → targets n (Some u) (cut n (drop i xs)) ≡ []
cut_targets_done n xs u i l = ap (λ z. targets n (Some u) (cut n z)) (drop_all i xs l)

-- A list of one pattern, or of none, has no repeats.
pub matched_one : (a : Automaton) (list : List ℕ) (p : ℕ) → p < length a.start_pattern
    → pick (accepts (nfa_of a)) list ≡ p ∷ [] → AreMatched a list (p ∷ [])
matched_one a list p l e = record {
  once = subst (λ z. IsOnce z (p ∷ [])) (sym e) (once_right (p ∷ []));
  distinct = ((λ i. i), tt);
  few = omega arith;
}

pub matched_none : (a : Automaton) (list : List ℕ) → pick (accepts (nfa_of a)) list ≡ [] → AreMatched a list []
matched_none a list e = record {
  once = subst (λ z. IsOnce z []) (sym e) (once_right []);
  distinct = tt;
  few = omega arith;
}

pub in_next :
    (p : ℕ) (xs : List ℕ) (i x : ℕ) (w : Bool) → i < length xs → x ≡ get_or xs i x → eqb p x ≡ false
    → w ≡ is_in p (drop i xs) → w ≡ is_in p (drop (i + 1) xs)
in_next p xs i x w l e f h = h ∙ (ap (is_in p) (next_drop xs i x l e) ∙ ap (λ z. z || is_in p (drop (i + 1) xs)) f)

pub in_here :
    (p : ℕ) (xs : List ℕ) (i x : ℕ) (w : Bool) → i < length xs → x ≡ get_or xs i x → eqb p x ≡ true
    → w ≡ is_in p (drop i xs) → true ≡ w
in_here p xs i x w l e t h =
    sym (h ∙ (ap (is_in p) (next_drop xs i x l e) ∙ ap (λ z. z || is_in p (drop (i + 1) xs)) t))

is_in_push : (k x : ℕ) (S : List ℕ) → is_in k (S ++ (x ∷ [])) ≡ (eqb k x || is_in k S)
is_in_push k x [] = refl
is_in_push k x (y ∷ ys) = ap (λ v. eqb k y || v) (is_in_push k x ys) ∙ swap (eqb k y) (eqb k x) (is_in k ys)
  where
    swap : (a b c : Bool) → a || (b || c) ≡ b || (a || c)
    swap true true c = refl
    swap true false c = refl
    swap false b c = refl

once_same : (ys seen xs : List ℕ) → ((y : ℕ) → is_in y ys ≡ is_in y seen) → once_from ys xs ≡ ys ++ once_past seen xs
once_same ys seen [] h = sym (append-nil ys)
once_same ys seen (x ∷ xs) h =
    go (is_in x seen) refl (once_same ys seen xs h) (once_same (ys ++ x ∷ []) (x ∷ seen) xs more)
  where
    more : (y : ℕ) → is_in y (ys ++ x ∷ []) ≡ is_in y (x ∷ seen)
    more y = is_in_push y x ys ∙ ap (λ z. eqb y x || z) (h y)

    go :
        (t : Bool) → is_in x seen ≡ t → once_from ys xs ≡ ys ++ once_past seen xs
        → once_from (ys ++ x ∷ []) xs ≡ (ys ++ x ∷ []) ++ once_past (x ∷ seen) xs
        → once_from (ys ++ cond (is_in x ys) [] (x ∷ [])) xs ≡ ys
        ++ elim t [ true ↦ once_past seen xs | false ↦ x ∷ once_past (x ∷ seen) xs ]
    go true e a b =
        ap (λ z. once_from (ys ++ cond z [] (x ∷ [])) xs) (h x ∙ e) ∙ (ap (λ z. once_from z xs) (append-nil ys) ∙ a)
    go false e a b =
        ap (λ z. once_from (ys ++ cond z [] (x ∷ [])) xs) (h x ∙ e)
        ∙ (b ∙ append_assoc ys (x ∷ []) (once_past (x ∷ seen) xs))

pub once_done :
    (g : ℕ → Option ℕ) (xs ys : List ℕ) (i : ℕ) → length xs ≤ i
    → once_from ys (pick g (drop i xs)) ≡ once_from [] (pick g xs) → IsOnce (pick g xs) ys
once_done g xs ys i l h =
    subst (λ z. IsOnce (pick g xs) z)
    (sym (sym (ap (λ z. once_from ys (pick g z)) (drop_all i xs l)) ∙ (h ∙ once_same [] [] (pick g xs) (λ y. refl))))
    (once_right (pick g xs))

-- One more pattern, or none.
abbrev pub Patterns : (ℕ → Option ℕ) → List ℕ → ℕ → ℕ → List ℕ → Type 0
Patterns g xs i P ys =
    (once_from ys (pick g (drop i xs)) ≡ once_from [] (pick g xs)) × Distinct ys × ((p : ℕ) → In p ys → p < P)

pub pattern_next :
    (g : ℕ → Option ℕ) (xs : List ℕ) (i x P : ℕ) (o : Option ℕ) (ys more : List ℕ)
    → i < length xs → x ≡ get_or xs i x → g x ≡ o → ((p : ℕ) → o ≡ Some p → p < P)
    → ((p : ℕ) → o ≡ Some p → more ≡ ys ++ cond (is_in p ys) [] (p ∷ [])) → (o ≡ None → more ≡ ys)
    → Patterns g xs i P ys → Patterns g xs (i + 1) P more
pattern_next g xs i x P None ys more l e s below some none h =
    subst (λ z. Patterns g xs (i + 1) P z) (sym (none refl)) (
      sym (ap (once_from ys) (pick_next g xs i x l e ∙ ap (λ z. cons_some z (pick g (drop (i + 1) xs))) s))
          ∙ h.0,
      h.1,
      h.2,
    )
pattern_next g xs i x P (Some p) ys more l e s below some none h =
    subst (λ z. Patterns g xs (i + 1) P z) (sym (some p refl)) (
      sym (ap (once_from ys) (pick_next g xs i x l e ∙ ap (λ z. cons_some z (pick g (drop (i + 1) xs))) s))
          ∙ h.0,
      distinct (is_in p ys) refl,
      bound (is_in p ys),
    )
  where
    distinct : (b : Bool) → is_in p ys ≡ b → Distinct (ys ++ cond b [] (p ∷ []))
    distinct true e = subst Distinct (sym (append-nil ys)) h.1
    distinct false e = distinct_append ys (p ∷ []) h.1 ((λ i. i), tt) apart
      where
        apart : (y : ℕ) → In y ys → In y (p ∷ []) → ⊥
        apart y i (inl f) = is_in_false p ys e (subst (λ z. In z ys) f i)
        apart y i (inr j) = j

    bound : (b : Bool) (q : ℕ) → In q (ys ++ cond b [] (p ∷ [])) → q < P
    bound true q i = h.2 q (subst (λ z. In q z) (append-nil ys) i)
    bound false q i = split (in_either q ys (p ∷ []) i)
      where
        split : In q ys ⊎ In q (p ∷ []) → q < P
        split (inl j) = h.2 q j
        split (inr (inl f)) = subst (λ z. z < P) (sym f) (below p refl)
        split (inr (inr j)) = elim j [ ]

-- There is room for a new pattern.
pub pattern_room :
    (ys : List ℕ) (p P : ℕ) → Distinct ys → ((q : ℕ) → In q ys → q < P) → p < P → is_in p ys ≡ false → length ys < P
pattern_room ys p P d below l new =
    let most : length (ys ++ p ∷ []) ≤ P =
    distinct_below P (ys ++ p ∷ []) (distinct_append ys (p ∷ []) d ((λ i. i), tt) apart) small in
    let parts : length (ys ++ p ∷ []) ≡ length ys + 1 = length-append ys (p ∷ []) in
    omega arith
  where
    apart : (y : ℕ) → In y ys → In y (p ∷ []) → ⊥
    apart y i (inl f) = is_in_false p ys new (subst (λ z. In z ys) f i)
    apart y i (inr j) = j

    small : (q : ℕ) → In q (ys ++ p ∷ []) → q < P
    small q i = split (in_either q ys (p ∷ []) i)
      where
        split : In q ys ⊎ In q (p ∷ []) → q < P
        split (inl j) = below q j
        split (inr (inl f)) = subst (λ z. z < P) (sym f) l
        split (inr (inr j)) = elim j [ ]

pub all_in : (xs : List ℕ) (N : ℕ) → ((q : ℕ) → In q xs → q < N) → All (λ q. q < N) xs
all_in xs N b k d l = b (get_or xs k d) (In-get_or xs k d l)
