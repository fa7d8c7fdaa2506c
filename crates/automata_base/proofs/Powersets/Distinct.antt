-- Lists without repeats.
use Rattle.std.proofs.Common.{◌≡◌, ◌≢◌, ◌<◌, ◌≤◌, ◌+◌, ◌⊎◌, ℕ, zero, suc, List, [], ◌∷◌, ◌++◌, length, get_or, refl}
use Rattle.std.proofs.Common.{sym, ap, ◌∙◌, subst, inl, inr, arith, Bool, true, false, cond, eqb}
use Rattle.std.specs.Prelude.{Contains, AllPairs, ◌==◌}
use Rattle.std.proofs.lemmas.Bool.{cases_eq, eq-eqb, ne_eqb, cases_Bool, both_ways, false_from_ne_true, cond_both}
use Rattle.automata_base.specs.Lists.{In, Distinct}
use Rattle.automata_base.proofs.Paths.Walks.{in_either}

abbrev pub Within : List ℕ → List ℕ → Type 0
Within xs ys = (z : ℕ) → In z xs → In z ys

unfoldable pub among : ℕ → List ℕ → Bool
among state [] = false
among state (first ∷ rest) = cond (state == first) true (among state rest)

pub within_later : (q r : ℕ) (A : List ℕ) → Within (q ∷ A) (q ∷ r ∷ A)
within_later q r A z (inl e) = inl e
within_later q r A z (inr h) = inr (inr h)

pub within_front : (q : ℕ) (V : List ℕ) → Within (q ∷ V) (V ++ q ∷ [])
within_front q [] z h = h
within_front q (v ∷ V) z (inl e) = inr (within_front q V z (inl e))
within_front q (v ∷ V) z (inr (inl e)) = inl e
within_front q (v ∷ V) z (inr (inr h)) = inr (within_front q V z (inr h))

pub within_back : (q : ℕ) (V : List ℕ) → Within (V ++ q ∷ []) (q ∷ V)
within_back q [] z h = h
within_back q (v ∷ V) z (inl e) = inr (inl e)
within_back q (v ∷ V) z (inr h) = within_later q v V z (within_back q V z h)

pub In-among : (x : ℕ) (xs : List ℕ) → among x xs ≡ true → In x xs
unfolding among
In-among x [] h = absurd (both_ways false refl h)
In-among x (y ∷ ys) h = go (cases_eq x y) (λ k. In-among x ys k)
  where
    go : (x ≡ y) ⊎ (x ≡ y → ⊥) → (among x ys ≡ true → In x ys) → In x (y ∷ ys)
    go (inl e) again = inl e
    go (inr ne) again = inr (again (sym (ap (λ b. cond b true (among x ys)) (ne_eqb x y ne)) ∙ h))

pub among-In : (x : ℕ) (xs : List ℕ) → In x xs → among x xs ≡ true
unfolding among
among-In x [] h = elim h [ ]
among-In x (y ∷ ys) (inl e) = ap (λ b. cond b true (among x ys)) (eq-eqb x y e)
among-In x (y ∷ ys) (inr h) = go (cases_Bool (eqb x y)) (among-In x ys h)
  where
    go : (eqb x y ≡ true) ⊎ (eqb x y ≡ false) → among x ys ≡ true → among x (y ∷ ys) ≡ true
    go (inl e) k = ap (λ b. cond b true (among x ys)) e
    go (inr e) k = ap (λ b. cond b true (among x ys)) e ∙ k

pub In-Contains : (x : ℕ) (xs : List ℕ) → Contains xs x → In x xs
In-Contains x [] (k, l, e) = absurd (omega arith)
In-Contains x (y ∷ ys) (zero, l, e) = inl (sym e)
In-Contains x (y ∷ ys) (suc k, l, e) = inr (In-Contains x ys (k, omega arith, e))

pub Contains-In : (x : ℕ) (xs : List ℕ) → In x xs → Contains xs x
Contains-In x [] h = elim h [ ]
Contains-In x (y ∷ ys) (inl e) = (0, omega arith, sym e)
Contains-In x (y ∷ ys) (inr h) = let (k, l, e) = Contains-In x ys h in (suc k, omega arith, e)

pub In-get_or : (xs : List ℕ) (k d : ℕ) → k < length xs → In (get_or xs k d) xs
In-get_or [] k d l = absurd (omega arith)
In-get_or (x ∷ xs) zero d l = inl refl
In-get_or (x ∷ xs) (suc k) d l = inr (In-get_or xs k d (omega arith))

pub pairs_distinct : (xs : List ℕ) → AllPairs (λ x y. x ≢ y) xs → Distinct xs
pairs_distinct [] h = tt
pairs_distinct (x ∷ xs) h = (new, pairs_distinct xs (λ i j d l m. h (suc i) (suc j) d (omega arith) (omega arith)))
  where
    new : In x xs → ⊥
    new i = let (k, l, e) = Contains-In x xs i in h 0 (suc k) x (omega arith) (omega arith) (sym e)

pub In-cases : (x : ℕ) (xs : List ℕ) → In x xs ⊎ (In x xs → ⊥)
In-cases x [] = inr (λ i. i)
In-cases x (y ∷ ys) = go (cases_eq x y) (In-cases x ys)
  where
    go : (x ≡ y) ⊎ (x ≡ y → ⊥) → In x ys ⊎ (In x ys → ⊥) → In x (y ∷ ys) ⊎ (In x (y ∷ ys) → ⊥)
    go (inl e) again = inl (inl e)
    go (inr ne) (inl i) = inl (inr i)
    go (inr ne) (inr ni) = inr neither
      where
        neither : In x (y ∷ ys) → ⊥
        neither (inl e) = ne e
        neither (inr i) = ni i

pub distinct_append : (V L : List ℕ) → Distinct V → Distinct L → ((x : ℕ) → In x V → In x L → ⊥) → Distinct (V ++ L)
distinct_append [] L d e apart = e
distinct_append (x ∷ V) L (new, d) e apart = (new', distinct_append V L d e (λ y i j. apart y (inr i) j))
  where
    split : In x V ⊎ In x L → ⊥
    split (inl i) = new i
    split (inr i) = apart x (inl refl) i

    new' : In x (V ++ L) → ⊥
    new' i = split (in_either x V L i)

unfoldable pub unvisited : (ℕ → ℕ) → List ℕ → ℕ → ℕ
unvisited w seen zero = 0
unvisited w seen (suc n) = cond (among n seen) 0 (w n) + unvisited w seen n

among_push_other : (q k : ℕ) (seen : List ℕ) → (k ≡ q → ⊥) → among k (seen ++ q ∷ []) ≡ among k seen
among_push_other q k seen ne = go (In-cases k seen)
  where
    only : In k (q ∷ []) → ⊥
    only (inl e) = ne e
    only (inr i) = i

    split : (In k seen → ⊥) → In k seen ⊎ In k (q ∷ []) → ⊥
    split ni (inl i) = ni i
    split ni (inr i) = only i

    go : In k seen ⊎ (In k seen → ⊥) → among k (seen ++ q ∷ []) ≡ among k seen
    go (inl i) = among-In k (seen ++ q ∷ []) (within_front q seen k (inr i)) ∙ sym (among-In k seen i)
    go (inr ni) =
        false_from_ne_true (among k (seen ++ q ∷ []))
        (λ h. split ni (in_either k seen (q ∷ []) (In-among k (seen ++ q ∷ []) h)))
        ∙ sym (false_from_ne_true (among k seen) (λ h. ni (In-among k seen h)))

unvisited_above : (w : ℕ → ℕ) (seen : List ℕ) (q n : ℕ) → n ≤ q → unvisited w (seen ++ q ∷ []) n ≡ unvisited w seen n
unfolding unvisited
unvisited_above w seen q zero l = refl
unvisited_above w seen q (suc n) l =
    let ne : n ≡ q → ⊥ = λ e. omega arith in
    let first : among n (seen ++ q ∷ []) ≡ among n seen = among_push_other q n seen ne in
    let rest : unvisited w (seen ++ q ∷ []) n ≡ unvisited w seen n = unvisited_above w seen q n (omega arith) in
    ap (λ b. cond b 0 (w n) + unvisited w (seen ++ q ∷ []) n) first ∙ ap (λ z. cond (among n seen) 0 (w n) + z) rest

pub unvisited_push :
    (w : ℕ → ℕ) (seen : List ℕ) (q n : ℕ) → q < n → (In q seen → ⊥)
    → unvisited w (seen ++ q ∷ []) n + w q ≡ unvisited w seen n
unfolding unvisited
unvisited_push w seen q zero l new = absurd (omega arith)
unvisited_push w seen q (suc n) l new = go (cases_eq n q) (λ m. unvisited_push w seen q n m new)
  where
    go :
        (n ≡ q) ⊎ (n ≡ q → ⊥) → (q < n → unvisited w (seen ++ q ∷ []) n + w q ≡ unvisited w seen n)
        → unvisited w (seen ++ q ∷ []) (suc n) + w q ≡ unvisited w seen (suc n)
    go (inl e) again =
        let now : among n (seen ++ q ∷ []) ≡ true = among-In n (seen ++ q ∷ []) (within_front q seen n (inl e)) in
        let before : among n seen ≡ false =
        false_from_ne_true (among n seen) (λ h. new (subst (λ z. In z seen) e (In-among n seen h))) in
        let one : cond (among n (seen ++ q ∷ [])) 0 (w n) ≡ 0 = ap (λ b. cond b 0 (w n)) now in
        let two : cond (among n seen) 0 (w n) ≡ w n = ap (λ b. cond b 0 (w n)) before in
        let rest : unvisited w (seen ++ q ∷ []) n ≡ unvisited w seen n = unvisited_above w seen q n (omega arith) in
        let same : w n ≡ w q = ap w e in
        omega arith
    go (inr ne) again =
        let first : cond (among n (seen ++ q ∷ [])) 0 (w n) ≡ cond (among n seen) 0 (w n) =
        ap (λ b. cond b 0 (w n)) (among_push_other q n seen ne) in
        let rest : unvisited w (seen ++ q ∷ []) n + w q ≡ unvisited w seen n = again (omega arith) in
        omega arith

unvisited_ones : (n : ℕ) → unvisited (λ k. 1) [] n ≡ n
unfolding unvisited among
unvisited_ones zero = refl
unvisited_ones (suc n) = let h : unvisited (λ k. 1) [] n ≡ n = unvisited_ones n in omega arith

counted :
    (n : ℕ) (seen xs : List ℕ) → Distinct xs → ((x : ℕ) → In x seen → In x xs → ⊥) → ((x : ℕ) → In x xs → x < n)
    → length xs ≤ unvisited (λ k. 1) seen n
counted n seen [] d apart below = omega arith
counted n seen (x ∷ xs) (new, d) apart below =
    let took : unvisited (λ k. 1) (seen ++ x ∷ []) n + 1 ≡ unvisited (λ k. 1) seen n =
    unvisited_push (λ k. 1) seen x n (below x (inl refl)) (λ i. apart x i (inl refl)) in
    let rest : length xs ≤ unvisited (λ k. 1) (seen ++ x ∷ []) n =
    counted n (seen ++ x ∷ []) xs d apart' (λ y i. below y (inr i)) in
    omega arith
  where
    split : (y : ℕ) → In y xs → In y (x ∷ seen) → ⊥
    split y j (inl e) = new (subst (λ z. In z xs) e j)
    split y j (inr i) = apart y i (inr j)

    apart' : (y : ℕ) → In y (seen ++ x ∷ []) → In y xs → ⊥
    apart' y i j = split y j (within_back x seen y i)

pub distinct_below : (n : ℕ) (xs : List ℕ) → Distinct xs → ((x : ℕ) → In x xs → x < n) → length xs ≤ n
distinct_below n xs d below =
    let most : length xs ≤ unvisited (λ k. 1) [] n = counted n [] xs d (λ x i j. i) below in
    let all : unvisited (λ k. 1) [] n ≡ n = unvisited_ones n in
    omega arith

pub unvisited_most : (w : ℕ → ℕ) (seen : List ℕ) (n : ℕ) → unvisited w seen n ≤ unvisited w [] n
unfolding unvisited among
unvisited_most w seen zero = omega arith
unvisited_most w seen (suc n) =
    let rest : unvisited w seen n ≤ unvisited w [] n = unvisited_most w seen n in
    let first : cond (among n seen) 0 (w n) ≤ w n =
    cond_both (among n seen) 0 (w n) (λ z. z ≤ w n) (λ e. omega arith) (λ e. omega arith) in
    omega arith
