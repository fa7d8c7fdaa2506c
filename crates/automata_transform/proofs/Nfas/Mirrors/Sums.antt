-- Sums over numbers without repeats.
use Rattle.std.proofs.Common.{ℕ, zero, suc, ◌≡◌, ◌<◌, ◌≤◌, ◌+◌, ◌⊎◌, List, [], ◌∷◌, ◌++◌, length, get_or, take, inl}
use Rattle.std.proofs.Common.{inr, refl, ap, subst, arith, append_assoc, append-nil}
use Rattle.std.specs.Prelude.{sum_by}
use Rattle.std.proofs.lemmas.List.{take_all}
use Rattle.std.proofs.lemmas.List.Sums.{sum_by_more, sum_by-cons}
use Rattle.automata_base.specs.Lists.{In, Distinct}
use Rattle.automata_base.proofs.Powersets.Distinct.{unvisited, unvisited_push, among}
use Rattle.automata_base.proofs.Paths.Walks.{in_either}

sum_rest :
    (f : ℕ → ℕ) (n : ℕ) (ids seen : List ℕ) → Distinct ids → ((q : ℕ) → In q ids → q < n)
    → ((q : ℕ) → In q ids → In q seen → ⊥)
    → sum_by f ids + unvisited f (seen ++ ids) n ≡ unvisited f seen n
sum_rest f n [] seen d b a =
    let e : unvisited f (seen ++ []) n ≡ unvisited f seen n = ap (λ z. unvisited f z n) (append-nil seen) in
    omega (arith, e)
sum_rest f n (q ∷ ids) seen d b a =
    let one : sum_by f (q ∷ ids) ≡ f q + sum_by f ids = sum_by-cons f q ids in
    let took : unvisited f (seen ++ q ∷ []) n + f q ≡ unvisited f seen n =
    unvisited_push f seen q n (b q (inl refl)) (a q (inl refl)) in
    let rest : sum_by f ids + unvisited f ((seen ++ q ∷ []) ++ ids) n ≡ unvisited f (seen ++ q ∷ []) n =
    sum_rest f n ids (seen ++ q ∷ []) d.1 (λ r i. b r (inr i)) apart in
    let same : unvisited f ((seen ++ q ∷ []) ++ ids) n ≡ unvisited f (seen ++ q ∷ ids) n =
    ap (λ z. unvisited f z n) (append_assoc seen (q ∷ []) ids) in
    omega (arith, one, took, rest, same)
  where
    apart : (r : ℕ) → In r ids → In r (seen ++ q ∷ []) → ⊥
    apart r i j = split (in_either r seen (q ∷ []) j)
      where
        split : In r seen ⊎ In r (q ∷ []) → ⊥
        split (inl k) = a r (inr i) k
        split (inr (inl e)) = d.0 (subst (λ z. In z ids) e i)
        split (inr (inr k)) = k

unvisited_all :
    {A : Type 0} → (f : A → ℕ) (d : A) (xs : List A) (n : ℕ) → n ≤ length xs
    → unvisited (λ q. f (get_or xs q d)) [] n ≡ sum_by f (take n xs)
unfolding unvisited among
unvisited_all f d xs zero l = refl
unvisited_all f d xs (suc n) l =
    let rest : unvisited (λ q. f (get_or xs q d)) [] n ≡ sum_by f (take n xs) =
    unvisited_all f d xs n (omega (arith, l)) in
    let more : sum_by f (take (n + 1) xs) ≡ sum_by f (take n xs) + f (get_or xs n d) =
    sum_by_more f xs n d (omega (arith, l)) in
    let one : n + 1 ≡ suc n = omega arith in
    let more' : sum_by f (take (suc n) xs) ≡ sum_by f (take n xs) + f (get_or xs n d) =
    subst (λ z. sum_by f (take z xs) ≡ sum_by f (take n xs) + f (get_or xs n d)) one more in
    omega (arith, rest, more')

-- The sum over some of the elements is at most the sum over all.
pub sum_some :
    {A : Type 0} → (f : A → ℕ) (d : A) (xs : List A) (ids : List ℕ) → Distinct ids
    → ((q : ℕ) → In q ids → q < length xs)
    → sum_by (λ q. f (get_or xs q d)) ids ≤ sum_by f xs
sum_some f d xs ids e b =
    let part : sum_by (λ q. f (get_or xs q d)) ids + unvisited (λ q. f (get_or xs q d)) ([] ++ ids) (length xs)
    ≡ unvisited (λ q. f (get_or xs q d)) [] (length xs) =
    sum_rest (λ q. f (get_or xs q d)) (length xs) ids [] e b (λ q i j. j) in
    let all : unvisited (λ q. f (get_or xs q d)) [] (length xs) ≡ sum_by f (take (length xs) xs) =
    unvisited_all f d xs (length xs) (omega arith) in
    let whole : sum_by f (take (length xs) xs) ≡ sum_by f xs = ap (sum_by f) (take_all (length xs) xs (omega arith)) in
    omega (arith, part, all, whole)
