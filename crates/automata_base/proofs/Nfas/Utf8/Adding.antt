-- The members of a set after pairs were added.
use Rattle.std.proofs.Common.{ℕ, zero, suc, ◌≡◌, ◌<◌, ◌+◌, true, cond, List, [], ◌∷◌, ◌++◌, length, get_or, drop, ltb}
use Rattle.std.proofs.Common.{refl, sym, ap, ◌∙◌, arith, append-nil}
use Rattle.std.proofs.lemmas.Bool.{ltb-true}
use Rattle.std.proofs.lemmas.List.{at_drop_more}
use Rattle.automata_base.specs.declared.nfa.thompson.state.Transition.{Transition}
use Rattle.automata_base.specs.declared.nfa.thompson.utf8.Class.{Class}
use Rattle.automata_base.specs.Retraced.Computed.{is_in}
use Rattle.automata_base.specs.Retraced.Decoders.{pairs_in, range_pairs, ranges_pairs, classes_below}
use Rattle.automata_base.specs.Lists.{all_below}
use Rattle.automata_base.specs.Nfas.Nfa.{Range}
use Rattle.automata_base.specs.Nfas.Nodes.{range_of, ranges_of, dense_from}
use Rattle.automata_base.specs.Retraced.Once.{once_from}
use Rattle.std.proofs.lemmas.Bool.{and_parts}

pub once_append : (ys xs zs : List ℕ) → once_from ys (xs ++ zs) ≡ once_from (once_from ys xs) zs
once_append ys [] zs = refl
once_append ys (x ∷ xs) zs = once_append (ys ++ cond (is_in x ys) [] (x ∷ [])) xs zs

item_drop :
    {A : Type 0} (xs : List A) (i : ℕ) (x : A) → i < length xs → x ≡ get_or xs i x → drop i xs ≡ x ∷ drop (i + 1) xs
item_drop xs i x l e = at_drop_more (λ z. z) xs i x l ∙ ap (λ z. z ∷ drop (i + 1) xs) (sym e)

-- One step of a loop that adds elements.
added_next :
    (ys new some rest whole w : List ℕ) → whole ≡ some ++ rest → new ≡ once_from ys some → once_from ys whole ≡ w
    → once_from new rest ≡ w
added_next ys new some rest whole w e s h =
    ap (λ z. once_from z rest) s ∙ (sym (once_append ys some rest) ∙ (sym (ap (once_from ys) e) ∙ h))

pub class_next :
    (cs : List Class) (s : ℕ) (r : Range) (ys new w : List ℕ) (i : ℕ) (d : Class)
    → i < length cs → new ≡ once_from ys (pairs_in s r (get_or cs i d))
    → once_from ys (range_pairs (drop i cs) s r) ≡ w → once_from new (range_pairs (drop (i + 1) cs) s r) ≡ w
class_next cs s r ys new w i d l =
    added_next ys new (pairs_in s r (get_or cs i d)) (range_pairs (drop (i + 1) cs) s r) (range_pairs (drop i cs) s r) w
    (ap (λ z. range_pairs z s r) (at_drop_more (λ z. z) cs i d l))

pub range_next :
    (cs : List Class) (s : ℕ) (ts : List Transition) (ys new w : List ℕ) (i : ℕ) (t : Transition)
    → i < length ts → t ≡ get_or ts i t → new ≡ once_from ys (range_pairs cs s (range_of t))
    → once_from ys (ranges_pairs cs s (ranges_of (drop i ts))) ≡ w
    → once_from new (ranges_pairs cs s (ranges_of (drop (i + 1) ts))) ≡ w
range_next cs s ts ys new w i t l e =
    added_next ys new (range_pairs cs s (range_of t)) (ranges_pairs cs s (ranges_of (drop (i + 1) ts)))
    (ranges_pairs cs s (ranges_of (drop i ts))) w
    (ap (λ z. ranges_pairs cs s (ranges_of z)) (item_drop ts i t l e))

dense_first :
    (cs : List Class) (s byte x : ℕ) (rest : List ℕ)
    → ranges_pairs cs s (dense_from byte (x ∷ rest)) ≡ ranges_pairs cs s (dense_from byte (x ∷ []))
    ++ ranges_pairs cs s (dense_from (byte + 1) rest)
dense_first cs s byte zero rest =
    let e : suc byte ≡ byte + 1 = omega arith in ap (λ z. ranges_pairs cs s (dense_from z rest)) e
dense_first cs s byte (suc k) rest =
    let e : suc byte ≡ byte + 1 = omega arith in
    let first : List ℕ = range_pairs cs s (record { lo = byte; hi = byte; next = suc k }) in
    ap (λ z. first ++ ranges_pairs cs s (dense_from z rest)) e
    ∙ ap (λ z. z ++ ranges_pairs cs s (dense_from (byte + 1) rest)) (sym (append-nil first))

pub target_next :
    (cs : List Class) (s : ℕ) (xs ys new w : List ℕ) (i x : ℕ)
    → i < length xs → x ≡ get_or xs i x → new ≡ once_from ys (ranges_pairs cs s (dense_from i (x ∷ [])))
    → once_from ys (ranges_pairs cs s (dense_from i (drop i xs))) ≡ w
    → once_from new (ranges_pairs cs s (dense_from (i + 1) (drop (i + 1) xs))) ≡ w
target_next cs s xs ys new w i x l e =
    added_next ys new (ranges_pairs cs s (dense_from i (x ∷ [])))
    (ranges_pairs cs s (dense_from (i + 1) (drop (i + 1) xs)))
    (ranges_pairs cs s (dense_from i (drop i xs))) w
    (ap (λ z. ranges_pairs cs s (dense_from i z)) (item_drop xs i x l e) ∙ dense_first cs s i x (drop (i + 1) xs))

-- The pairs of a target, by whether it is 0.
pub no_target : (cs : List Class) (s byte x : ℕ) → x ≡ 0 → ranges_pairs cs s (dense_from byte (x ∷ [])) ≡ []
no_target cs s byte x e = ap (λ z. ranges_pairs cs s (dense_from byte (z ∷ []))) e

pub one_target :
    (cs : List Class) (s byte x : ℕ) → (x ≡ 0 → ⊥)
    → ranges_pairs cs s (dense_from byte (x ∷ [])) ≡ range_pairs cs s (record { lo = byte; hi = byte; next = x })
one_target cs s byte zero f = absurd (f refl)
one_target cs s byte (suc k) f = append-nil (range_pairs cs s (record { lo = byte; hi = byte; next = suc k }))

pub class_below :
    (cs : List Class) (i : ℕ) (d : Class) → classes_below cs ≡ true → i < length cs
    → all_below 11 (get_or cs i d).to ≡ true
class_below [] i d h l = absurd (omega (arith, l))
class_below (x ∷ xs) zero d h l = (and_parts (all_below 11 x.to) (classes_below xs) h).0
class_below (x ∷ xs) (suc i) d h l =
    class_below xs i d (and_parts (all_below 11 x.to) (classes_below xs) h).1 (omega (arith, l))

pub entry_below : (n : ℕ) (xs : List ℕ) (i : ℕ) → 0 < n → all_below n xs ≡ true → get_or xs i 0 < n
entry_below n [] i z h = z
entry_below n (x ∷ xs) zero z h = ltb-true x n (and_parts (ltb x n) (all_below n xs) h).0
entry_below n (x ∷ xs) (suc i) z h = entry_below n xs i z (and_parts (ltb x n) (all_below n xs) h).1
