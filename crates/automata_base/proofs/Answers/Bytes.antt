-- The bytes of a tape are those of its haystack.
use Rattle.std.proofs.Common.{ℕ, zero, suc, ◌≡◌, ◌<◌, ◌≤◌, ◌+◌, ◌-◌, List, [], ◌∷◌, ◌++◌, take, drop, reverse, length}
use Rattle.std.proofs.Common.{Option, Some, refl, sym, ap, ◌∙◌, arith, ⊎_elim, eq-or-lt_of_le}
use mathlib.Core.List.{reverse-cons}
use Rattle.std.specs.Prelude.{slice_get}
use Rattle.automata_base.specs.Paths.Paths.{prev, next, next_in}
use Rattle.automata_base.specs.Haystacks.Tapes.{byte_before, between, forward_tape, reverse_tape}

pub nth_drop : (s : ℕ) (h : List ℕ) (i : ℕ) → slice_get (drop s h) i ≡ slice_get h (s + i)
nth_drop zero h i = ap (λ v. slice_get h v) (omega arith)
nth_drop (suc s) [] i = refl
nth_drop (suc s) (x ∷ h) i = nth_drop s h i ∙ ap (λ v. slice_get (x ∷ h) v) e
  where
    e : suc (s + i) ≡ suc s + i
    e = omega arith

pub nth_take : (m : ℕ) (xs : List ℕ) (i : ℕ) → i < m → slice_get (take m xs) i ≡ slice_get xs i
nth_take zero xs i l = absurd (omega (arith, l))
nth_take (suc m) [] i l = refl
nth_take (suc m) (x ∷ xs) zero l = refl
nth_take (suc m) (x ∷ xs) (suc i) l = nth_take m xs i (omega (arith, l))

pub take_length : (m : ℕ) (xs : List ℕ) → m ≤ length xs → length (take m xs) ≡ m
take_length zero xs l = refl
take_length (suc m) [] l = absurd (omega (arith, l))
take_length (suc m) (x ∷ xs) l = ap suc (take_length m xs (omega (arith, l)))

pub drop_length : (s m : ℕ) (h : List ℕ) → s + m ≤ length h → m ≤ length (drop s h)
drop_length zero m h l = omega (arith, l)
drop_length (suc s) m [] l = omega (arith, l)
drop_length (suc s) m (x ∷ h) l = drop_length s m h (omega (arith, l))

pub between_length : (h : List ℕ) (s e : ℕ) → s ≤ e → e ≤ length h → length (between h s e) ≡ e - s
between_length h s e l k = take_length (e - s) (drop s h) (drop_length s (e - s) h (omega (arith, l, k)))

pub nth_between : (h : List ℕ) (s e i : ℕ) → s + i < e → slice_get (between h s e) i ≡ slice_get h (s + i)
nth_between h s e i l = nth_take (e - s) (drop s h) i (omega (arith, l)) ∙ nth_drop s h i

nth_left : (xs ys : List ℕ) (i : ℕ) → i < length xs → slice_get (xs ++ ys) i ≡ slice_get xs i
nth_left [] ys i l = absurd (omega (arith, l))
nth_left (x ∷ xs) ys zero l = refl
nth_left (x ∷ xs) ys (suc i) l = nth_left xs ys i (omega (arith, l))

nth_end : (xs : List ℕ) (y i : ℕ) → i ≡ length xs → slice_get (xs ++ (y ∷ [])) i ≡ Some y
nth_end [] y i e = ap (λ v. slice_get (y ∷ []) v) e
nth_end (x ∷ xs) y zero e = absurd (omega (arith, e))
nth_end (x ∷ xs) y (suc i) e = nth_end xs y i (omega (arith, e))

length_end : (xs : List ℕ) (y : ℕ) → length (xs ++ (y ∷ [])) ≡ suc (length xs)
length_end [] y = refl
length_end (x ∷ xs) y = ap suc (length_end xs y)

pub reverse_length : (xs : List ℕ) → length (reverse xs) ≡ length xs
reverse_length [] = refl
reverse_length (x ∷ xs) =
    ap (λ v. length v) (reverse-cons x xs) ∙ (length_end (reverse xs) x ∙ ap suc (reverse_length xs))

pub nth_reverse : (xs : List ℕ) (i k : ℕ) → suc (i + k) ≡ length xs → slice_get (reverse xs) i ≡ slice_get xs k
nth_reverse [] i k e = absurd (omega (arith, e))
nth_reverse (x ∷ xs) i zero e =
    ap (λ v. slice_get v i) (reverse-cons x xs)
    ∙ nth_end (reverse xs) x i (let l = reverse_length xs in omega (arith, e, l))
nth_reverse (x ∷ xs) i (suc k) e =
    ap (λ v. slice_get v i) (reverse-cons x xs)
    ∙ (nth_left (reverse xs) (x ∷ []) i (let l = reverse_length xs in omega (arith, e, l))
    ∙ nth_reverse xs i k (omega (arith, e)))

-- The byte after a position: one of the span's bytes, or the byte after the span.
pub next_inside : (xs : List ℕ) (after : Option ℕ) (i : ℕ) → i < length xs → next_in xs after i ≡ slice_get xs i
next_inside [] after i l = absurd (omega (arith, l))
next_inside (x ∷ xs) after zero l = refl
next_inside (x ∷ xs) after (suc i) l = next_inside xs after i (omega (arith, l))

pub next_past : (xs : List ℕ) (after : Option ℕ) (i : ℕ) → length xs ≤ i → next_in xs after i ≡ after
next_past [] after i l = refl
next_past (x ∷ xs) after zero l = absurd (omega (arith, l))
next_past (x ∷ xs) after (suc i) l = next_past xs after i (omega (arith, l))

-- Forward tapes: position `i` has the offset `s + i`.
pub forward_next :
    (h : List ℕ) (s e i : ℕ) → s + i ≤ e → e ≤ length h → next (forward_tape h s e) i ≡ slice_get h (s + i)
forward_next h s e i l k = ⊎_elim
    (λ (c : s + i ≡ e).
    next_past (between h s e) (slice_get h e) i
    (let n = between_length h s e (omega (arith, l)) k in omega (arith, n, c))
    ∙ ap (λ v. slice_get h v) (sym c))
    (λ (c : s + i < e).
    next_inside (between h s e) (slice_get h e) i
    (let n = between_length h s e (omega (arith, l)) k in omega (arith, n, c))
    ∙ nth_between h s e i c)
    (eq-or-lt_of_le l)

pub forward_prev :
    (h : List ℕ) (s e i : ℕ) → s + i ≤ e → prev (forward_tape h s e) i ≡ byte_before h (s + i)
forward_prev h s e zero l = ap (λ v. byte_before h v) (omega arith)
forward_prev h s e (suc i) l =
    nth_between h s e i (omega (arith, l)) ∙ ap (λ v. byte_before h v) c
  where
    c : suc (s + i) ≡ s + suc i
    c = omega arith

pub forward_byte : (h : List ℕ) (s e i : ℕ) → s + i < e → slice_get (forward_tape h s e).bytes i ≡ slice_get h (s + i)
forward_byte h s e i l = nth_between h s e i l

pub forward_length : (h : List ℕ) (s e : ℕ) → s ≤ e → e ≤ length h → length (forward_tape h s e).bytes ≡ e - s
forward_length h s e l k = between_length h s e l k

-- Reverse tapes: the byte at position `i` has the offset `o`.
pub reverse_byte :
    (h : List ℕ) (s e i o : ℕ) → suc (i + o) ≡ e → s ≤ o → e ≤ length h
    → slice_get (reverse_tape h s e).bytes i ≡ slice_get h o
reverse_byte h s e i o c l k =
    nth_reverse (between h s e) i (o - s)
    (let n = between_length h s e (omega (arith, l, c)) k in omega (arith, n, c, l))
    ∙ (nth_between h s e (o - s) (omega (arith, l, c)) ∙ ap (λ v. slice_get h v) (omega (arith, l)))

pub tape_length :
    (h : List ℕ) (s e : ℕ) → s ≤ e → e ≤ length h → length (reverse_tape h s e).bytes ≡ e - s
tape_length h s e l k = reverse_length (between h s e) ∙ between_length h s e l k

pub reverse_prev :
    (h : List ℕ) (s e i o : ℕ) → i + o ≡ e → s ≤ o → e ≤ length h → prev (reverse_tape h s e) i ≡ slice_get h o
reverse_prev h s e zero o c l k = ap (λ v. slice_get h v) (omega (arith, c))
reverse_prev h s e (suc i) o c l k = reverse_byte h s e i o (omega (arith, c)) l k

before_of : (h : List ℕ) (o p : ℕ) → suc p ≡ o → slice_get h p ≡ byte_before h o
before_of h o p c = ap (λ v. byte_before h v) c

pub reverse_next :
    (h : List ℕ) (s e i o : ℕ) → i + o ≡ e → s ≤ o → e ≤ length h → next (reverse_tape h s e) i ≡ byte_before h o
reverse_next h s e i o c l k = ⊎_elim
    (λ (d : s ≡ o).
    next_past (reverse (between h s e)) (byte_before h s) i
    (let n = tape_length h s e (omega (arith, l, c)) k in omega (arith, n, c, d))
    ∙ ap (λ v. byte_before h v) d)
    (λ (d : s < o).
    next_inside (reverse (between h s e)) (byte_before h s) i
    (let n = tape_length h s e (omega (arith, l, c)) k in omega (arith, n, c, d))
    ∙ (reverse_byte h s e i (o - 1) (omega (arith, c, d)) (omega (arith, d)) k
    ∙ before_of h o (o - 1) (omega (arith, d))))
    (eq-or-lt_of_le l)
