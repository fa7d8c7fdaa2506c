-- Varints: what is read of them, and their lengths.
use Rattle.std.proofs.Common.{◌≡◌, ℕ, zero, suc, List, [], ◌∷◌, ◌++◌, ◌+◌, ◌*◌, ◌-◌, ◌/◌, ◌%◌, ◌^◌, ◌<◌, ◌≤◌}
use Rattle.std.proofs.Common.{refl, ap, sym, ◌∙◌, arith, length, length-append, drop, nat_lt}
use Rattle.std.specs.List.{AllByRecursion, flat_map}
use Rattle.std.proofs.Common.{get_or, add-one, subst}
use Rattle.std.proofs.lemmas.List.{drop_all}
use Rattle.std.proofs.Math.Seq.{drop-cons}
use Rattle.std.proofs.lemmas.Bool.{cond-true, cond-false, lt-ltb, le-ltb, ltb-true, cond_both}
use Rattle.std.proofs.lemmas.Bool.Decides.{nat_tests}
use Rattle.std.proofs.lemmas.Nat.{from_le_bytes-to_le_bytes_4}
use Rattle.automata_base.specs.Powersets.Powerset.{IsId}
use Rattle.automata_base.specs.Powersets.Code.{FitsGroups, groups, varint}
use Rattle.automata_determinize.specs.Powersets.Code.{IsFront, AreIds, numbers, with_low}
use Rattle.automata_base.specs.Powersets.Code.{difference, ids_code, bit}
use Rattle.automata_determinize.specs.Powersets.Code.{id_at, ids_of, four_bytes, numbers_at}
use Rattle.automata_base.proofs.Powersets.Code.Groups.{fits_five}

pub numbers-groups : (k n : ℕ) (rest : List ℕ) → FitsGroups k n → numbers (groups k n ++ rest) ≡ n ∷ numbers rest
unfolding groups numbers
numbers-groups zero n rest h = cond-true (nat_lt n 128) _ _ (lt-ltb n 128 h)
numbers-groups (suc k) n rest h =
    cond_both (nat_lt n 128) (n ∷ []) ((128 + n % 128) ∷ groups k (n / 128))
    (λ x. numbers (x ++ rest) ≡ n ∷ numbers rest)
    (λ e. cond-true (nat_lt n 128) _ _ e)
    (λ e. cond-false (nat_lt (128 + n % 128) 128) _ _ (le-ltb (128 + n % 128) 128 (omega arith))
    ∙ ap (with_low (128 + n % 128 - 128)) (numbers-groups k (n / 128) rest h)
    ∙ ap (λ m. m ∷ numbers rest) (omega arith))

pub id_at-difference : (before id : ℕ) → id_at before (difference before id) ≡ id
id_at-difference before id = grind (arith, nat_tests)

pub difference-bound : (before id : ℕ) → IsId before → IsId id → difference before id < 2 ^ 35
difference-bound before id p q = grind (arith, nat_tests)

pub ids_of-ids_code :
    (before : ℕ) (ids : List ℕ) → IsId before → AllByRecursion IsId ids
    → ids_of before (numbers (ids_code before ids)) ≡ ids
unfolding ids_code ids_of numbers
ids_of-ids_code before [] p h = refl
ids_of-ids_code before (id ∷ ids) p h =
    ap (ids_of before)
    (numbers-groups 4 (difference before id) (ids_code id ids) (fits_five _ (difference-bound before id p h.0)))
    ∙ ap (λ x. x ∷ ids_of x (numbers (ids_code id ids))) (id_at-difference before id)
    ∙ ap (λ x. id ∷ x) (ids_of-ids_code id ids h.0 h.1)

pub numbers_at-four_bytes :
    (ps rest : List ℕ) → AllByRecursion (λ p. p < 2 ^ 32) ps
    → numbers_at (length ps) (flat_map four_bytes ps ++ rest) ≡ ps
unfolding numbers_at
numbers_at-four_bytes [] rest h = refl
numbers_at-four_bytes (p ∷ ps) rest h =
    ap (λ x. x ∷ numbers_at (length ps) (flat_map four_bytes ps ++ rest)) (from_le_bytes-to_le_bytes_4 p h.0)
    ∙ ap (λ x. p ∷ x) (numbers_at-four_bytes ps rest h.1)

pub length-four_bytes : (ps : List ℕ) → length (flat_map four_bytes ps) ≡ 4 * length ps
length-four_bytes [] = refl
length-four_bytes (p ∷ ps) = omega (arith, length-four_bytes ps)

pub length-groups : (k n : ℕ) → length (groups k n) ≤ k + 1
unfolding groups
length-groups zero n = omega arith
length-groups (suc k) n =
    cond_both (nat_lt n 128) (n ∷ []) ((128 + n % 128) ∷ groups k (n / 128)) (λ x. length x ≤ suc k + 1)
    (λ e. omega arith) (λ e. omega (arith, length-groups k (n / 128)))

pub length-ids_code : (before : ℕ) (ids : List ℕ) → length (ids_code before ids) ≤ 5 * length ids
unfolding ids_code
length-ids_code before [] = omega arith
length-ids_code before (id ∷ ids) =
    omega (
      arith,
      length-append (varint (difference before id)) (ids_code id ids),
      length-groups 4
          (difference before id),
      length-ids_code id ids,
    )

length-with_low : (low : ℕ) (ns : List ℕ) → length (with_low low ns) ≡ length ns
length-with_low low [] = refl
length-with_low low (n ∷ ns) = refl

length-numbers : (b : ℕ) (bytes : List ℕ) → length (numbers (b ∷ bytes)) ≡ bit (nat_lt b 128) + length (numbers bytes)
unfolding numbers
length-numbers b bytes =
    cond_both (nat_lt b 128) (b ∷ numbers bytes) (with_low (b - 128) (numbers bytes))
    (λ x. length x ≡ bit (nat_lt b 128) + length (numbers bytes))
    (λ e. let one : bit (nat_lt b 128) ≡ 1 = ap bit e in omega (arith, one))
    (λ e. let none : bit (nat_lt b 128) ≡ 0 = ap bit e in
    omega (arith, none, length-with_low (b - 128) (numbers bytes)))

-- One more byte is counted, where `count` numbers end before index `i`.
pub counted-next : (bytes : List ℕ) (i count one all : ℕ) → i < length bytes → one ≡ bit (nat_lt (get_or bytes i 0) 128)
    → count + length (numbers (drop i bytes)) ≡ all → (count + one) + length (numbers (drop (i + 1) bytes)) ≡ all
counted-next bytes i count one all l e p =
    let step : length (numbers (drop i bytes)) ≡ bit (nat_lt (get_or bytes i 0) 128)
    + length (numbers (drop (suc i) bytes)) =
    ap (λ x. length (numbers x)) (drop-cons bytes i 0 l) ∙ length-numbers (get_or bytes i 0) (drop (suc i) bytes) in
    let next : length (numbers (drop (i + 1) bytes)) ≡ length (numbers (drop (suc i) bytes)) =
    ap (λ n. length (numbers (drop n bytes))) (add-one i) in
    omega (arith, e, p, step, next)

pub counted-all :
    (bytes : List ℕ) (i count all : ℕ) → length bytes ≤ i → count + length (numbers (drop i bytes)) ≡ all → count ≡ all
unfolding numbers
counted-all bytes i count all l p =
    let none : length (numbers (drop i bytes)) ≡ 0 = ap (λ x. length (numbers x)) (drop_all i bytes l) in
    omega (arith, p, none)

pub length-numbers_most : (bytes : List ℕ) → length (numbers bytes) ≤ length bytes
unfolding numbers
length-numbers_most [] = omega arith
length-numbers_most (b ∷ bytes) =
    let rest = length-numbers_most bytes in
    cond_both (nat_lt b 128) (b ∷ numbers bytes) (with_low (b - 128) (numbers bytes))
    (λ x. length x ≤ suc (length bytes))
    (λ e. omega (arith, rest)) (λ e. omega (arith, rest, length-with_low (b - 128) (numbers bytes)))

pub length-ids_of : (before : ℕ) (zs : List ℕ) → length (ids_of before zs) ≡ length zs
unfolding ids_of
length-ids_of before [] = refl
length-ids_of before (z ∷ zs) = ap suc (length-ids_of (id_at before z) zs)

front_last_at :
    (k b n : ℕ) (bytes tail : List ℕ) → FitsGroups k n → b ∷ bytes ≡ groups k n ++ tail → b < 128 → (b ≡ n)
    × (bytes ≡ tail)
unfolding groups
front_last_at zero b n bytes tail room same h = (cc, cc)
front_last_at (suc k) b n bytes tail room same h =
    cond_both (nat_lt n 128) (n ∷ []) ((128 + n % 128) ∷ groups k (n / 128))
    (λ x. b ∷ bytes ≡ x ++ tail → (b ≡ n) × (bytes ≡ tail))
    (λ e p. (cc, cc))
    (λ e p. let q : b ≡ 128 + n % 128 = cc in absurd (omega arith))
    same

front_more_at :
    (k b n : ℕ) (bytes tail : List ℕ) → n < 2 ^ 35 → FitsGroups k n → b ∷ bytes ≡ groups k n ++ tail → 128 ≤ b
    → IsFront bytes (n / 128) tail × (b - 128 + 128 * (n / 128) ≡ n)
unfolding groups
front_more_at zero b n bytes tail bound room same h = let q : b ≡ n = cc in absurd (omega arith)
front_more_at (suc k) b n bytes tail bound room same h =
    cond_both (nat_lt n 128) (n ∷ []) ((128 + n % 128) ∷ groups k (n / 128))
    (λ x. b ∷ bytes ≡ x ++ tail → IsFront bytes (n / 128) tail × (b - 128 + 128 * (n / 128) ≡ n))
    (λ e p. let q : b ≡ n = cc in absurd (omega (arith, ltb-true n 128 e)))
    (λ e p. let q : b ≡ 128 + n % 128 = cc in ((k, omega arith, room, cc), omega arith))
    same

front_some_at : (k n : ℕ) (tail : List ℕ) → [] ≡ groups k n ++ tail → ⊥
unfolding groups
front_some_at zero n tail e = cc
front_some_at (suc k) n tail e =
    cond_both (nat_lt n 128) (n ∷ []) ((128 + n % 128) ∷ groups k (n / 128)) (λ x. [] ≡ x ++ tail → ⊥) (λ e p. cc)
    (λ e p. cc) e

pub front_last : (b n : ℕ) (bytes tail : List ℕ) → IsFront (b ∷ bytes) n tail → b < 128 → (b ≡ n) × (bytes ≡ tail)
front_last b n bytes tail f h = front_last_at f.0 b n bytes tail f.2 f.3 h

pub front_more :
    (b n : ℕ) (bytes tail : List ℕ) → IsFront (b ∷ bytes) n tail → 128 ≤ b → IsFront bytes (n / 128) tail
    × (b - 128 + 128 * (n / 128) ≡ n)
front_more b n bytes tail f h = front_more_at f.0 b n bytes tail f.1 f.2 f.3 h

pub front_some : (n : ℕ) (tail : List ℕ) → IsFront [] n tail → ⊥
front_some n tail f = front_some_at f.0 n tail f.3

-- The number at the front of the remaining bytes.
pub record Reads (before : ℕ) (bytes : List ℕ) : Type 0 where
  pub number : ℕ
  pub tail : List ℕ
  pub front : IsFront bytes number tail
  pub is_id : IsId (id_at before number)
  pub items : ids_of before (numbers bytes) ≡ id_at before number ∷ ids_of (id_at before number) (numbers tail)
  pub left : AreIds (id_at before number) tail

reads_at :
    (before : ℕ) (bytes ids : List ℕ) → IsId before → AllByRecursion IsId ids → ids_code before ids ≡ bytes
    → 0 < length bytes → Reads before bytes
unfolding ids_code
reads_at before bytes [] p h e l = let q : length bytes ≡ 0 = ap length (sym e) in absurd (omega arith)
reads_at before bytes (id ∷ ids) p h e l =
    let z = difference before id in
    let tail = ids_code id ids in
    let bound : z < 2 ^ 35 = difference-bound before id p h.0 in
    let at : id_at before z ≡ id = id_at-difference before id in
    let back : ids_of id (numbers tail) ≡ ids = ids_of-ids_code id ids h.0 h.1 in
    record {
      number = z;
      tail = tail;
      front = (4, bound, fits_five z bound, sym e);
      is_id = subst IsId (sym at) h.0;
      items =
          ap (λ x. ids_of before (numbers x)) (sym e) ∙ ids_of-ids_code before (id ∷ ids) p h
          ∙ ap (λ x. id ∷ x) (sym back) ∙ ap (λ x. x ∷ ids_of x (numbers tail)) (sym at);
      left =
          subst (λ (x : ℕ). AreIds x tail) (sym at)
          (record { first = h.0; ids = subst (AllByRecursion IsId) (sym back) h.1; same = ap (ids_code id) back });
    }

pub reads : (before : ℕ) (bytes : List ℕ) → AreIds before bytes → 0 < length bytes → Reads before bytes
reads before bytes a l = reads_at before bytes (ids_of before (numbers bytes)) a.first a.ids a.same l

pub nothing_left : (before : ℕ) (bytes : List ℕ) → length bytes ≡ 0 → ids_of before (numbers bytes) ≡ []
unfolding ids_of numbers
nothing_left before [] e = refl
nothing_left before (b ∷ bytes) e = absurd (omega arith)

pub front_last_of :
    (bytes : List ℕ) (b n : ℕ) (rest tail : List ℕ) → bytes ≡ b ∷ rest → IsFront bytes n tail → b < 128 → (b ≡ n)
    × (rest ≡ tail)
front_last_of bytes b n rest tail e f h = front_last b n rest tail (subst (λ (x : List ℕ). IsFront x n tail) e f) h

pub front_more_of :
    (bytes : List ℕ) (b n : ℕ) (rest tail : List ℕ) → bytes ≡ b ∷ rest → IsFront bytes n tail → 128 ≤ b
    → IsFront rest (n / 128) tail × (b - 128 + 128 * (n / 128) ≡ n)
front_more_of bytes b n rest tail e f h = front_more b n rest tail (subst (λ (x : List ℕ). IsFront x n tail) e f) h

pub front_none : (bytes : List ℕ) (n : ℕ) (tail : List ℕ) → length bytes < 1 → IsFront bytes n tail → ⊥
front_none [] n tail h f = front_some n tail f
front_none (b ∷ bytes) n tail h f = omega arith

-- After the first element was returned, fewer elements remain.
pub fewer : (old new : List ℕ) (x : ℕ) → old ≡ x ∷ new → length new < length old
fewer old new x e = omega (arith, ap length e)
