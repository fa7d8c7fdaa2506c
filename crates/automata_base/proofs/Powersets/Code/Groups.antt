-- Varints: their groups, and the loops that write them.
use Rattle.std.proofs.Common.{◌≡◌, ℕ, zero, suc, List, [], ◌∷◌, ◌++◌, cond, ◌+◌, ◌-◌, ◌/◌, ◌%◌, ◌^◌, ◌<◌, ◌≤◌}
use Rattle.std.proofs.Common.{ap, sym, ◌∙◌, arith, append_assoc, length, drop, nat_lt}
use Rattle.std.proofs.Common.{get_or, add-one, take}
use Rattle.std.proofs.lemmas.List.{get_or_read}
use Rattle.std.proofs.Math.Seq.{take-length}
use Rattle.std.proofs.lemmas.List.{append-nil, drop_all}
use Rattle.std.proofs.Math.Seq.{drop-cons}
use Rattle.std.proofs.lemmas.Bool.{cond-true, cond-false, lt-ltb, le-ltb}
use Rattle.automata_base.specs.Powersets.Code.{FitsGroups, groups, varint}
use Rattle.automata_base.specs.Powersets.Code.{difference, ids_code}

pub groups-more : (k n : ℕ) → FitsGroups k n → groups k n ≡ groups (suc k) n
unfolding groups
groups-more zero n h = sym (cond-true (nat_lt n 128) _ _ (lt-ltb n 128 h))
groups-more (suc k) n h = ap (λ x. cond (nat_lt n 128) (n ∷ []) ((128 + n % 128) ∷ x)) (groups-more k (n / 128) h)

pub fits_five : (n : ℕ) → n < 2 ^ 35 → FitsGroups 4 n
fits_five n h = omega arith

pub varint-last : (n : ℕ) → n < 128 → varint n ≡ n ∷ []
unfolding groups
varint-last n h = cond-true (nat_lt n 128) _ _ (lt-ltb n 128 h)

pub varint-step : (n : ℕ) → n < 2 ^ 35 → 128 ≤ n → varint n ≡ (128 + n % 128) ∷ varint (n / 128)
unfolding groups
varint-step n f h =
    cond-false (nat_lt n 128) _ _ (le-ltb n 128 h)
    ∙ ap (λ x. (128 + n % 128) ∷ x) (groups-more 3 (n / 128) (fits_five n f))

pub pushed-step :
    (out front bytes : List ℕ) (n b : ℕ) → n < 2 ^ 35 → 128 ≤ n → b ≡ 128 + n % 128 → out ++ varint n ≡ front
    → (out ++ b ∷ []) ++ varint (n / 128) ≡ front
pushed-step out front bytes n b f h e p =
    append_assoc out (b ∷ []) (varint (n / 128)) ∙ ap (λ x. out ++ x ∷ varint (n / 128)) e
    ∙ ap (λ x. out ++ x) (sym (varint-step n f h)) ∙ p

-- One more NFA state is encoded.
pub ids-step :
    (out front ids : List ℕ) (before i z : ℕ) → i < length ids → z ≡ difference before (get_or ids i 0)
    → out ++ ids_code before (drop i ids) ≡ front
    → (out ++ varint z) ++ ids_code (get_or ids i 0) (drop (i + 1) ids) ≡ front
unfolding ids_code
ids-step out front ids before i z l e p =
    let id = get_or ids i 0 in
    append_assoc out (varint z) (ids_code id (drop (i + 1) ids))
    ∙ ap (λ n. out ++ (varint z ++ ids_code id (drop n ids))) (add-one i)
    ∙ ap (λ n. out ++ (varint n ++ ids_code id (drop (suc i) ids))) e
    ∙ ap (λ x. out ++ ids_code before x) (sym (drop-cons ids i 0 l))
    ∙ p

pub ids-end :
    (out front ids : List ℕ) (before i : ℕ) → length ids ≤ i → out ++ ids_code before (drop i ids) ≡ front → out ≡ front
unfolding ids_code
ids-end out front ids before i l p =
    sym (append-nil out) ∙ ap (λ x. out ++ ids_code before x) (sym (drop_all i ids l)) ∙ p

-- The bytes are the first and the others, as a slice pattern splits them.
pub split_bytes :
    (bytes : List ℕ) → 1 ≤ length bytes → bytes ≡ get_or bytes 0 0 ∷ take (length bytes - 1) (drop 1 bytes)
split_bytes [] h = absurd (omega arith)
split_bytes (b ∷ bytes) h = ap (λ x. b ∷ x) (sym (ap (λ n. take n bytes) (omega arith) ∙ take-length bytes))

-- The same for an element that was read at index 0.
pub split_at_item :
    (xs : List ℕ) (x : ℕ) → 1 ≤ length xs → x ≡ get_or xs 0 x → xs ≡ x ∷ take (length xs - 1) (drop 1 xs)
split_at_item xs x h e =
    split_bytes xs h ∙ ap (λ y. y ∷ take (length xs - 1) (drop 1 xs)) (sym (get_or_read xs 0 x (omega arith) e 0))
