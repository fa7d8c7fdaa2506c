use Rattle.std.proofs.Common.{◌≡◌, ℕ, List, [], ◌∷◌, ◌++◌, Bool, true, false, cond, ◌+◌, ◌*◌, ◌^◌, ◌<◌, ◌≤◌, refl, ap}
use Rattle.std.proofs.Common.{sym, ◌∙◌, arith, length, length-append, drop, subst, inl, inr}
use Rattle.std.specs.List.{AllByRecursion, flat_map}
use Rattle.std.specs.Int.{w32, from_le_bytes}
use Rattle.std.proofs.lemmas.Bool.{cond-true, cond_both, ltb-false}
use Rattle.std.proofs.lemmas.Nat.{from_le_bytes-to_le_bytes_4}
use Rattle.std.proofs.lemmas.List.{drop_at}
use Rattle.automata_base.specs.Lists.{Distinct, In}
use Rattle.automata_base.specs.Powersets.Powerset.{Powerset, IsPowerset, IsId, cost}
use Rattle.automata_determinize.specs.Powersets.Code.{flag_byte, has_any, is_listed, four_bytes, patterns_code, code}
use Rattle.automata_base.specs.Powersets.Code.{ids_code}
use Rattle.automata_determinize.specs.Powersets.Code.{is_set, number_at, numbers_at, numbers, ids_of, patterns_of}
use Rattle.automata_determinize.specs.Powersets.Code.{ids_bytes}
use Rattle.automata_determinize.specs.Powersets.Code.{decoded, IsCode}
use Rattle.automata_base.proofs.Powersets.Distinct.{distinct_below}
use Rattle.automata_determinize.proofs.Powersets.Code.Groups.{ids_of-ids_code, numbers_at-four_bytes, length-four_bytes}
use Rattle.automata_determinize.proofs.Powersets.Code.Groups.{length-ids_code}

-- The four bits of the first byte.
pub flag_bits :
    (a b c d : Bool) (rest : List ℕ) → (is_set 1 (flag_byte a b c d ∷ rest) ≡ a)
    × (is_set 2 (flag_byte a b c d ∷ rest) ≡ b) × (is_set 4 (flag_byte a b c d ∷ rest) ≡ c)
    × (is_set 8 (flag_byte a b c d ∷ rest) ≡ d)
flag_bits true true true true rest = (refl, refl, refl, refl)
flag_bits true true true false rest = (refl, refl, refl, refl)
flag_bits true true false true rest = (refl, refl, refl, refl)
flag_bits true true false false rest = (refl, refl, refl, refl)
flag_bits true false true true rest = (refl, refl, refl, refl)
flag_bits true false true false rest = (refl, refl, refl, refl)
flag_bits true false false true rest = (refl, refl, refl, refl)
flag_bits true false false false rest = (refl, refl, refl, refl)
flag_bits false true true true rest = (refl, refl, refl, refl)
flag_bits false true true false rest = (refl, refl, refl, refl)
flag_bits false true false true rest = (refl, refl, refl, refl)
flag_bits false true false false rest = (refl, refl, refl, refl)
flag_bits false false true true rest = (refl, refl, refl, refl)
flag_bits false false true false rest = (refl, refl, refl, refl)
flag_bits false false false true rest = (refl, refl, refl, refl)
flag_bits false false false false rest = (refl, refl, refl, refl)

-- ---- patterns

pub wide : (ps : List ℕ) → AllByRecursion IsId ps → AllByRecursion (λ p. p < 2 ^ 32) ps
wide [] h = tt
wide (p ∷ ps) h = (omega (arith, h.0), wide ps h.1)

all_in : (ps : List ℕ) (q : ℕ) → AllByRecursion IsId ps → In q ps → IsId q
all_in [] q h i = absurd i
all_in (p ∷ ps) q h (inl e) = subst IsId (sym e) h.0
all_in (p ∷ ps) q h (inr i) = all_in ps q h.1 i

pub count_fits : (ps : List ℕ) → AllByRecursion IsId ps → Distinct ps → length ps < 2 ^ 32
count_fits ps h d = omega (arith, distinct_below 2147483647 ps d (λ q i. all_in ps q h i))

-- If patterns are not listed, there is none, or only pattern 0.
abbrev pub unlisted : Bool → List ℕ
unlisted has = cond has (0 ∷ []) []

pub unlisted_patterns : (ps : List ℕ) → is_listed ps ≡ false → unlisted (has_any ps) ≡ ps
unlisted_patterns [] e = refl
unlisted_patterns (p ∷ []) e = ap (λ x. x ∷ []) (omega (arith, ltb-false 0 p e))
unlisted_patterns (p ∷ q ∷ ps) e = cc

pub listed_has : (ps : List ℕ) → is_listed ps ≡ true → has_any ps ≡ true
listed_has [] e = e
listed_has (p ∷ ps) e = refl

pub listed_patterns : (b : Bool) (ps rest : List ℕ) → is_listed ps ≡ b → AllByRecursion IsId ps → length ps < 2 ^ 32
    → let tail =
    cond b (four_bytes (length ps) ++ flat_map four_bytes ps) [] ++ rest in
    cond (has_any ps) (cond b (numbers_at (from_le_bytes w32 tail) (drop 4 tail)) (0 ∷ [])) [] ≡ ps
listed_patterns true ps rest e h l =
    cond-true (has_any ps) _ _ (listed_has ps e)
    ∙ ap (λ n. numbers_at n (flat_map four_bytes ps ++ rest)) (from_le_bytes-to_le_bytes_4 (length ps) l)
    ∙ numbers_at-four_bytes ps rest (wide ps h)
listed_patterns false ps rest e h l = unlisted_patterns ps e

pub ids_after : (b : Bool) (ps rest : List ℕ) → length ps < 2 ^ 32
    → let tail =
    cond b (four_bytes (length ps) ++ flat_map four_bytes ps) [] ++ rest in
    cond b (drop (4 * from_le_bytes w32 tail) (drop 4 tail)) tail ≡ rest
ids_after true ps rest l =
    ap (λ n. drop (4 * n) (flat_map four_bytes ps ++ rest)) (from_le_bytes-to_le_bytes_4 (length ps) l)
    ∙ drop_at (flat_map four_bytes ps) rest (4 * length ps) (length-four_bytes ps)
ids_after false ps rest l = refl

-- The NFA states follow the patterns.
pub ids_bytes-code : (q : Powerset) → IsPowerset q → ids_bytes (code q) ≡ ids_code 0 q.nfa
ids_bytes-code q h =
    let tail : List ℕ = patterns_code q.patterns ++ ids_code 0 q.nfa in
    let f =
    flag_bits (has_any q.patterns) (is_listed q.patterns) q.word q.half
    (four_bytes q.known ++ (four_bytes q.needed ++ tail)) in
    ap (λ b. cond b (drop (4 * from_le_bytes w32 tail) (drop 4 tail)) tail) f.1
    ∙ ids_after (is_listed q.patterns) q.patterns (ids_code 0 q.nfa) (count_fits q.patterns h.patterns h.distinct)

-- Decoding the bytes of a state returns the state.
pub decoded-code : (q : Powerset) → IsPowerset q → decoded (code q) ≡ q
decoded-code q h =
    let rest : List ℕ = four_bytes q.known ++ (four_bytes q.needed ++ (patterns_code q.patterns ++ ids_code 0 q.nfa)) in
    let tail : List ℕ = patterns_code q.patterns ++ ids_code 0 q.nfa in
    let f = flag_bits (has_any q.patterns) (is_listed q.patterns) q.word q.half rest in
    let l : length q.patterns < 2 ^ 32 = count_fits q.patterns h.patterns h.distinct in
    let known : number_at (code q) 1 ≡ q.known = from_le_bytes-to_le_bytes_4 q.known h.known in
    let needed : number_at (code q) 5 ≡ q.needed = from_le_bytes-to_le_bytes_4 q.needed h.needed in
    let patterns : patterns_of (code q) ≡ q.patterns =
    ap (λ b. cond b (cond (is_set 2 (code q)) (numbers_at (from_le_bytes w32 tail) (drop 4 tail)) (0 ∷ [])) []) f.0
    ∙ ap (λ b. cond (has_any q.patterns) (cond b (numbers_at (from_le_bytes w32 tail) (drop 4 tail)) (0 ∷ [])) []) f.1
    ∙ listed_patterns (is_listed q.patterns) q.patterns (ids_code 0 q.nfa) refl h.patterns l in
    let nfa : ids_of 0 (numbers (ids_bytes (code q))) ≡ q.nfa =
    ap (λ x. ids_of 0 (numbers x)) (ids_bytes-code q h) ∙ ids_of-ids_code 0 q.nfa (omega arith) h.nfa in
    λ i. record { nfa = nfa i; patterns = patterns i; known = known i; needed = needed i; word = f.2 i; half = f.3 i }

-- States with equal bytes are equal.
pub same_from_code : (a b : Powerset) → IsPowerset a → IsPowerset b → code a ≡ code b → a ≡ b
same_from_code a b p q e = sym (decoded-code a p) ∙ ap decoded e ∙ decoded-code b q

pub length-patterns_code : (ps : List ℕ) → length (patterns_code ps) ≤ 4 + 4 * length ps
length-patterns_code ps =
    cond_both (is_listed ps) (four_bytes (length ps) ++ flat_map four_bytes ps) [] (λ x. length x ≤ 4 + 4 * length ps)
    (λ e. omega (arith, length-four_bytes ps)) (λ e. omega arith)

pub length-code : (q : Powerset) → length (code q) ≤ cost q
length-code q =
    omega (
      arith,
      length-append (patterns_code q.patterns) (ids_code 0 q.nfa),
      length-patterns_code q.patterns,
      length-ids_code 0 q.nfa,
    )

pub IsCode-code : (q : Powerset) (bytes : List ℕ) → IsPowerset q → bytes ≡ code q → IsCode bytes
IsCode-code q bytes h e =
    let back : decoded bytes ≡ q = ap decoded e ∙ decoded-code q h in
    record { state = subst IsPowerset (sym back) h; same = ap code back ∙ sym e }
