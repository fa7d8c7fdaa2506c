use Rattle.std.proofs.Common.{◌≡◌, ℕ, zero, suc, List, ◌++◌, true, ◌+◌, ◌*◌, ◌-◌, ◌^◌, ◌<◌, ◌≤◌, refl, ap, sym, ◌∙◌}
use Rattle.std.proofs.Common.{arith, length, length-append, drop, take, get_or}
use Rattle.std.specs.List.{flat_map}
use Rattle.std.specs.Int.{w32, from_le_bytes}
use Rattle.std.proofs.lemmas.Bool.{cond-true}
use Rattle.std.proofs.lemmas.List.{drop-drop, length-drop}
use Rattle.std.proofs.Math.Seq.{take-length}
use Rattle.std.proofs.lemmas.Nat.{from_le_bytes-to_le_bytes_4}
use Rattle.automata_determinize.specs.Powersets.Code.{has_any, is_listed, four_bytes, patterns_code, is_set}
use Rattle.automata_base.specs.Powersets.Code.{ids_code}
use Rattle.automata_determinize.specs.Powersets.Code.{number_at, numbers_at, patterns_of, ids_bytes, decoded, IsCode}
use Rattle.automata_determinize.specs.Powersets.Code.{AreIds}
use Rattle.automata_determinize.proofs.Powersets.Code.Groups.{length-four_bytes}
use Rattle.automata_determinize.proofs.Powersets.Code.Inverse.{flag_bits, count_fits, listed_has, ids_bytes-code}

-- ---- the fields of the bytes of a state

flags_are :
    (bytes : List ℕ) → IsCode bytes → (is_set 1 bytes ≡ has_any (patterns_of bytes))
    × (is_set 2 bytes ≡ is_listed (patterns_of bytes))
flags_are bytes h =
    let q = decoded bytes in
    let f =
    flag_bits (has_any q.patterns) (is_listed q.patterns) q.word q.half
    (four_bytes q.known ++ (four_bytes q.needed ++ (patterns_code q.patterns ++ ids_code 0 q.nfa))) in
    (ap (is_set 1) (sym h.same) ∙ f.0, ap (is_set 2) (sym h.same) ∙ f.1)

-- The list of patterns is complete.
pub record IsWhole (bytes : List ℕ) : Type 0 where
  pub has : is_set 1 bytes ≡ true
  pub count : number_at bytes 9 ≡ length (patterns_of bytes)
  pub room : 13 + 4 * length (patterns_of bytes) ≤ length bytes
  pub few : length (patterns_of bytes) < 2 ^ 32

pub whole : (bytes : List ℕ) → IsCode bytes → is_set 2 bytes ≡ true → IsWhole bytes
whole bytes h e =
    let q = decoded bytes in
    let f = flags_are bytes h in
    let listed : is_listed q.patterns ≡ true = sym f.1 ∙ e in
    let few : length q.patterns < 2 ^ 32 = count_fits q.patterns h.state.patterns h.state.distinct in
    let opened : patterns_code q.patterns ≡ four_bytes (length q.patterns) ++ flat_map four_bytes q.patterns =
    cond-true (is_listed q.patterns) _ _ listed in
    record {
      has = f.0 ∙ listed_has q.patterns listed;
      count =
          ap (λ (x : List ℕ). number_at x 9) (sym h.same)
          ∙ ap (λ (x : List ℕ). from_le_bytes w32 (x ++ ids_code 0 q.nfa)) opened
          ∙ from_le_bytes-to_le_bytes_4 (length q.patterns) few;
      room =
          omega (
            arith,
            ap length h.same,
            length-append (patterns_code q.patterns) (ids_code 0 q.nfa),
            ap length opened,
            length-four_bytes q.patterns,
          );
      few = few;
    }

-- ---- patterns

pub get_or-numbers_at :
    (n : ℕ) (bytes : List ℕ) (i : ℕ) → i < n → get_or (numbers_at n bytes) i 0 ≡ from_le_bytes w32 (drop (4 * i) bytes)
unfolding numbers_at
get_or-numbers_at zero bytes i h = absurd (omega arith)
get_or-numbers_at (suc n) bytes zero h = refl
get_or-numbers_at (suc n) bytes (suc i) h =
    get_or-numbers_at n (drop 4 bytes) i (omega arith)
    ∙ ap (from_le_bytes w32) (drop-drop (4 * i) 4 bytes ∙ ap (λ k. drop k bytes) (omega arith))

-- The NFA states are encoded as differences, the first one to 0.
pub ids_are : (bytes : List ℕ) → IsCode bytes → AreIds 0 (ids_bytes bytes)
ids_are bytes h =
    record {
      first = omega arith;
      ids = h.state.nfa;
      same = sym (ids_bytes-code (decoded bytes) h.state)
          ∙ ap ids_bytes h.same;
    }

pub count-listed :
    (bytes : List ℕ) → IsCode bytes → is_set 2 bytes ≡ true
    → patterns_of bytes ≡ numbers_at (number_at bytes 9) (drop 13 bytes)
count-listed bytes h e = cond-true (is_set 1 bytes) _ _ (whole bytes h e).has ∙ cond-true (is_set 2 bytes) _ _ e

-- The pattern at an index.
pub pattern-listed :
    (bytes : List ℕ) (i : ℕ) → IsCode bytes → is_set 2 bytes ≡ true → i < length (patterns_of bytes)
    → get_or (patterns_of bytes) i 0 ≡ number_at bytes (13 + 4 * i)
pattern-listed bytes i h e l =
    ap (λ (x : List ℕ). get_or x i 0) (count-listed bytes h e)
    ∙ get_or-numbers_at (number_at bytes 9) (drop 13 bytes) i (omega (arith, (whole bytes h e).count))
    ∙ ap (from_le_bytes w32) (drop-drop (4 * i) 13 bytes)

-- The bytes from an offset on, as a slice range takes them.
pub ids_from :
    (bytes : List ℕ) (count : ℕ) → is_set 2 bytes ≡ true → count ≡ number_at bytes 9
    → take (length bytes - (13 + 4 * count)) (drop (13 + 4 * count) bytes) ≡ ids_bytes bytes
ids_from bytes count e c =
    ap (λ n. take n (drop (13 + 4 * count) bytes)) (sym (length-drop (13 + 4 * count) bytes))
    ∙ take-length (drop (13 + 4 * count) bytes)
    ∙ sym (drop-drop (4 * count) 13 bytes)
    ∙ ap (λ n. drop (4 * n) (drop 13 bytes)) c
    ∙ sym (cond-true (is_set 2 bytes) _ _ e)
