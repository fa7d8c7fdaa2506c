-- The bytes of which matches consist.
use Rattle.std.proofs.Common.{ℕ, zero, suc, ◌≡◌, ◌+◌, ◌-◌, ◌<◌, ◌≤◌, true, false, Bool, List, [], ◌∷◌, ◌++◌, All}
use Rattle.std.proofs.Common.{length, drop, get_or, Option, Some, None, refl, sym, ap, ◌∙◌, subst, ⊎_elim, arith}
use Rattle.std.proofs.Common.{slice_index, encode_utf8, inl, inr, ◌||◌}
use Rattle.std.proofs.Common.{get_or-drop}
use Rattle.std.specs.Char.{len_utf8}
use Rattle.std.proofs.lemmas.Bool.{cases_lt}
use Rattle.std.proofs.lemmas.List.{get_or_append_left}
use Rattle.std.proofs.Common.{true≢false}
use Rattle.std.proofs.lemmas.Bool.Decides.{nat_tests}
use Rattle.std.proofs.lemmas.Option.{get_or_from_slice_get, slice_get_within}
use Rattle.std.proofs.lemmas.Str.{len_utf8_ascii, length-encode}
use Rattle.regex_class.specs.Ranges.{in_range, in_ranges}
use Rattle.regex_class.proofs.RangesLemmas.{in_ranges-cons, in_ranges-nil}
use Rattle.regex_hir.specs.Re.{Re, empty, literal, byte_in, char_in, look, cat, alt, group, plus}
use Rattle.regex_hir.specs.Meaning.{alt_all, at_least, cat_all, copies, optional, repeat, up_to}
use Rattle.regex_hir.specs.Matches.{Matches, Rounds, one_round, next_round}
use Rattle.regex_hir.specs.Text.{char_at}
use Rattle.regex_hir.specs.declared.look.Look.{Look}
use Rattle.regex_hir.proofs.TextLemmas.{char_at_fits, has_bytes_at_parts}
use Rattle.regex_hir.proofs.Utf8Lemmas.{char_at_cases, encode_two, encode_three, encode_four}
use Rattle.prefilters.specs.Bytes.{HasOnlyBytesOf, in_table}
use Rattle.prefilters.specs.Heads.{ConsistsOf, HasCharacters, HasBytesInRange}

no_range : (b : ℕ) → in_ranges [] b ≡ true → ⊥
no_range b e = true≢false (sym e ∙ in_ranges-nil b)

in_between : (r : ℕ × ℕ) (c : ℕ) → in_range r c ≡ true → (r.0 ≤ c) × (c ≤ r.1)
unfolding in_range
in_between r c e = grind (arith, nat_tests)

pick :
    (P : ℕ × ℕ → Type 0) (r : ℕ × ℕ) (rs : List (ℕ × ℕ)) (c : ℕ) → P r
    → (in_ranges rs c ≡ true → (q : ℕ × ℕ) × P q × (q.0 ≤ c) × (c ≤ q.1)) → in_ranges (r ∷ rs) c ≡ true
    → (b : Bool) → in_range r c ≡ b → (q : ℕ × ℕ) × P q × (q.0 ≤ c) × (c ≤ q.1)
pick P r rs c p later e true is = let w = in_between r c is in (r, p, w.0, w.1)
pick P r rs c p later e false is = later (sym (ap (λ b. b || in_ranges rs c) is) ∙ sym (in_ranges-cons r rs c) ∙ e)

-- a number in one of the ranges is in a range that has a property
in_some :
    (P : ℕ × ℕ → Type 0) (rs : List (ℕ × ℕ)) (c : ℕ) → All P rs → in_ranges rs c ≡ true
    → (r : ℕ × ℕ) × P r × (r.0 ≤ c) × (c ≤ r.1)
in_some P [] c s e = absurd (no_range c e)
in_some P (r ∷ rs) c s e =
    pick P r rs c (s 0 r (omega arith)) (in_some P rs c (λ i d l. s (suc i) d (omega (arith, l)))) e (in_range r c) refl

ascii_byte : (hay : List ℕ) (i c : ℕ) → char_at hay i ≡ Some c → c < 128 → slice_index hay i ≡ c
ascii_byte hay i c there less = elim (char_at_cases hay i c there).1 [
  | inl one ↦ one.2
  | inr (inl two) ↦ absurd (let m = two.0 in omega (arith, m, less))
  | inr (inr (inl three)) ↦ absurd (let m = three.0 in omega (arith, m, less))
  | inr (inr (inr four)) ↦ absurd (let m = four.0 in omega (arith, m, less))
]

high_at : (hay : List ℕ) (k m v : ℕ) → m ≡ k → slice_index hay m ≡ v → 128 ≤ v → 128 ≤ slice_index hay k
high_at hay k m v same is high = subst (λ n. 128 ≤ slice_index hay n) same (subst (λ n. 128 ≤ n) (sym is) high)

encoded_len : (c n : ℕ) (bs : List ℕ) → encode_utf8 c ≡ bs → length bs ≡ n → len_utf8 c ≡ n
encoded_len c n bs e l = sym (length-encode c) ∙ ap length e ∙ l

-- the bytes of a character beyond ASCII are beyond ASCII
high_byte :
    (hay : List ℕ) (i c k : ℕ) → char_at hay i ≡ Some c → 128 ≤ c → i ≤ k → k < i + len_utf8 c
    → 128 ≤ slice_index hay k
high_byte hay i c k there more low high = elim (char_at_cases hay i c there).1 [
  | inl one ↦ absurd (let l = one.0 in omega (arith, l, more))
  | inr (inl two) ↦
      (let n = encoded_len c 2 _ (encode_two c two.0 two.1) refl in
      ⊎_elim (λ (a : k < i + 1). high_at hay k i _ (omega (arith, a, low)) two.3 (omega arith))
      (λ (a : i + 1 ≤ k). high_at hay k (i + 1) _ (omega (arith, a, high, n)) two.4 (omega arith))
      (cases_lt k (i + 1)))
  | inr (inr (inl three)) ↦
      (let n = encoded_len c 3 _ (encode_three c three.0 three.1) refl in
      ⊎_elim (λ (a : k < i + 1). high_at hay k i _ (omega (arith, a, low)) three.3 (omega arith))
      (λ (a : i + 1 ≤ k). ⊎_elim
      (λ (b : k < i + 2). high_at hay k (i + 1) _ (omega (arith, a, b)) three.4 (omega arith))
      (λ (b : i + 2 ≤ k). high_at hay k (i + 2) _ (omega (arith, b, high, n)) three.5 (omega arith))
      (cases_lt k (i + 2))) (cases_lt k (i + 1)))
  | inr (inr (inr four)) ↦
      (let n = encoded_len c 4 _ (encode_four c four.0) refl in
      ⊎_elim (λ (a : k < i + 1). high_at hay k i _ (omega (arith, a, low)) four.2 (omega arith))
      (λ (a : i + 1 ≤ k). ⊎_elim
      (λ (b : k < i + 2). high_at hay k (i + 1) _ (omega (arith, a, b)) four.3 (omega arith))
      (λ (b : i + 2 ≤ k). ⊎_elim
      (λ (d : k < i + 3). high_at hay k (i + 2) _ (omega (arith, b, d)) four.4 (omega arith))
      (λ (d : i + 3 ≤ k). high_at hay k (i + 3) _ (omega (arith, d, high, n)) four.5 (omega arith))
      (cases_lt k (i + 3))) (cases_lt k (i + 2))) (cases_lt k (i + 1)))
]

-- the bytes at an offset, one by one
pub byte_there :
    (hay bs : List ℕ) (i k : ℕ) → drop i hay ≡ bs ++ drop (i + length bs) hay → k < length bs
    → slice_index hay (i + k) ≡ get_or bs k 0
byte_there hay bs i k e l =
    sym (get_or-drop i hay k 0) ∙ ap (λ v. get_or v k 0) e ∙ get_or_append_left bs (drop (i + length bs) hay) 0 k l

module _ (table : List Bool) where
  pub of_empty : ConsistsOf empty table
  of_empty hay bytes i j m k low high = absurd (omega (arith, m, low, high))

  pub of_look : (l : Look) → ConsistsOf (look l) table
  of_look l hay bytes i j m k low high = let e = m.1 in absurd (omega (arith, e, low, high))

  pub of_cat : (a b : Re) → ConsistsOf a table → ConsistsOf b table → ConsistsOf (cat a b) table
  of_cat a b s t hay bytes i j m k low high =
      ⊎_elim (λ (less : k < m.0). s hay bytes i m.0 m.1 k low less)
      (λ (more : m.0 ≤ k). t hay bytes m.0 j m.2 k more high) (cases_lt k m.0)

  pub of_alt : (a b : Re) → ConsistsOf a table → ConsistsOf b table → ConsistsOf (alt a b) table
  of_alt a b s t hay bytes i j (inl m) = s hay bytes i j m
  of_alt a b s t hay bytes i j (inr m) = t hay bytes i j m

  pub of_group : (n : ℕ) (a : Re) → ConsistsOf a table → ConsistsOf (group n a) table
  of_group n a s = s

  of_rounds :
      (a : Re) → ConsistsOf a table → (hay : List ℕ) → All (λ b. b < 256) hay → (i j : ℕ)
      → Rounds (Matches hay a) i j → HasOnlyBytesOf hay table i j
  of_rounds a s hay bytes i _ (one_round j r) = s hay bytes i j r
  of_rounds a s hay bytes i _ (next_round l j rs r) = λ k low high.
      ⊎_elim (λ (less : k < l). of_rounds a s hay bytes i l rs k low less)
      (λ (more : l ≤ k). s hay bytes l j r k more high) (cases_lt k l)

  pub of_plus : (g : Bool) (a : Re) → ConsistsOf a table → ConsistsOf (plus g a) table
  of_plus g a s hay bytes i j m = of_rounds a s hay bytes i j m

  of_optional : (g : Bool) (a : Re) → ConsistsOf a table → ConsistsOf (optional g a) table
  of_optional true a s = of_alt a empty s of_empty
  of_optional false a s = of_alt empty a of_empty s

  of_copies : (n : ℕ) (a b : Re) → ConsistsOf a table → ConsistsOf b table → ConsistsOf (copies n a b) table
  of_copies zero a b s t = t
  of_copies (suc n) a b s t = of_cat a (copies n a b) s (of_copies n a b s t)

  of_up_to : (g : Bool) (n : ℕ) (a : Re) → ConsistsOf a table → ConsistsOf (up_to g n a) table
  of_up_to g zero a s = of_empty
  of_up_to g (suc n) a s = of_optional g (cat a (up_to g n a)) (of_cat a (up_to g n a) s (of_up_to g n a s))

  of_at_least : (g : Bool) (n : ℕ) (a : Re) → ConsistsOf a table → ConsistsOf (at_least g n a) table
  of_at_least g zero a s = of_optional g (plus g a) (of_plus g a s)
  of_at_least g (suc n) a s = of_copies n a (plus g a) s (of_plus g a s)

  pub of_repeat :
      (least : ℕ) (most : Option ℕ) (g : Bool) (a : Re) → ConsistsOf a table → ConsistsOf (repeat least most g a) table
  unfolding repeat
  of_repeat least None g a s = of_at_least g least a s
  of_repeat least (Some most) g a s = of_copies least a (up_to g (most - least) a) s (of_up_to g (most - least) a s)

  pub of_cat_all : (res : List Re) → All (λ re. ConsistsOf re table) res → ConsistsOf (cat_all res) table
  of_cat_all [] s = of_empty
  of_cat_all (re ∷ res) s =
      of_cat re (cat_all res) (s 0 re (omega arith)) (of_cat_all res (λ i d l. s (suc i) d (omega (arith, l))))

  pub of_alt_all : (res : List Re) → All (λ re. ConsistsOf re table) res → ConsistsOf (alt_all res) table
  of_alt_all [] s = λ hay bytes i j m. absurd (no_range m.0 m.2)
  of_alt_all (re ∷ res) s =
      of_alt re (alt_all res) (s 0 re (omega arith)) (of_alt_all res (λ i d l. s (suc i) d (omega (arith, l))))

  pub of_literal : (bs : List ℕ) → All (λ b. in_table table b ≡ true) bs → ConsistsOf (literal bs) table
  of_literal bs s hay bytes i j m k low high =
      let n : ℕ = k - i in
      let short : n < length bs = let e = m.1 in omega (arith, e, low, high) in
      let at : i + n ≡ k = omega (arith, low) in
      subst (λ v. in_table table v ≡ true) (sym (byte_there hay bs i n (has_bytes_at_parts hay i bs m.0) short)
      ∙ ap (λ v. slice_index hay v) at) (s n 0 short)

  pub of_bytes : (rs : List (ℕ × ℕ)) → All (HasBytesInRange table) rs → ConsistsOf (byte_in rs) table
  of_bytes rs s hay bytes i j (b, there, isin, e) k low high =
      let at : k ≡ i = omega (arith, low, high, e) in
      let is : slice_index hay i ≡ b = get_or_from_slice_get hay i b 0 there in
      let w = in_some (HasBytesInRange table) rs b s isin in
      subst (λ v. in_table table v ≡ true) (sym is ∙ ap (slice_index hay) (sym at))
      (w.1 b w.2 w.3 (subst (λ v. v < 256) is (bytes i 0 (slice_get_within hay i b there))))

  pub of_chars : (rs : List (ℕ × ℕ)) → All (HasCharacters table) rs → ConsistsOf (char_in rs) table
  of_chars rs s hay bytes i j (c, there, isin, e) k low high =
      let w = in_some (HasCharacters table) rs c s isin in
      let upto : k < i + len_utf8 c = omega (arith, high, e) in
      ⊎_elim (λ (less : c < 128).
      let one : len_utf8 c ≡ 1 = len_utf8_ascii c less in
      let at : i ≡ k = omega (arith, low, upto, one) in
      subst (λ v. in_table table v ≡ true) (sym (ascii_byte hay i c there less) ∙ ap (slice_index hay) at)
      (w.1.ascii c w.2 w.3 less))
      (λ (more : 128 ≤ c).
      let inside : k < length hay = omega (arith, upto, char_at_fits hay i c there) in
      w.1.beyond (slice_index hay k) (let r = w.3 in omega (arith, more, r)) (high_byte hay i c k there more low upto)
      (bytes k 0 inside)) (cases_lt c 128)
