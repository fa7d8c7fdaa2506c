-- The first character of UTF-8, by its first byte.
use Rattle.std.proofs.Common.{ℕ, ◌≡◌, ◌+◌, ◌-◌, ◌*◌, ◌/◌, ◌<◌, ◌≤◌, ◌⊎◌, true, List, [], ◌∷◌, ◌++◌, IsUtf8, inl, inr}
use Rattle.std.proofs.Common.{refl, sym, ap, ◌∙◌, subst, arith, ⊎_elim, lt-ltb, le-ltb, le-leb}
use Rattle.std.proofs.lemmas.Bool.{cases_lt, and_parts}
use Rattle.std.proofs.lemmas.Str.{encode_ascii}
use lib.Utf8.{scalar, scalars, encode, encodes, next, low_scalar, scalar_cases}

one : (c : ℕ) → c < 128 → encode c ≡ c ∷ []
one c h = encode_ascii c h

two : (c : ℕ) → 128 ≤ c → c < 2048 → encode c ≡ (192 + c / 64) ∷ next c ∷ []
unfolding encode
two c l h = rw (le-ltb c 128 l, lt-ltb c 2048 h)

three : (c : ℕ) → 2048 ≤ c → c < 65536 → encode c ≡ (224 + c / 4096) ∷ next (c / 64) ∷ next c ∷ []
unfolding encode
three c l h = rw (le-ltb c 128 (omega arith), le-ltb c 2048 l, lt-ltb c 65536 h)

four : (c : ℕ) → 65536 ≤ c → encode c ≡ (240 + c / 262144) ∷ next (c / 4096) ∷ next (c / 64) ∷ next c ∷ []
unfolding encode
four c l = rw (le-ltb c 128 (omega arith), le-ltb c 2048 (omega arith), le-ltb c 65536 l)

high_scalar : (c : ℕ) → 57344 ≤ c → c < 1114112 → scalar c ≡ true
high_scalar c l h = rw (le-ltb c 55296 (omega arith), le-leb 57344 c l, lt-ltb c 1114112 h)

-- A continuation byte.
abbrev pub IsNext : ℕ → Type 0
IsNext u = (128 ≤ u) × (u < 192)

-- What the second byte of three and of four has to satisfy, given the first.
abbrev pub Fits3 : ℕ → ℕ → Type 0
Fits3 u y = ((224 < u) ⊎ (160 ≤ y)) × ((u < 237) ⊎ ((237 < u) ⊎ (y < 160)))

abbrev pub Fits4 : ℕ → ℕ → Type 0
Fits4 u y = ((240 < u) ⊎ (144 ≤ y)) × ((u < 244) ⊎ (y < 144))

pub data Lead (u : ℕ) (us : List ℕ) : Type 0 where
  of1 : u < 128 → IsUtf8 us → Lead u us
  of2 : (y : ℕ) (rest : List ℕ) → 194 ≤ u → u < 224 → IsNext y → us ≡ y ∷ rest → IsUtf8 rest → Lead u us
  of3 :
      (y z : ℕ) (rest : List ℕ) → 224 ≤ u → u < 240 → IsNext y → IsNext z → Fits3 u y → us ≡ y ∷ z ∷ rest → IsUtf8 rest
      → Lead u us
  of4 : (y z w : ℕ) (rest : List ℕ) → 240 ≤ u → u < 245 → IsNext y → IsNext z → IsNext w → Fits4 u y
      → us ≡ y ∷ z ∷ w ∷ rest → IsUtf8 rest → Lead u us

abbrev head : List ℕ → ℕ
head [] = 0
head (x ∷ xs) = x

abbrev tail : List ℕ → List ℕ
tail [] = []
tail (x ∷ xs) = xs

follows : (x : ℕ) → IsNext (next x)
follows x = (omega arith, omega arith)

-- Text that begins with the encoding of a scalar value.
module _ (c u : ℕ) (rest us : List ℕ) (utf8 : IsUtf8 rest) (e : encode c ++ rest ≡ u ∷ us) where
  lead1 : c < 128 → Lead u us
  lead1 h =
      let all : c ∷ rest ≡ u ∷ us = ap (λ p. p ++ rest) (sym (one c h)) ∙ e in
      of1 (let x : c ≡ u = ap head all in omega arith) (subst IsUtf8 (ap tail all) utf8)

  lead2 : 128 ≤ c → c < 2048 → Lead u us
  lead2 l h =
      let all : (192 + c / 64) ∷ next c ∷ rest ≡ u ∷ us = ap (λ p. p ++ rest) (sym (two c l h)) ∙ e in
      let x : 192 + c / 64 ≡ u = ap head all in
      of2 (next c) rest (omega arith) (omega arith) (follows c) (sym (ap tail all)) utf8

  lead3 : 2048 ≤ c → c < 65536 → (c < 55296) ⊎ ((57344 ≤ c) × (c < 1114112)) → Lead u us
  lead3 l h s =
      let all : (224 + c / 4096) ∷ next (c / 64) ∷ next c ∷ rest ≡ u ∷ us =
      ap (λ p. p ++ rest) (sym (three c l h)) ∙ e in
      let x : 224 + c / 4096 ≡ u = ap head all in
      of3 (next (c / 64)) (next c) rest (omega arith) (omega arith) (follows (c / 64)) (follows c) (least x, most x s)
      (sym (ap tail all)) utf8
    where
      least : 224 + c / 4096 ≡ u → (224 < u) ⊎ (160 ≤ next (c / 64))
      least x = ⊎_elim (λ (k : c < 4096). inr (omega arith)) (λ (k : 4096 ≤ c). inl (omega arith)) (cases_lt c 4096)

      most :
          224 + c / 4096 ≡ u → (c < 55296) ⊎ ((57344 ≤ c) × (c < 1114112)) → (u < 237)
          ⊎ ((237 < u) ⊎ (next (c / 64) < 160))
      most x (inr k) = inr (inl (omega (arith, x, k.0)))
      most x (inl k) =
          ⊎_elim (λ (m : c < 53248). inl (omega arith)) (λ (m : 53248 ≤ c). inr (inr (omega arith))) (cases_lt c 53248)

  lead4 : 65536 ≤ c → c < 1114112 → Lead u us
  lead4 l h =
      let all : (240 + c / 262144) ∷ next (c / 4096) ∷ next (c / 64) ∷ next c ∷ rest ≡ u ∷ us =
      ap (λ p. p ++ rest) (sym (four c l)) ∙ e in
      let x : 240 + c / 262144 ≡ u = ap head all in
      of4 (next (c / 4096)) (next (c / 64)) (next c) rest (omega arith) (omega arith) (follows (c / 4096))
      (follows (c / 64)) (follows c)
      (least x, most x) (sym (ap tail all)) utf8
    where
      least : 240 + c / 262144 ≡ u → (240 < u) ⊎ (144 ≤ next (c / 4096))
      least x =
          ⊎_elim (λ (k : c < 262144). inr (omega arith)) (λ (k : 262144 ≤ c). inl (omega arith)) (cases_lt c 262144)

      most : 240 + c / 262144 ≡ u → (u < 244) ⊎ (next (c / 4096) < 144)
      most x =
          ⊎_elim (λ (m : c < 1048576). inl (omega arith)) (λ (m : 1048576 ≤ c). inr (omega arith)) (cases_lt c 1048576)

  lead_of : (c < 55296) ⊎ ((57344 ≤ c) × (c < 1114112)) → Lead u us
  lead_of s = go (cases_lt c 128) (cases_lt c 2048) (cases_lt c 65536)
    where
      top : (c < 55296) ⊎ ((57344 ≤ c) × (c < 1114112)) → c < 1114112
      top (inl k) = omega arith
      top (inr k) = k.1

      go : (c < 128) ⊎ (128 ≤ c) → (c < 2048) ⊎ (2048 ≤ c) → (c < 65536) ⊎ (65536 ≤ c) → Lead u us
      go (inl h) i j = lead1 h
      go (inr l) (inl h) j = lead2 l h
      go (inr l) (inr m) (inl h) = lead3 m h s
      go (inr l) (inr m) (inr n) = lead4 n (top s)

nil_cons : (u : ℕ) (us : List ℕ) → [] ≡ u ∷ us → ⊥
nil_cons u us e = cc

pub lead : (u : ℕ) (us : List ℕ) → IsUtf8 (u ∷ us) → Lead u us
lead u us h = go h.0 h.1.0 h.1.1
  where
    go : (cs : List ℕ) → scalars cs ≡ true → encodes cs ≡ u ∷ us → Lead u us
    go [] ok e = absurd (nil_cons u us e)
    go (c ∷ cs) ok e =
        let p = and_parts (scalar c) (scalars cs) ok in
        lead_of c u (encodes cs) us (cs, (p.1, refl)) e (scalar_cases c p.0)

-- The encoding of a character followed by UTF-8 is UTF-8.
cons : (c : ℕ) (front bs : List ℕ) → scalar c ≡ true → encode c ≡ front → IsUtf8 bs → IsUtf8 (front ++ bs)
cons c front bs ok e u = (c ∷ u.0, (rw ok u.1.0, λ i. e i ++ u.1.1 i))

pub cons_one : (x : ℕ) (bs : List ℕ) → x < 128 → IsUtf8 bs → IsUtf8 (x ∷ bs)
cons_one x bs h = cons x (x ∷ []) bs (low_scalar x (omega arith)) (one x h)

pub cons_two : (x y : ℕ) (bs : List ℕ) → 194 ≤ x → x < 224 → IsNext y → IsUtf8 bs → IsUtf8 (x ∷ y ∷ bs)
cons_two x y bs l h f =
    let c = (x - 192) * 64 + (y - 128) in
    let p : 192 + c / 64 ≡ x = omega arith in
    let q : next c ≡ y = omega arith in
    cons c (x ∷ y ∷ []) bs (low_scalar c (omega arith)) (two c (omega arith) (omega arith) ∙ (λ k. p k ∷ q k ∷ []))

three_bytes : (x y z : ℕ) → 224 ≤ x → IsNext y → IsNext z
    → let c = (x - 224) * 4096 + (y - 128) * 64 + (z - 128) in (224 + c / 4096 ≡ x) × (next (c / 64) ≡ y) × (next c ≡ z)
three_bytes x y z h f g = (omega arith, omega arith, omega arith)

four_bytes : (x y z w : ℕ) → 240 ≤ x → IsNext y → IsNext z → IsNext w
    → let c = (x - 240) * 262144 + (y - 128) * 4096 + (z - 128) * 64 + (w - 128) in
    (240 + c / 262144 ≡ x) × (next (c / 4096) ≡ y) × (next (c / 64) ≡ z) × (next c ≡ w)
four_bytes x y z w h f g j =
    let e : ((x - 240) * 262144 + (y - 128) * 4096 + (z - 128) * 64 + (w - 128)) / 64 ≡ (x - 240) * 4096
    + (y - 128) * 64 + (z - 128) = omega arith in
    (omega arith, omega arith, rw e (omega arith), omega arith)

pub cons_three :
    (x y z : ℕ) (bs : List ℕ) → 224 ≤ x → x < 240 → IsNext y → IsNext z → Fits3 x y → IsUtf8 bs
    → IsUtf8 (x ∷ y ∷ z ∷ bs)
cons_three x y z bs l h f g n =
    let c = (x - 224) * 4096 + (y - 128) * 64 + (z - 128) in
    let bytes = three_bytes x y z l f g in
    let p = bytes.0 in
    let q = bytes.1 in
    let r = bytes.2 in
    let ok : scalar c ≡ true =
    ⊎_elim (λ (a : c < 55296). low_scalar c a) (λ (a : 55296 ≤ c). high_scalar c (omega arith) (omega arith))
    (cases_lt c 55296) in
    cons c (x ∷ y ∷ z ∷ []) bs ok (three c (omega arith) (omega arith) ∙ (λ k. p k ∷ q k ∷ r k ∷ []))

pub cons_four :
    (x y z w : ℕ) (bs : List ℕ) → 240 ≤ x → x < 245 → IsNext y → IsNext z → IsNext w → Fits4 x y → IsUtf8 bs
    → IsUtf8 (x ∷ y ∷ z ∷ w ∷ bs)
cons_four x y z w bs l h f g j n =
    let c = (x - 240) * 262144 + (y - 128) * 4096 + (z - 128) * 64 + (w - 128) in
    let bytes = four_bytes x y z w l f g j in
    let p = bytes.0 in
    let q = bytes.1 in
    let r = bytes.2 in
    let t = bytes.3 in
    cons c (x ∷ y ∷ z ∷ w ∷ []) bs (high_scalar c (omega arith) (omega arith))
    (four c (omega arith) ∙ (λ k. p k ∷ q k ∷ r k ∷ t k ∷ []))
