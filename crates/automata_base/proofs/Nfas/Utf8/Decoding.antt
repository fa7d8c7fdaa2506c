-- Classes that pass a test decode UTF-8.
use Rattle.std.proofs.Common.{ℕ, zero, suc, ◌≡◌, ◌+◌, ◌<◌, ◌≤◌, ◌⊎◌, ◌↔◌, Bool, true, false, cond, ◌&&◌, ◌||◌, leb, ltb}
use Rattle.std.proofs.Common.{eqb, List, [], ◌∷◌, get_or, IsUtf8, inl, inr, refl, sym, subst, arith}
use Rattle.std.proofs.lemmas.Bool.{and_parts, or_cases, leb-true, leb-false, ltb-true, eqb-true, true≢false}
use Rattle.std.proofs.lemmas.Str.{IsUtf8-nil}
use Rattle.automata_base.specs.declared.nfa.thompson.utf8.Class.{Class}
use Rattle.automata_base.specs.Retraced.Decoders.{classes_below}
use Rattle.automata_base.proofs.Nfas.Utf8.Decoder.{step, decode}
use Rattle.automata_base.specs.Lists.{all_below}
use Rattle.automata_base.proofs.Nfas.Utf8.Adding.{entry_below}
use Rattle.automata_base.proofs.Nfas.Utf8.Chars.{IsNext, Lead, of1, of2, of3, of4, lead, cons_one, cons_two, cons_three}
use Rattle.automata_base.proofs.Nfas.Utf8.Chars.{cons_four}

-- The first byte is within these bounds, and `P` holds for the others.
abbrev pub Next : (lo hi : ℕ) → (List ℕ → Type 0) → List ℕ → Type 0
Next lo hi P [] = ⊥
Next lo hi P (u ∷ us) = (lo ≤ u) × (u ≤ hi) × P us

-- What may follow in each state of the decoder: any text; nothing; one, two or three continuation bytes and then any
-- text; the same after 0xE0, 0xED, 0xF0 and 0xF4.
abbrev pub Completes : ℕ → List ℕ → Type 0
Completes zero us = IsUtf8 us
Completes (suc zero) us = ⊥
Completes (suc (suc zero)) us = Next 128 191 IsUtf8 us
Completes (suc (suc (suc zero))) us = Next 128 191 (Next 128 191 IsUtf8) us
Completes (suc (suc (suc (suc zero)))) us = Next 128 191 (Next 128 191 (Next 128 191 IsUtf8)) us
Completes (suc (suc (suc (suc (suc zero))))) us = Next 160 191 (Next 128 191 IsUtf8) us
Completes (suc (suc (suc (suc (suc (suc zero)))))) us = Next 128 159 (Next 128 191 IsUtf8) us
Completes (suc (suc (suc (suc (suc (suc (suc zero))))))) us = Next 144 191 (Next 128 191 (Next 128 191 IsUtf8)) us
Completes (suc (suc (suc (suc (suc (suc (suc (suc zero)))))))) us = Next 128 143 (Next 128 191 (Next 128 191 IsUtf8)) us
Completes (suc (suc (suc (suc (suc (suc (suc (suc (suc n))))))))) us = ⊥

-- The classes cover the bytes from `low` to 255, and each byte leads to the right state.
abbrev pub Rows : ℕ → ℕ → List Class → Type 0
Rows s low [] = 256 ≤ low
Rows s low (c ∷ cs) =
    ((u : ℕ) (us : List ℕ) → low ≤ u → u ≤ c.last → Completes s (u ∷ us) ↔ Completes (get_or c.to s 0) us)
    × Rows s (c.last + 1) cs

pub rows_step :
    (s low : ℕ) (cs : List Class) (u : ℕ) (us : List ℕ) → Rows s low cs → low ≤ u → u < 256
    → Completes s (u ∷ us) ↔ Completes (step cs s u) us
rows_step s low [] u us rows l h = absurd (omega (arith, rows, l, h))
rows_step s low (c ∷ cs) u us rows l h = go (leb u c.last) refl (λ k. rows_step s (c.last + 1) cs u us rows.1 k h)
  where
    go :
        (b : Bool) → leb u c.last ≡ b → (c.last + 1 ≤ u → Completes s (u ∷ us) ↔ Completes (step cs s u) us)
        → Completes s (u ∷ us) ↔ Completes (cond b (get_or c.to s 0) (step cs s u)) us
    go true e ih = rows.0 u us l (leb-true u c.last e)
    go false e ih = ih (let k : c.last < u = leb-false u c.last e in omega arith)

-- Tests of a class that begins at `low`: inside or outside the bounds of a state; for the failed state; for the bytes
-- that begin a character.
abbrev fits : (lo hi target s low : ℕ) → Class → Bool
fits lo hi target s low c =
    (leb lo low && (leb c.last hi && eqb (get_or c.to s 0) target))
    || ((ltb c.last lo || ltb hi low) && eqb (get_or c.to s 0) 1)

abbrev all_fit : (lo hi target s low : ℕ) → List Class → Bool
all_fit lo hi target s low [] = leb 256 low
all_fit lo hi target s low (c ∷ cs) = fits lo hi target s low c && all_fit lo hi target s (c.last + 1) cs

abbrev all_fail : (s low : ℕ) → List Class → Bool
all_fail s low [] = leb 256 low
all_fail s low (c ∷ cs) = eqb (get_or c.to s 0) 1 && all_fail s (c.last + 1) cs

-- A range of bytes that begin a character, and the state to which they lead.
record Kind : Type 0 where
  lo : ℕ
  hi : ℕ
  to : ℕ

abbrev kinds : List Kind
kinds =
    record { lo = 0; hi = 127; to = 0 } ∷ record { lo = 128; hi = 193; to = 1 } ∷ record { lo = 194; hi = 223; to = 2 }
    ∷ record { lo = 224; hi = 224; to = 5 } ∷ record { lo = 225; hi = 236; to = 3 }
    ∷ record { lo = 237; hi = 237; to = 6 }
    ∷ record { lo = 238; hi = 239; to = 3 } ∷ record { lo = 240; hi = 240; to = 7 }
    ∷ record { lo = 241; hi = 243; to = 4 }
    ∷ record { lo = 244; hi = 244; to = 8 } ∷ record { lo = 245; hi = 255; to = 1 } ∷ []

abbrev is_kind : (low last to : ℕ) → List Kind → Bool
is_kind low last to [] = false
is_kind low last to (k ∷ ks) = (leb k.lo low && (leb last k.hi && eqb to k.to)) || is_kind low last to ks

abbrev all_kinds : ℕ → List Class → Bool
all_kinds low [] = leb 256 low
all_kinds low (c ∷ cs) = is_kind low c.last (get_or c.to 0 0) kinds && all_kinds (c.last + 1) cs

abbrev pub decodes_utf8 : List Class → Bool
decodes_utf8 cs =
    classes_below cs && (all_kinds 0 cs && (all_fail 1 0 cs && (all_fit 128 191 0 2 0 cs && (all_fit 128 191 2 3 0 cs
    && (all_fit 128 191 3 4 0 cs && (all_fit 160 191 2 5 0 cs && (all_fit 128 159 2 6 0 cs && (all_fit 144 191 3 7 0 cs
    && (all_fit 128 143 3 8 0 cs && (all_fail 9 0 cs && all_fail 10 0 cs))))))))))

-- What the tests show.
rows_fail :
    (s low : ℕ) (cs : List Class) → ((us : List ℕ) → Completes s us → ⊥) → all_fail s low cs ≡ true → Rows s low cs
rows_fail s low [] none e = leb-true 256 low e
rows_fail s low (c ∷ cs) none e =
    let p = and_parts (eqb (get_or c.to s 0) 1) (all_fail s (c.last + 1) cs) e in
    (row p.0, rows_fail s (c.last + 1) cs none p.1)
  where
    row :
        eqb (get_or c.to s 0) 1 ≡ true → (u : ℕ) (us : List ℕ) → low ≤ u → u ≤ c.last
        → Completes s (u ∷ us) ↔ Completes (get_or c.to s 0) us
    row t u us l h =
        (λ k. absurd (none (u ∷ us) k), λ k. absurd (subst (λ z. Completes z us) (eqb-true (get_or c.to s 0) 1 t) k))

module _ (lo hi target s : ℕ)
    (is : (u : ℕ) (us : List ℕ) → Completes s (u ∷ us) ↔ Next lo hi (Completes target) (u ∷ us)) where
  row_fits :
      (low : ℕ) (c : Class) → fits lo hi target s low c ≡ true → (u : ℕ) (us : List ℕ) → low ≤ u → u ≤ c.last
      → Completes s (u ∷ us) ↔ Completes (get_or c.to s 0) us
  row_fits low c e u us l h =
      go (or_cases (leb lo low && (leb c.last hi && eqb (get_or c.to s 0) target))
      ((ltb c.last lo || ltb hi low) && eqb (get_or c.to s 0) 1) e)
    where
      inside : leb lo low ≡ true → leb c.last hi ≡ true → eqb (get_or c.to s 0) target ≡ true
          → Completes s (u ∷ us) ↔ Completes (get_or c.to s 0) us
      inside a b t =
          let la : lo ≤ low = leb-true lo low a in
          let lb : c.last ≤ hi = leb-true c.last hi b in
          let same : get_or c.to s 0 ≡ target = eqb-true (get_or c.to s 0) target t in (
            λ k. subst (λ z. Completes z us) (sym same) ((is u us).0 k).2,
            λ k. (is u us).1 (omega (arith, la, l), omega (arith, lb, h), subst (λ z. Completes z us) same k),
          )

      beyond : (ltb c.last lo ≡ true) ⊎ (ltb hi low ≡ true) → Next lo hi (Completes target) (u ∷ us) → ⊥
      beyond (inl a) k = let la : c.last < lo = ltb-true c.last lo a in let x = k.0 in omega (arith, la, h, x)
      beyond (inr a) k = let la : hi < low = ltb-true hi low a in let x = k.1 in omega (arith, la, l, x)

      outside : (ltb c.last lo || ltb hi low) ≡ true → eqb (get_or c.to s 0) 1 ≡ true
          → Completes s (u ∷ us) ↔ Completes (get_or c.to s 0) us
      outside a t = (
        λ k. absurd (beyond (or_cases (ltb c.last lo) (ltb hi low) a) ((is u us).0 k)),
        λ k. absurd (subst (λ z. Completes z us) (eqb-true (get_or c.to s 0) 1 t) k),
      )

      go : ((leb lo low && (leb c.last hi && eqb (get_or c.to s 0) target)) ≡ true)
          ⊎ (((ltb c.last lo || ltb hi low) && eqb (get_or c.to s 0) 1) ≡ true)
          → Completes s (u ∷ us) ↔ Completes (get_or c.to s 0) us
      go (inl t) =
          let p = and_parts (leb lo low) (leb c.last hi && eqb (get_or c.to s 0) target) t in
          let q = and_parts (leb c.last hi) (eqb (get_or c.to s 0) target) p.1 in
          inside p.0 q.0 q.1
      go (inr t) =
          let p = and_parts (ltb c.last lo || ltb hi low) (eqb (get_or c.to s 0) 1) t in
          outside p.0 p.1

  rows_fit : (low : ℕ) (cs : List Class) → all_fit lo hi target s low cs ≡ true → Rows s low cs
  rows_fit low [] e = leb-true 256 low e
  rows_fit low (c ∷ cs) e =
      let p = and_parts (fits lo hi target s low c) (all_fit lo hi target s (c.last + 1) cs) e in
      (row_fits low c p.0, rows_fit (c.last + 1) cs p.1)

-- Each kind of first byte leads to the right state.
abbrev IsRight : Kind → Type 0
IsRight k = (u : ℕ) (us : List ℕ) → k.lo ≤ u → u ≤ k.hi → IsUtf8 (u ∷ us) ↔ Completes k.to us

abbrev AreRight : List Kind → Type 0
AreRight [] = Unit {0}
AreRight (k ∷ ks) = IsRight k × AreRight ks

ascii : IsRight (record { lo = 0; hi = 127; to = 0 })
ascii u us l h = (λ k. go (lead u us k), λ k. cons_one u us (omega (arith, h)) k)
  where
    go : Lead u us → IsUtf8 us
    go (of1 a k) = k
    go (of2 y rest a b f e k) = absurd (omega (arith, a, h))
    go (of3 y z rest a b f g n e k) = absurd (omega (arith, a, h))
    go (of4 y z w rest a b f g j n e k) = absurd (omega (arith, a, h))

none : (u : ℕ) (us : List ℕ) → 128 ≤ u → (u < 194) ⊎ (245 ≤ u) → IsUtf8 (u ∷ us) → ⊥
none u us l h k = go (lead u us k) h
  where
    go : Lead u us → (u < 194) ⊎ (245 ≤ u) → ⊥
    go (of1 a k) h = omega (arith, a, l)
    go (of2 y rest a b f e k) h = omega (arith, a, b, h)
    go (of3 y z rest a b f g n e k) h = omega (arith, a, b, h)
    go (of4 y z w rest a b f g j n e k) h = omega (arith, a, b, h)

two : IsRight (record { lo = 194; hi = 223; to = 2 })
two u us l h = (λ k. go (lead u us k), back us)
  where
    go : Lead u us → Next 128 191 IsUtf8 us
    go (of1 a k) = absurd (omega (arith, a, l))
    go (of2 y rest a b f e k) = subst (Next 128 191 IsUtf8) (sym e) (f.0, omega (arith, f.1), k)
    go (of3 y z rest a b f g n e k) = absurd (omega (arith, a, h))
    go (of4 y z w rest a b f g j n e k) = absurd (omega (arith, a, h))

    back : (us : List ℕ) → Next 128 191 IsUtf8 us → IsUtf8 (u ∷ us)
    back [] k = absurd k
    back (y ∷ us) k = cons_two u y us l (omega (arith, h)) (k.0, omega (arith, k.1)) k.2

-- The first of three bytes, with the bounds that it sets for the second.
three : (lo hi u : ℕ) → 224 ≤ u → u < 240 → 128 ≤ lo → hi ≤ 191
    → ((y : ℕ) → IsNext y → ((224 < u) ⊎ (160 ≤ y)) × ((u < 237) ⊎ ((237 < u) ⊎ (y < 160))) → (lo ≤ y) × (y ≤ hi))
    → ((y : ℕ) → lo ≤ y → y ≤ hi → ((224 < u) ⊎ (160 ≤ y)) × ((u < 237) ⊎ ((237 < u) ⊎ (y < 160))))
    → (us : List ℕ) → IsUtf8 (u ∷ us) ↔ Next lo hi (Next 128 191 IsUtf8) us
three lo hi u l h low high inside outside us = (λ k. go (lead u us k), back us)
  where
    go : Lead u us → Next lo hi (Next 128 191 IsUtf8) us
    go (of1 a k) = absurd (omega (arith, a, l))
    go (of2 y rest a b f e k) = absurd (omega (arith, b, l))
    go (of3 y z rest a b f g n e k) =
        let w = inside y f n in
        subst (Next lo hi (Next 128 191 IsUtf8)) (sym e) (w.0, w.1, (g.0, omega (arith, g.1), k))
    go (of4 y z w rest a b f g j n e k) = absurd (omega (arith, a, h))

    back : (us : List ℕ) → Next lo hi (Next 128 191 IsUtf8) us → IsUtf8 (u ∷ us)
    back [] k = absurd k
    back (y ∷ []) k = absurd k.2
    back (y ∷ z ∷ us) k =
        cons_three u y z us l h (omega (arith, k.0, low), omega (arith, k.1, high)) (k.2.0, omega (arith, k.2.1))
        (outside y k.0 k.1) k.2.2

-- The first of four bytes.
four : (lo hi u : ℕ) → 240 ≤ u → u < 245 → 128 ≤ lo → hi ≤ 191
    → ((y : ℕ) → IsNext y → ((240 < u) ⊎ (144 ≤ y)) × ((u < 244) ⊎ (y < 144)) → (lo ≤ y) × (y ≤ hi))
    → ((y : ℕ) → lo ≤ y → y ≤ hi → ((240 < u) ⊎ (144 ≤ y)) × ((u < 244) ⊎ (y < 144)))
    → (us : List ℕ) → IsUtf8 (u ∷ us) ↔ Next lo hi (Next 128 191 (Next 128 191 IsUtf8)) us
four lo hi u l h low high inside outside us = (λ k. go (lead u us k), back us)
  where
    go : Lead u us → Next lo hi (Next 128 191 (Next 128 191 IsUtf8)) us
    go (of1 a k) = absurd (omega (arith, a, l))
    go (of2 y rest a b f e k) = absurd (omega (arith, b, l))
    go (of3 y z rest a b f g n e k) = absurd (omega (arith, b, l))
    go (of4 y z w rest a b f g j n e k) =
        let v = inside y f n in
        subst (Next lo hi (Next 128 191 (Next 128 191 IsUtf8))) (sym e)
        (v.0, v.1, (g.0, omega (arith, g.1), (j.0, omega (arith, j.1), k)))

    back : (us : List ℕ) → Next lo hi (Next 128 191 (Next 128 191 IsUtf8)) us → IsUtf8 (u ∷ us)
    back [] k = absurd k
    back (y ∷ []) k = absurd k.2
    back (y ∷ z ∷ []) k = absurd k.2.2
    back (y ∷ z ∷ w ∷ us) k =
        cons_four u y z w us l h (omega (arith, k.0, low), omega (arith, k.1, high)) (k.2.0, omega (arith, k.2.1))
        (k.2.2.0, omega (arith, k.2.2.1)) (outside y k.0 k.1) k.2.2.2

right_none : IsRight (record { lo = 128; hi = 193; to = 1 })
right_none u us l h = (λ k. absurd (none u us l (inl (omega (arith, h))) k), λ k. absurd k)

right_e0 : IsRight (record { lo = 224; hi = 224; to = 5 })
right_e0 u us l h =
    three 160 191 u l (omega (arith, h)) (omega arith) (omega arith)
    (λ y f n. (omega (arith, h, n.0), omega (arith, f.1))) (λ y a b. (inr a, inl (omega (arith, h)))) us

right_three : IsRight (record { lo = 225; hi = 236; to = 3 })
right_three u us l h =
    three 128 191 u (omega (arith, l)) (omega (arith, h)) (omega arith) (omega arith)
    (λ y f n. (f.0, omega (arith, f.1))) (λ y a b. (inl (omega (arith, l)), inl (omega (arith, h)))) us

right_ed : IsRight (record { lo = 237; hi = 237; to = 6 })
right_ed u us l h =
    three 128 159 u (omega (arith, l)) (omega (arith, h)) (omega arith) (omega arith)
    (λ y f n. (f.0, omega (arith, l, h, n.1))) (λ y a b. (inl (omega (arith, l)), inr (inr (omega (arith, b))))) us

right_last3 : IsRight (record { lo = 238; hi = 239; to = 3 })
right_last3 u us l h =
    three 128 191 u (omega (arith, l)) (omega (arith, h)) (omega arith) (omega arith)
    (λ y f n. (f.0, omega (arith, f.1))) (λ y a b. (inl (omega (arith, l)), inr (inl (omega (arith, l))))) us

right_f0 : IsRight (record { lo = 240; hi = 240; to = 7 })
right_f0 u us l h =
    four 144 191 u l (omega (arith, h)) (omega arith) (omega arith)
    (λ y f n. (omega (arith, h, n.0), omega (arith, f.1))) (λ y a b. (inr a, inl (omega (arith, h)))) us

right_four : IsRight (record { lo = 241; hi = 243; to = 4 })
right_four u us l h =
    four 128 191 u (omega (arith, l)) (omega (arith, h)) (omega arith) (omega arith)
    (λ y f n. (f.0, omega (arith, f.1))) (λ y a b. (inl (omega (arith, l)), inl (omega (arith, h)))) us

right_f4 : IsRight (record { lo = 244; hi = 244; to = 8 })
right_f4 u us l h =
    four 128 143 u (omega (arith, l)) (omega (arith, h)) (omega arith) (omega arith)
    (λ y f n. (f.0, omega (arith, l, n.1))) (λ y a b. (inl (omega (arith, l)), inr (omega (arith, b)))) us

right_past : IsRight (record { lo = 245; hi = 255; to = 1 })
right_past u us l h = (λ k. absurd (none u us (omega (arith, l)) (inr l) k), λ k. absurd k)

are_right : AreRight kinds
are_right = (
  ascii,
  (
    right_none,
    (
      two,
      (
        right_e0,
        (right_three, (right_ed, (right_last3, (right_f0, (right_four, (right_f4, (right_past, tt))))))),
      ),
    ),
  ),
)

row_kind :
    (ks : List Kind) (low : ℕ) (c : Class) → AreRight ks → is_kind low c.last (get_or c.to 0 0) ks ≡ true
    → (u : ℕ) (us : List ℕ) → low ≤ u → u ≤ c.last → IsUtf8 (u ∷ us) ↔ Completes (get_or c.to 0 0) us
row_kind [] low c right e u us l h = absurd (true≢false (sym e))
row_kind (k ∷ ks) low c right e u us l h =
    go (or_cases (leb k.lo low && (leb c.last k.hi && eqb (get_or c.to 0 0) k.to))
    (is_kind low c.last (get_or c.to 0 0) ks) e)
    (λ t. row_kind ks low c right.1 t u us l h)
  where
    go :
        ((leb k.lo low && (leb c.last k.hi && eqb (get_or c.to 0 0) k.to)) ≡ true)
        ⊎ (is_kind low c.last (get_or c.to 0 0) ks ≡ true)
        → (is_kind low c.last (get_or c.to 0 0) ks ≡ true → IsUtf8 (u ∷ us) ↔ Completes (get_or c.to 0 0) us)
        → IsUtf8 (u ∷ us) ↔ Completes (get_or c.to 0 0) us
    go (inr t) ih = ih t
    go (inl t) ih =
        let p = and_parts (leb k.lo low) (leb c.last k.hi && eqb (get_or c.to 0 0) k.to) t in
        let q = and_parts (leb c.last k.hi) (eqb (get_or c.to 0 0) k.to) p.1 in
        let la : k.lo ≤ low = leb-true k.lo low p.0 in
        let lb : c.last ≤ k.hi = leb-true c.last k.hi q.0 in
        subst (λ z. IsUtf8 (u ∷ us) ↔ Completes z us) (sym (eqb-true (get_or c.to 0 0) k.to q.1))
        (right.0 u us (omega (arith, la, l)) (omega (arith, lb, h)))

rows_kinds : (low : ℕ) (cs : List Class) → all_kinds low cs ≡ true → Rows 0 low cs
rows_kinds low [] e = leb-true 256 low e
rows_kinds low (c ∷ cs) e =
    let p = and_parts (is_kind low c.last (get_or c.to 0 0) kinds) (all_kinds (c.last + 1) cs) e in
    (row_kind kinds low c are_right p.0, rows_kinds (c.last + 1) cs p.1)

module _ (cs : List Class) (test : decodes_utf8 cs ≡ true) where
  pub below : classes_below cs ≡ true
  below = (and_parts (classes_below cs) _ test).0

  rows : (s : ℕ) → s < 11 → Rows s 0 cs
  rows s l =
      let t0 = and_parts (classes_below cs) _ test in
      let t1 = and_parts (all_kinds 0 cs) _ t0.1 in
      let t2 = and_parts (all_fail 1 0 cs) _ t1.1 in
      let t3 = and_parts (all_fit 128 191 0 2 0 cs) _ t2.1 in
      let t4 = and_parts (all_fit 128 191 2 3 0 cs) _ t3.1 in
      let t5 = and_parts (all_fit 128 191 3 4 0 cs) _ t4.1 in
      let t6 = and_parts (all_fit 160 191 2 5 0 cs) _ t5.1 in
      let t7 = and_parts (all_fit 128 159 2 6 0 cs) _ t6.1 in
      let t8 = and_parts (all_fit 144 191 3 7 0 cs) _ t7.1 in
      let t9 = and_parts (all_fit 128 143 3 8 0 cs) _ t8.1 in
      let t10 = and_parts (all_fail 9 0 cs) (all_fail 10 0 cs) t9.1 in
      go s l
      (rows_kinds 0 cs t1.0) (rows_fail 1 0 cs (λ us k. k) t2.0)
      (rows_fit 128 191 0 2 (λ u us. (λ k. k, λ k. k)) 0 cs t3.0)
      (rows_fit 128 191 2 3 (λ u us. (λ k. k, λ k. k)) 0 cs t4.0)
      (rows_fit 128 191 3 4 (λ u us. (λ k. k, λ k. k)) 0 cs t5.0)
      (rows_fit 160 191 2 5 (λ u us. (λ k. k, λ k. k)) 0 cs t6.0)
      (rows_fit 128 159 2 6 (λ u us. (λ k. k, λ k. k)) 0 cs t7.0)
      (rows_fit 144 191 3 7 (λ u us. (λ k. k, λ k. k)) 0 cs t8.0)
      (rows_fit 128 143 3 8 (λ u us. (λ k. k, λ k. k)) 0 cs t9.0)
      (rows_fail 9 0 cs (λ us k. k) t10.0) (rows_fail 10 0 cs (λ us k. k) t10.1)
    where
      go :
          (s : ℕ) → s < 11 → Rows 0 0 cs → Rows 1 0 cs → Rows 2 0 cs → Rows 3 0 cs → Rows 4 0 cs → Rows 5 0 cs
          → Rows 6 0 cs
          → Rows 7 0 cs → Rows 8 0 cs → Rows 9 0 cs → Rows 10 0 cs → Rows s 0 cs
      go zero l a b c d e f g h i j k = a
      go (suc zero) l a b c d e f g h i j k = b
      go (suc (suc zero)) l a b c d e f g h i j k = c
      go (suc (suc (suc zero))) l a b c d e f g h i j k = d
      go (suc (suc (suc (suc zero)))) l a b c d e f g h i j k = e
      go (suc (suc (suc (suc (suc zero))))) l a b c d e f g h i j k = f
      go (suc (suc (suc (suc (suc (suc zero)))))) l a b c d e f g h i j k = g
      go (suc (suc (suc (suc (suc (suc (suc zero))))))) l a b c d e f g h i j k = h
      go (suc (suc (suc (suc (suc (suc (suc (suc zero)))))))) l a b c d e f g h i j k = i
      go (suc (suc (suc (suc (suc (suc (suc (suc (suc zero))))))))) l a b c d e f g h i j k = j
      go (suc (suc (suc (suc (suc (suc (suc (suc (suc (suc zero)))))))))) l a b c d e f g h i j k = k
      go (suc (suc (suc (suc (suc (suc (suc (suc (suc (suc (suc n))))))))))) l a b c d e f g h i j k =
          absurd (omega (arith, l))

pub step_below : (cs : List Class) (s u : ℕ) → classes_below cs ≡ true → step cs s u < 11
step_below [] s u e = omega arith
step_below (c ∷ cs) s u e = go (leb u c.last) (step_below cs s u p.1)
  where
    p : (all_below 11 c.to ≡ true) × (classes_below cs ≡ true)
    p = and_parts (all_below 11 c.to) (classes_below cs) e

    go : (b : Bool) → step cs s u < 11 → cond b (get_or c.to s 0) (step cs s u) < 11
    go true ih = entry_below 11 c.to s (omega arith) p.0
    go false ih = ih

pub decode_below : (cs : List Class) (s : ℕ) (us : List ℕ) → classes_below cs ≡ true → s < 11 → decode cs s us < 11
decode_below cs s [] e l = l
decode_below cs s (u ∷ us) e l = decode_below cs (step cs s u) us e (step_below cs s u e)

-- Each number is a byte.
abbrev pub AreBytes : List ℕ → Type 0
AreBytes [] = Unit {0}
AreBytes (u ∷ us) = (u < 256) × AreBytes us

ends_is : (s : ℕ) → s ≡ 0 ↔ Completes s []
ends_is zero = (λ _. IsUtf8-nil, λ _. refl)
ends_is (suc zero) = (λ e. absurd (omega (arith, e)), λ k. absurd k)
ends_is (suc (suc zero)) = (λ e. absurd (omega (arith, e)), λ k. absurd k)
ends_is (suc (suc (suc zero))) = (λ e. absurd (omega (arith, e)), λ k. absurd k)
ends_is (suc (suc (suc (suc zero)))) = (λ e. absurd (omega (arith, e)), λ k. absurd k)
ends_is (suc (suc (suc (suc (suc zero))))) = (λ e. absurd (omega (arith, e)), λ k. absurd k)
ends_is (suc (suc (suc (suc (suc (suc zero)))))) = (λ e. absurd (omega (arith, e)), λ k. absurd k)
ends_is (suc (suc (suc (suc (suc (suc (suc zero))))))) = (λ e. absurd (omega (arith, e)), λ k. absurd k)
ends_is (suc (suc (suc (suc (suc (suc (suc (suc zero)))))))) = (λ e. absurd (omega (arith, e)), λ k. absurd k)
ends_is (suc (suc (suc (suc (suc (suc (suc (suc (suc n))))))))) = (λ e. absurd (omega (arith, e)), λ k. absurd k)

decode_is :
    (cs : List Class) → decodes_utf8 cs ≡ true → (us : List ℕ) (s : ℕ) → s < 11 → AreBytes us
    → decode cs s us ≡ 0 ↔ Completes s us
decode_is cs test [] s l bytes = ends_is s
decode_is cs test (u ∷ us) s l bytes =
    let r = rows_step s 0 cs u us (rows cs test s l) (omega arith) bytes.0 in
    let h = decode_is cs test us (step cs s u) (step_below cs s u (below cs test)) bytes.1 in
    (λ k. r.1 (h.0 k), λ k. h.1 (r.0 k))

-- The decoder is between two characters again exactly after UTF-8.
pub decode_utf8 :
    (cs : List Class) → decodes_utf8 cs ≡ true → (us : List ℕ) → AreBytes us → decode cs 0 us ≡ 0 ↔ IsUtf8 us
decode_utf8 cs test us bytes = decode_is cs test us 0 (omega arith) bytes
