-- Sets of patterns as flags: how their members change, and how they are iterated.
use Rattle.std.proofs.Common.{ℕ, zero, suc, ◌≡◌, ◌+◌, ◌<◌, ◌≤◌, ◌⊎◌, Bool, true, false, eqb, List, [], ◌∷◌, ◌++◌, drop}
use Rattle.std.proofs.Common.{length, get_or, refl, sym, ap, ◌∙◌, inl, inr, subst, true≢false, arith, replicate}
use Rattle.std.proofs.Common.{get_or-set_other, length-set}
use Rattle.std.proofs.Math.ListN.{set}
use Rattle.std.proofs.lemmas.Bool.Decides.{eqb_tells}
use Rattle.automata_base.specs.Powersets.Powerset.{IsId}
use Rattle.automata_base.specs.Haystacks.PatternSet.{has, members_from, members, AreSmall, IsCounted}

pub members_from-replicate : (n k : ℕ) → members_from k (replicate n false) ≡ []
members_from-replicate zero k = refl
members_from-replicate (suc n) k = members_from-replicate n (suc k)

has-replicate : (n pattern : ℕ) → has (replicate n false) pattern ≡ false
has-replicate zero pattern = refl
has-replicate (suc n) zero = refl
has-replicate (suc n) (suc pattern) = has-replicate n pattern

pub empty_counted : (n : ℕ) → IsCounted (replicate n false) 0
empty_counted n = record {
  counted = ap length (sym (members_from-replicate n 0));
  small = λ pattern e. absurd (true≢false (sym e ∙ has-replicate n pattern));
}

-- Clears the flag at `at` after the flags below it were cleared; the flags after it are unchanged.
pub taken_out :
    (xs : List Bool) (at : ℕ) → at < length xs
    → set (replicate at false ++ drop at xs) at false ≡ replicate (at + 1) false ++ drop (at + 1) xs
taken_out xs at l =
    let more : suc at ≡ at + 1 = omega arith in
    subst (λ k. set (replicate at false ++ drop at xs) at false ≡ replicate k false ++ drop k xs) more (next xs at l)
  where
    next :
        (xs : List Bool) (at : ℕ) → at < length xs
        → set (replicate at false ++ drop at xs) at false ≡ replicate (suc at) false ++ drop (suc at) xs
    next [] at l = absurd (omega (arith, l))
    next (x ∷ xs) zero l = refl
    next (x ∷ xs) (suc at) l = ap (λ ys. false ∷ ys) (next xs at (omega (arith, l)))

-- the flag at `at` is unchanged while the flags below it are cleared
pub flag_at :
    (xs : List Bool) (at : ℕ) → at < length xs
    → get_or (replicate at false ++ drop at xs) at false ≡ get_or xs at false
flag_at [] at l = absurd (omega (arith, l))
flag_at (x ∷ xs) zero l = refl
flag_at (x ∷ xs) (suc at) l = flag_at xs at (omega (arith, l))

-- a flag that is not set is as if it were cleared
pub not_in :
    (xs : List Bool) (at : ℕ) → at < length xs → get_or xs at false ≡ false
    → replicate at false ++ drop at xs ≡ replicate (at + 1) false ++ drop (at + 1) xs
not_in xs at l e =
    let more : suc at ≡ at + 1 = omega arith in
    subst (λ k. replicate at false ++ drop at xs ≡ replicate k false ++ drop k xs) more (next xs at l e)
  where
    next :
        (xs : List Bool) (at : ℕ) → at < length xs → get_or xs at false ≡ false
        → replicate at false ++ drop at xs ≡ replicate (suc at) false ++ drop (suc at) xs
    next [] at l e = absurd (omega (arith, l))
    next (true ∷ xs) zero l e = absurd (true≢false e)
    next (false ∷ xs) zero l e = refl
    next (x ∷ xs) (suc at) l e = ap (λ ys. false ∷ ys) (next xs at (omega (arith, l)) e)

-- members are left only at flags that there are
pub left_within :
    (xs : List Bool) (at k : ℕ) → 0 < length (members_from k (drop at xs)) → at < length xs
left_within [] zero k l = absurd (omega (arith, l))
left_within [] (suc at) k l = absurd (omega (arith, l))
left_within (x ∷ xs) zero k l = omega arith
left_within (x ∷ xs) (suc at) k l = omega (arith, left_within xs at k l)

-- the number of members does not depend on the number of the first flag
pub members-from :
    (xs : List Bool) (k n : ℕ) → length (members_from k xs) ≡ length (members_from n xs)
members-from [] k n = refl
members-from (true ∷ xs) k n = ap suc (members-from xs (suc k) (suc n))
members-from (false ∷ xs) k n = members-from xs (suc k) (suc n)

-- one member fewer is left after a flag that is set
pub left_in :
    (xs : List Bool) (at : ℕ) → get_or xs at false ≡ true
    → length (members_from at (drop at xs)) ≡ suc (length (members_from (at + 1) (drop (at + 1) xs)))
left_in xs at e =
    let more : suc at ≡ at + 1 = omega arith in
    subst (λ k. length (members_from at (drop at xs)) ≡ suc (length (members_from (at + 1) (drop k xs)))) more
    (next xs at at (at + 1) e)
  where
    next :
        (xs : List Bool) (at k n : ℕ) → get_or xs at false ≡ true
        → length (members_from k (drop at xs)) ≡ suc (length (members_from n (drop (suc at) xs)))
    next [] at k n e = absurd (true≢false (sym e))
    next (true ∷ xs) zero k n e = ap suc (members-from xs (suc k) n)
    next (false ∷ xs) zero k n e = absurd (true≢false (sym e))
    next (x ∷ xs) (suc at) k n e = next xs at k n e

-- as many members are left after a flag that is not set
pub left_out :
    (xs : List Bool) (at : ℕ) → at < length xs → get_or xs at false ≡ false
    → length (members_from at (drop at xs)) ≡ length (members_from (at + 1) (drop (at + 1) xs))
left_out xs at l e =
    let more : suc at ≡ at + 1 = omega arith in
    subst (λ k. length (members_from at (drop at xs)) ≡ length (members_from (at + 1) (drop k xs))) more
    (next xs at at (at + 1) l e)
  where
    next :
        (xs : List Bool) (at k n : ℕ) → at < length xs → get_or xs at false ≡ false
        → length (members_from k (drop at xs)) ≡ length (members_from n (drop (suc at) xs))
    next [] at k n l e = absurd (omega (arith, l))
    next (true ∷ xs) zero k n l e = absurd (true≢false e)
    next (false ∷ xs) zero k n l e = members-from xs (suc k) n
    next (x ∷ xs) (suc at) k n l e = next xs at k n (omega (arith, l)) e

-- where no member is left, all flags are cleared
pub none_left :
    (xs : List Bool) (at k : ℕ) → at ≤ length xs → length (members_from k (drop at xs)) ≡ 0
    → replicate at false ++ drop at xs ≡ replicate (length xs) false
none_left [] zero k l e = refl
none_left [] (suc at) k l e = absurd (omega (arith, l))
none_left (true ∷ xs) zero k l e = absurd (omega (arith, e))
none_left (false ∷ xs) zero k l e = ap (λ ys. false ∷ ys) (none_left xs zero (suc k) (omega arith) e)
none_left (x ∷ xs) (suc at) k l e = ap (λ ys. false ∷ ys) (none_left xs at k (omega (arith, l)) e)

pub members-few : (xs : List Bool) (k : ℕ) → length (members_from k xs) ≤ length xs
members-few [] k = omega arith
members-few (true ∷ xs) k = omega (arith, members-few xs (suc k))
members-few (false ∷ xs) k = omega (arith, members-few xs (suc k))

pub members-set :
    (xs : List Bool) (i k : ℕ) → i < length xs → get_or xs i false ≡ false
    → length (members_from k (set xs i true)) ≡ length (members_from k xs) + 1
members-set [] i k h e = absurd (omega (arith, h))
members-set (true ∷ xs) zero k h e = absurd (true≢false e)
members-set (false ∷ xs) zero k h e = omega arith
members-set (true ∷ xs) (suc i) k h e = omega (arith, members-set xs i (suc k) (omega (arith, h)) e)
members-set (false ∷ xs) (suc i) k h e = members-set xs i (suc k) (omega (arith, h)) e

small-set : (xs : List Bool) (i : ℕ) → IsId i → AreSmall xs → AreSmall (set xs i true)
small-set xs i h small pattern e = go (eqb_tells pattern i)
  where
    go : ((eqb pattern i ≡ true) × (pattern ≡ i)) ⊎ ((eqb pattern i ≡ false) × (pattern ≡ i → ⊥)) → IsId pattern
    go (inl w) = subst IsId (sym w.1) h
    go (inr w) = small pattern (sym (get_or-set_other xs i pattern true false w.1) ∙ e)

pub set_counted :
    (xs : List Bool) (i n : ℕ) → IsId i → i < length xs → get_or xs i false ≡ false → IsCounted xs n
    → IsCounted (set xs i true) (n + 1)
set_counted xs i n h l e c = record {
  counted = omega (arith, members-set xs i 0 l e, c.counted);
  small = small-set xs i h c.small;
}

pub few_more :
    (xs : List Bool) (i : ℕ) → i < length xs → get_or xs i false ≡ false → length (members xs) + 1 ≤ length xs
few_more xs i h e =
    let more = members-set xs i 0 h e in
    let few = members-few (set xs i true) 0 in
    omega (arith, more, few, length-set xs i true)
