-- Dense states.
use Rattle.std.proofs.Common.{ℕ, zero, suc, ◌≡◌, ◌<◌, ◌+◌, true, false, cond, List, [], ◌∷◌, length, get_or, Option}
use Rattle.std.proofs.Common.{Some, None, refl, sym, ap, ◌∙◌, arith}
use Rattle.std.proofs.lemmas.Grind.{common_steps}
use Rattle.automata_base.specs.Nfas.Nfa.{takes_in}
use Rattle.automata_base.specs.Haystacks.Looks.{within}
use Rattle.automata_base.specs.Nfas.Nodes.{dense_from}

abbrev pub some_unless : ℕ → Option ℕ
some_unless zero = None
some_unless (suc k) = Some (suc k)

pub within_itself : (k : ℕ) → within k k k ≡ true
within_itself k = grind (arith, common_steps)

pub within_other : (k u : ℕ) → (u ≡ k → ⊥) → within k k u ≡ false
within_other k u ne = grind (arith, common_steps)

pub dense_below : (xs : List ℕ) (k u : ℕ) → u < k → takes_in (dense_from k xs) u ≡ None
dense_below [] k u l = refl
dense_below (zero ∷ xs) k u l = dense_below xs (suc k) u (omega (arith, l))
dense_below (suc m ∷ xs) k u l =
    ap (λ b. cond b (Some (suc m)) (takes_in (dense_from (suc k) xs) u)) (within_other k u (λ e. omega (arith, l, e)))
    ∙ dense_below xs (suc k) u (omega (arith, l))

pub dense_takes :
    (xs : List ℕ) (k i u : ℕ) → u ≡ k + i → i < length xs → takes_in (dense_from k xs) u ≡ some_unless (get_or xs i 0)
dense_takes [] k i u e l = absurd (omega (arith, l))
dense_takes (zero ∷ xs) k zero u e l = dense_below xs (suc k) u (omega (arith, e))
dense_takes (zero ∷ xs) k (suc i) u e l = dense_takes xs (suc k) i u (omega (arith, e)) (omega (arith, l))
dense_takes (suc m ∷ xs) k zero u e l =
    let same : u ≡ k = omega (arith, e) in
    ap (λ b. cond b (Some (suc m)) (takes_in (dense_from (suc k) xs) u)) (ap (λ z. within k k z) same ∙ within_itself k)
dense_takes (suc m ∷ xs) k (suc i) u e l =
    ap (λ b. cond b (Some (suc m)) (takes_in (dense_from (suc k) xs) u)) (within_other k u (λ f. omega (arith, e, f)))
    ∙ dense_takes xs (suc k) i u (omega (arith, e)) (omega (arith, l))

pub none_at_zero : (x : ℕ) → x ≡ 0 → None ≡ some_unless x
none_at_zero x e = sym (ap some_unless e)

pub some_at_other : (x : ℕ) → (x ≡ 0 → ⊥) → Some x ≡ some_unless x
some_at_other zero ne = absurd (ne refl)
some_at_other (suc k) ne = refl
