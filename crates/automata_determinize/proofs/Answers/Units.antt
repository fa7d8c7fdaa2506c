-- The reverse search reads only units that the forward search read up to its match.
use Rattle.std.proofs.Common.{ℕ, suc, ◌≡◌, ◌<◌, ◌≤◌, ◌+◌, ◌-◌, Bool, List, length, Option, Some, sym, ap, ◌∙◌}
use Rattle.std.proofs.Common.{arith, ⊎_elim, eq-or-lt_of_le}
use Rattle.std.specs.Prelude.{slice_get}
use Rattle.automata_base.specs.Haystacks.Tapes.{forward_tape, reverse_tape, byte_before, ReadsByteBefore, ReadsUnitAt}
use Rattle.automata_base.specs.Haystacks.Tapes.{ReadsUpto, MeetsNone}
use Rattle.automata_base.proofs.Answers.Bytes.{forward_next, forward_prev, reverse_next}

before_suc : (h : List ℕ) (o p : ℕ) → o ≡ suc p → byte_before h o ≡ slice_get h p
before_suc h o p e = ap (λ v. byte_before h v) e

pub back_reads :
    (h : List ℕ) (b e i m : ℕ) (v : Option ℕ) → b + i ≤ e → e ≤ length h → m ≤ i
    → ReadsUpto (reverse_tape h b (b + i)) m v → ReadsUpto (forward_tape h b e) i v
back_reads h b e i m v l w k (ReadsByteBefore g) = ReadsUnitAt i (omega arith) (g ∙ sym (forward_next h b e i l w))
back_reads h b e i m v l w k (ReadsUnitAt j few g) = ⊎_elim
    (λ (c : j ≡ i).
    ReadsByteBefore
    (g
    ∙ (reverse_next h b (b + i) j b (omega (arith, c)) (omega arith) (omega (arith, l, w))
    ∙ (ap (λ x. byte_before h x) (omega arith) ∙ sym (forward_prev h b e 0 (omega (arith, l)))))))
    (λ (c : j < i).
    ReadsUnitAt (i - suc j) (omega arith)
    (g
    ∙ (reverse_next h b (b + i) j (b + (i - j)) (omega (arith, c)) (omega arith) (omega (arith, l, w))
    ∙ (before_suc h (b + (i - j)) (b + (i - suc j)) (omega (arith, c))
    ∙ sym (forward_next h b e (i - suc j) (omega (arith, l, c)) w)))))
    (eq-or-lt_of_le (within few))
  where
    within : j ≤ m → j ≤ i
    within a = omega (arith, a, k)

-- So with the same quit bytes, the reverse search reads no quit byte if the forward search read none up to its match.
pub back_meets_none :
    (quits : ℕ → Bool) (h : List ℕ) (b e i m : ℕ) → b + i ≤ e → e ≤ length h → m ≤ i
    → MeetsNone quits (forward_tape h b e) i → MeetsNone quits (reverse_tape h b (b + i)) m
back_meets_none quits h b e i m l w k f v g = f v (back_reads h b e i m (Some v) l w k g)
