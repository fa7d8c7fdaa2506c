-- A message that is cut to the room that there is.
use Rattle.std.proofs.Common.{ℕ, zero, suc, false, ◌≡◌, ◌-◌, ◌<◌, ◌≤◌, List, [], ◌∷◌, ◌++◌, ap, arith, length, refl}
use Rattle.std.proofs.Common.{sym, take, ⊎_elim}
use Rattle.std.specs.Prelude.{◌==◌, IsCharBoundary}
use Rattle.std.proofs.Math.ListN.{set}
use Rattle.std.proofs.lemmas.Bool.{cases_lt}
use Rattle.std.proofs.lemmas.List.{length-take-le}
use Rattle.lazydfa_c.specs.Caches.{written_over}
use Rattle.lazydfa_c.specs.Texts.{WritesMessage}
use Rattle.lazydfa_c.proofs.Written.{puts}

nothing_over : {A : Type 0} (xs old : List A) → length old ≡ 0 → old ≡ written_over xs old
nothing_over [] old none = refl
nothing_over (x ∷ xs) [] none = refl
nothing_over (x ∷ xs) (o ∷ old) none = absurd (omega (arith, none))

pub length-written_over : {A : Type 0} (xs old : List A) → length (written_over xs old) ≡ length old
length-written_over [] old = refl
length-written_over (x ∷ xs) [] = refl
length-written_over (x ∷ xs) (o ∷ old) = ap suc (length-written_over xs old)

pub is_some : (n : ℕ) → false ≡ (n == 0) → 0 < n
is_some zero is = absurd (cc)
is_some (suc n) is = omega arith

-- an empty buffer
pub no_room : (message old : List ℕ) → length old ≡ 0 → WritesMessage message old old
no_room message old none = record {
  end = length message;
  whole = (omega arith, λ inside. absurd (omega (arith, inside)));
  most = λ i boundary inside. absurd (omega (arith, inside, none));
  fits = λ some. absurd (omega (arith, some, none));
  written = nothing_over (take (length message) message ++ 0 ∷ []) old none;
}

nearest : (message : List ℕ) (end last i : ℕ)
    → ((k : ℕ) → end < k → k ≤ last → IsCharBoundary message k → ⊥) → IsCharBoundary message i → i ≤ last → i ≤ end
nearest message end last i none boundary inside =
    ⊎_elim (λ (above : end < i). absurd (none i above inside boundary)) (λ (below : i ≤ end). below) (cases_lt end i)

-- the message up to the last boundary that leaves room for a zero
pub has_room : (message old mid new : List ℕ) (end : ℕ) → 0 < length old → end ≤ length old - 1
    → IsCharBoundary message end
    → ((k : ℕ) → end < k → k ≤ length old - 1 → IsCharBoundary message k → ⊥)
    → mid ≡ written_over (take end message) old → new ≡ set mid end 0 → WritesMessage message old new
has_room message old mid new end some below boundary none first is = record {
  end = end;
  whole = boundary;
  most = λ i other inside. nearest message end (length old - 1) i none other (omega (arith, inside));
  fits = λ some. omega (arith, some, below);
  written = puts (take end message) old mid new end 0 (sym (length-take-le end message boundary.0)) first
      (omega (arith, some, below, ap length first, length-written_over (take end message) old)) is;
}
