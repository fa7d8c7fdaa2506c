-- Writing a list over another, one element after another.
use Rattle.std.proofs.Common.{ℕ, suc, zero, ◌≡◌, ◌<◌, ◌≤◌, ◌++◌, List, [], ◌∷◌, length, take, drop, ap, refl, subst}
use Rattle.std.proofs.Common.{arith, ◌∙◌}
use Rattle.std.proofs.Math.ListN.{set}
use Rattle.lazydfa_c.specs.Caches.{written_over}

-- the list after some elements are written, as what is written and what remains to be written over the rest
abbrev pub under : {A : Type 0} → (at : ℕ) → (rest out : List A) → List A
under at rest out = take at out ++ written_over rest (drop at out)

-- one more element is written
pub goes_on :
    {A : Type 0} (out : List A) (at : ℕ) (x : A) (rest : List A) → at < length out
    → under (suc at) rest (set out at x) ≡ under at (x ∷ rest) out
goes_on [] at x rest h = absurd (omega arith)
goes_on (o ∷ out) zero x rest h = refl
goes_on {A = A} (o ∷ out) (suc at) x rest h =
    let h' : at < length out = omega arith in ap (λ (r : List A). o ∷ r) (goes_on out at x rest h')

-- there is no more room
pub stops :
    {A : Type 0} (out : List A) (at : ℕ) (x : A) (rest : List A) → length out ≤ at
    → under at rest out ≡ under at (x ∷ rest) out
stops [] zero x [] h = refl
stops [] zero x (y ∷ rest) h = refl
stops [] (suc at) x [] h = refl
stops [] (suc at) x (y ∷ rest) h = refl
stops (o ∷ out) zero x rest h = absurd (omega arith)
stops {A = A} (o ∷ out) (suc at) x rest h =
    let h' : length out ≤ at = omega arith in ap (λ (r : List A). o ∷ r) (stops out at x rest h')

-- no element remains to be written
pub ends : {A : Type 0} (out : List A) (at : ℕ) → under at [] out ≡ out
ends [] zero = refl
ends [] (suc at) = refl
ends (o ∷ out) zero = refl
ends {A = A} (o ∷ out) (suc at) = ap (λ (r : List A). o ∷ r) (ends out at)

-- one more element is written after the elements of a list
put :
    {A : Type 0} (xs out : List A) (x : A) → length xs < length (written_over xs out)
    → set (written_over xs out) (length xs) x ≡ written_over (xs ++ x ∷ []) out
put [] [] x h = absurd (omega arith)
put [] (o ∷ out) x h = refl
put (y ∷ xs) [] x h = absurd (omega arith)
put {A = A} (y ∷ xs) (o ∷ out) x h =
    let h' : length xs < length (written_over xs out) = omega arith in ap (λ (r : List A). y ∷ r) (put xs out x h')

-- there is no room for it
full :
    {A : Type 0} (xs out : List A) (x : A) → length (written_over xs out) ≤ length xs
    → written_over xs out ≡ written_over (xs ++ x ∷ []) out
full [] [] x h = refl
full [] (o ∷ out) x h = absurd (omega arith)
full (y ∷ xs) [] x h = refl
full {A = A} (y ∷ xs) (o ∷ out) x h =
    let h' : length (written_over xs out) ≤ length xs = omega arith in ap (λ (r : List A). y ∷ r) (full xs out x h')

-- at the index after a list that is written over another, one more element is written if there is room
pub puts :
    {A : Type 0} (xs out old new : List A) (at : ℕ) (x : A) → at ≡ length xs → old ≡ written_over xs out
    → at < length old → new ≡ set old at x → new ≡ written_over (xs ++ x ∷ []) out
puts {A = A} xs out old new at x counted written room is =
    let room' : length xs < length (written_over xs out) =
    subst (λ (n : ℕ). n < length (written_over xs out)) counted (subst (λ (o : List A). at < length o) written room) in
    let same : set old at x ≡ set (written_over xs out) (length xs) x =
    ap (λ (o : List A). set o at x) written ∙ ap (λ (n : ℕ). set (written_over xs out) n x) counted in
    is ∙ (same ∙ put xs out x room')

pub skips :
    {A : Type 0} (xs out old new : List A) (at : ℕ) (x : A) → at ≡ length xs → old ≡ written_over xs out
    → length old ≤ at → new ≡ old → new ≡ written_over (xs ++ x ∷ []) out
skips {A = A} xs out old new at x counted written room is =
    let room' : length (written_over xs out) ≤ length xs =
    subst (λ (n : ℕ). length (written_over xs out) ≤ n) counted (subst (λ (o : List A). length o ≤ at) written room) in
    is ∙ (written ∙ full xs out x room')
