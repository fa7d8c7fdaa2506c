-- Writing the items of a slice into another one, as many as there is room for.
use Rattle.std.proofs.Common.{ℕ, ◌≡◌, ◌+◌, ◌<◌, ◌≤◌, ◌∷◌, List, add-one, ap, ap₂, drop, get_or, length, sym, ◌∙◌}
use Rattle.std.proofs.Math.ListN.{set}
use Rattle.std.proofs.lemmas.List.{drop_more}
use Rattle.lazydfa_c.specs.Caches.{written_over}
use Rattle.lazydfa_c.proofs.Written.{goes_on, stops, under}

-- the next item is the first of the remaining ones
next_left :
    {A : Type 0} (items out : List A) (at i : ℕ) (x : A) → i < length items → x ≡ get_or items i x
    → under at (x ∷ drop (i + 1) items) out ≡ under at (drop i items) out
next_left items out at i x l is =
    ap (λ r. under at r out) (sym (drop_more items i x l ∙ ap (λ y. y ∷ drop (i + 1) items) (sym is)))

-- it is written
pub puts_next :
    {A : Type 0} (items was out new : List A) (at now i : ℕ) (x : A) → i < length items → x ≡ get_or items i x
    → under at (drop i items) out ≡ written_over items was → at < length out → now ≡ at + 1 → new ≡ set out at x
    → under now (drop (i + 1) items) new ≡ written_over items was
puts_next items was out new at now i x l is written room moved put =
    ap₂ (λ a o. under a (drop (i + 1) items) o) (moved ∙ add-one at) put
    ∙ goes_on out at x (drop (i + 1) items) room ∙ next_left items out at i x l is ∙ written

-- there is no room for it
pub skips_next :
    {A : Type 0} (items was out new : List A) (at now i : ℕ) (x : A) → i < length items → x ≡ get_or items i x
    → under at (drop i items) out ≡ written_over items was → length out ≤ at → now ≡ at → new ≡ out
    → under now (drop (i + 1) items) new ≡ written_over items was
skips_next items was out new at now i x l is written full same kept =
    ap₂ (λ a o. under a (drop (i + 1) items) o) same kept
    ∙ stops out at x (drop (i + 1) items) full ∙ next_left items out at i x l is ∙ written
