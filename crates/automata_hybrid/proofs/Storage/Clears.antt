use Rattle.std.proofs.Common.{◌≡◌, ℕ, ◌+◌, ◌*◌, ◌^◌, ◌<◌, ◌≤◌, List, [], ◌∷◌, ◌++◌, length, true, false, cond, Option}
use Rattle.std.proofs.Common.{None, Some, slice_get, refl, sym, ap, ◌∙◌, subst, ◌⊎◌, inl, inr, ⊎_elim}
use Rattle.std.proofs.Common.{arith, length-append}
use Rattle.automata_hybrid.proofs.Words.{AllStarts, id_of, is_some, IsSlot, LeadsToStart, Names, Powerset, powerset_eq}
use Rattle.automata_hybrid.proofs.Words.{powerset_eq-Decides, Row, Rows, with_row_cells}
use Rattle.std.proofs.lemmas.Bool.{cases_Bool}
use Rattle.automata_hybrid.specs.Private.Cache.Clears.{IsPut, with_row_once}
use Rattle.automata_hybrid.proofs.Storage.Rows.{Leads-more, at_push, find_id-push_other, Leads-Names}

pub with_row_once-of : (t : Rows) (r : Row) → (with_row_once t r).of ≡ t.of
with_row_once-of t r = go (id_of t r.state) where
  go : (o : Option ℕ) → (cond (is_some o) t (with_row_cells t r)).of ≡ t.of
  go None = refl
  go (Some n) = refl

with_row_once-length : (t : Rows) (r : Row) → length (with_row_once t r).rows ≤ length t.rows + 1
with_row_once-length t r = go (id_of t r.state) where
  go : (o : Option ℕ) → length (cond (is_some o) t (with_row_cells t r)).rows ≤ length t.rows + 1
  go None = omega (arith, length-append t.rows (r ∷ []))
  go (Some n) = omega arith

pub slot_row : (t : Rows) (slot id : ℕ) → IsSlot t slot id → id < 2 ^ 29 → (q : Powerset) × Names t id q
slot_row t slot id (inl e) l = absurd (omega (arith, e, l))
slot_row t slot id (inr (q, leads, first)) l = (q, Leads-Names t id q leads l)

-- slots stay valid when a valid slot is appended
pub AllStarts-push :
    (t : Rows) (xs : List ℕ) (y : ℕ) → AllStarts t xs → IsSlot t (length xs) y → AllStarts t (xs ++ y ∷ [])
AllStarts-push t xs y all h slot id e = go (at_push xs y slot id e) where
  go : (slice_get xs slot ≡ Some id) ⊎ ((slot ≡ length xs) × (y ≡ id)) → IsSlot t slot id
  go (inl e) = all slot id e
  go (inr (e, f)) = subst (λ n. IsSlot t slot n) f (subst (λ n. IsSlot t n y) (sym e) h)

pub AllStarts-more : (t : Rows) (r : Row) (xs : List ℕ) → AllStarts t xs → AllStarts (with_row_cells t r) xs
AllStarts-more t r xs all slot id e = go (all slot id e) where
  go : IsSlot t slot id → IsSlot (with_row_cells t r) slot id
  go (inl f) = inl f
  go (inr (q, leads, starts)) = inr (q, Leads-more t r id q leads, starts)

pub AllStarts-put : (t : Rows) (r : Row) (xs : List ℕ) → AllStarts t xs → AllStarts (with_row_once t r) xs
AllStarts-put t r xs all = go (id_of t r.state) where
  go : (o : Option ℕ) → AllStarts (cond (is_some o) t (with_row_cells t r)) xs
  go None = AllStarts-more t r xs all
  go (Some n) = all

pub IsPut-of : (old before after : Rows) (id n : ℕ) → IsPut old before after id n → after.of ≡ before.of
IsPut-of old before after id n p = ap (λ (u : Rows). u.of) p.put_there ∙ with_row_once-of before p.row

pub IsPut-length :
    (old before after : Rows) (id n : ℕ) → IsPut old before after id n → length after.rows ≤ length before.rows + 1
IsPut-length old before after id n p =
    subst (λ (u : Rows). length u.rows ≤ length before.rows + 1) (sym p.put_there) (with_row_once-length before p.row)

pub IsPut-AllStarts :
    (old before after : Rows) (starts : List ℕ) (id n : ℕ) → IsPut old before after id n → AllStarts before starts
    → LeadsToStart after n (length starts) → AllStarts after (starts ++ n ∷ [])
IsPut-AllStarts old before after starts id n p all named =
    AllStarts-push after starts n
    (subst (λ (u : Rows). AllStarts u starts) (sym p.put_there) (AllStarts-put before p.row starts all)) (inr named)

pub AllStarts-none : (t : Rows) (xs : List ℕ) → xs ≡ [] → AllStarts t xs
AllStarts-none t xs e = subst (λ ys. AllStarts t ys) (sym e) none where
  none : AllStarts t []
  none slot id h = cc

-- a state that the old table lacks is not added by a row of the old table
pub absent-more :
    (old t : Rows) (r : Row) (q : Powerset) → (id_of old r.state ≡ None → ⊥) → id_of old q ≡ None → id_of t q ≡ None
    → id_of (with_row_cells t r) q ≡ None
absent-more old t r q had o n = ⊎_elim
    (λ (e : powerset_eq q r.state ≡ true). absurd
    (had (subst (λ p. id_of old p ≡ None) ((powerset_eq-Decides q r.state).0 e) o)))
    (λ (e : powerset_eq q r.state ≡ false). find_id-push_other t.of.stride (3 * t.of.stride) q t.rows r e ∙ n)
    (cases_Bool (powerset_eq q r.state))
