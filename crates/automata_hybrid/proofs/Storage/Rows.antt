use Rattle.std.proofs.Common.{◌≡◌, ℕ, ◌+◌, ◌*◌, ◌^◌, ◌<◌, ◌≤◌, zero, suc, List, [], ◌∷◌, ◌++◌, length, Bool, true}
use Rattle.std.proofs.Common.{false, cond, None, Some, get_or, slice_get, refl, sym, ap, ◌∙◌, subst, ◌⊎◌, inl, inr}
use Rattle.std.proofs.Common.{⊎_elim, arith, length-append}
use Rattle.std.specs.HashMap.{get}
use Rattle.std.specs.Cmp.{decided}
use Rattle.std.proofs.lemmas.Bool.{cases_Bool}
use Rattle.std.proofs.lemmas.Option.{slice_get_within}
use Rattle.std.proofs.lemmas.List.{get_or_append_left, get_or-append-add, take-append-le}
use Rattle.std.proofs.Math.Nat.{mul-le-mul_right}
use Rattle.std.proofs.lemmas.List.Sums.{sum_by_push}
use Rattle.automata_hybrid.proofs.Words.{CellLeads, CellQuits, CellUnknown, cost, dead, find_id, id_of, IsCell}
use Rattle.automata_hybrid.proofs.Words.{IsRowState, IsStateOf, IsTemplate, Leads, LeadsToDead, LeadsToNamed, Names}
use Rattle.automata_hybrid.proofs.Words.{Powerset, powerset_eq, powerset_eq-Decides, quit_id, Row, row_cost, row_id}
use Rattle.automata_hybrid.proofs.Words.{Rows, RowsFitCells, with_cell, with_row_cells}
use Rattle.automata_hybrid.specs.Private.Cache.Table.{IsStepped, IsHeld, StateMap}

-- a state that has a row keeps its ID when more rows are added
pub find_id-more :
    (s at : ℕ) (q : Powerset) (rs ys : List Row) (id : ℕ) → find_id s at q rs ≡ Some id
    → find_id s at q (rs ++ ys) ≡ Some id
find_id-more s at q [] ys id h = cc
find_id-more s at q (r ∷ rs) ys id h = go (powerset_eq q r.state) h (find_id-more s (at + s) q rs ys id) where
  go :
      (b : Bool) → cond b (Some (row_id at r)) (find_id s (at + s) q rs) ≡ Some id
      → (find_id s (at + s) q rs ≡ Some id → find_id s (at + s) q (rs ++ ys) ≡ Some id)
      → cond b (Some (row_id at r)) (find_id s (at + s) q (rs ++ ys)) ≡ Some id
  go true h again = h
  go false h again = again h

-- an ID without a high tag that leads to a state names that state's row
pub Leads-Names : (t : Rows) (id : ℕ) (q : Powerset) → Leads t id q → id < 2 ^ 29 → Names t id q
Leads-Names t id q (LeadsToDead e d) l = absurd (omega (arith, e, l))
Leads-Names t id q (LeadsToNamed h) l = h

-- writing a cell does not change where an ID leads
pub leads_on :
    (t : Rows) (at class next : ℕ) {id : ℕ} {q : Powerset} → Leads t id q → Leads (with_cell t at class next) id q
leads_on t at class next (LeadsToDead e d) = LeadsToDead e d
leads_on t at class next (LeadsToNamed h) = LeadsToNamed h

-- a new state gets the ID of the last row
find_id-push_new :
    (s at : ℕ) (rs : List Row) (r : Row) → find_id s at r.state rs ≡ None
    → find_id s at r.state (rs ++ r ∷ []) ≡ Some (row_id (at + length rs * s) r)
find_id-push_new s at [] r h =
    rw ((powerset_eq-Decides r.state r.state).1 refl)
    (let e : at ≡ at + 0 * s = omega arith in ap (λ n. Some (row_id n r)) e)
find_id-push_new s at (x ∷ rs) r h = go (powerset_eq r.state x.state) h (find_id-push_new s (at + s) rs r) where
  go :
      (b : Bool) → cond b (Some (row_id at x)) (find_id s (at + s) r.state rs) ≡ None
      → (find_id s (at + s) r.state rs ≡ None
      → find_id s (at + s) r.state (rs ++ r ∷ []) ≡ Some (row_id (at + s + length rs * s) r))
      → cond b (Some (row_id at x)) (find_id s (at + s) r.state (rs ++ r ∷ []))
      ≡ Some (row_id (at + suc (length rs) * s) r)
  go true h again = cc
  go false h again =
      let e : at + s + length rs * s ≡ at + suc (length rs) * s = omega arith in again h ∙ ap (λ n. Some (row_id n r)) e

-- the ID of any other state is unchanged
pub find_id-push_other :
    (s at : ℕ) (p : Powerset) (rs : List Row) (r : Row) → powerset_eq p r.state ≡ false
    → find_id s at p (rs ++ r ∷ []) ≡ find_id s at p rs
find_id-push_other s at p [] r h = rw h refl
find_id-push_other s at p (x ∷ rs) r h = rw (find_id-push_other s (at + s) p rs r h) refl

flipped : (q p : Powerset) → powerset_eq q p ≡ false → powerset_eq p q ≡ false
flipped q p h = (decided powerset_eq powerset_eq-Decides).symm p q ∙ h

pub Names-more : (t : Rows) (r : Row) (id : ℕ) (q : Powerset) → Names t id q → Names (with_row_cells t r) id q
Names-more t r id q h = find_id-more t.of.stride (3 * t.of.stride) q t.rows (r ∷ []) id h

pub Leads-more : (t : Rows) (r : Row) (id : ℕ) (q : Powerset) → Leads t id q → Leads (with_row_cells t r) id q
Leads-more t r id q (LeadsToDead e d) = LeadsToDead e d
Leads-more t r id q (LeadsToNamed h) = LeadsToNamed (Names-more t r id q h)

IsCell-more :
    (t : Rows) (r : Row) (q : Powerset) (class id : ℕ) → IsCell t q class id → IsCell (with_row_cells t r) q class id
IsCell-more t r q class id (CellQuits h e) = CellQuits h e
IsCell-more t r q class id (CellUnknown h e) = CellUnknown h e
IsCell-more t r q class id (CellLeads h l) = CellLeads h (λ unit is at. Leads-more t r id _ (l unit is at))

-- a new row's ID names its state
pub Names-new :
    (t : Rows) (r : Row) → length t.cells ≡ (length t.rows + 3) * t.of.stride → id_of t r.state ≡ None
    → Names (with_row_cells t r) (row_id (length t.cells) r) r.state
Names-new t r whole none =
    let e : 3 * t.of.stride + length t.rows * t.of.stride ≡ length t.cells = omega (arith, whole) in
    find_id-push_new t.of.stride (3 * t.of.stride) t.rows r none ∙ ap (λ n. Some (row_id n r)) e

-- an element of a list with one more is an old element or the last
pub at_push :
    {A : Type 0} (xs : List A) (y : A) (k : ℕ) (x : A) → slice_get (xs ++ y ∷ []) k ≡ Some x → (slice_get xs k ≡ Some x)
    ⊎ ((k ≡ length xs) × (y ≡ x))
at_push [] y zero x h = inr (refl, cc)
at_push [] y (suc k) x h = cc
at_push (z ∷ xs) y zero x h = inl h
at_push (z ∷ xs) y (suc k) x h = go (at_push xs y k x h) where
  go :
      (slice_get xs k ≡ Some x) ⊎ ((k ≡ length xs) × (y ≡ x)) → (slice_get xs k ≡ Some x)
      ⊎ ((suc k ≡ suc (length xs)) × (y ≡ x))
  go (inl e) = inl e
  go (inr (e, f)) = inr (ap suc e, f)

pub inside : (k n s class : ℕ) → k < n → class < s → (k + 3) * s + class < (n + 3) * s
inside k n s class h l =
    let le : (k + 4) * s ≤ (n + 3) * s = mul-le-mul_right s (omega (arith, h)) in
    omega (arith, le, l)

stepped-with_row :
    (t : Rows) (r : Row) → IsTemplate t.of.stride t.of.template → length t.cells ≡ (length t.rows + 3) * t.of.stride
    → IsStepped t → IsStepped (with_row_cells t r)
stepped-with_row t r template whole old k class x h l = go (at_push t.rows r k x h) where
  go :
      (slice_get t.rows k ≡ Some x) ⊎ ((k ≡ length t.rows) × (r ≡ x))
      → IsCell (with_row_cells t r) x.state class
      (get_or (t.cells ++ t.of.template) ((k + 3) * t.of.stride + class) 0)
  go (inl e) =
      let within : (k + 3) * t.of.stride + class < length t.cells =
      rw whole (inside k (length t.rows) t.of.stride class (slice_get_within t.rows k x e) l) in
      subst (IsCell (with_row_cells t r) x.state class)
      (sym (get_or_append_left t.cells t.of.template 0 ((k + 3) * t.of.stride + class) within))
      (IsCell-more t r x.state class _ (old k class x e l))
  go (inr (e, f)) =
      let at : length t.cells + class ≡ (k + 3) * t.of.stride + class = rw (e, whole) refl in
      let read : get_or t.of.template class 0 ≡ get_or (t.cells ++ t.of.template) ((k + 3) * t.of.stride + class) 0 =
      sym (get_or-append-add t.cells t.of.template class 0) ∙ ap (λ i. get_or (t.cells ++ t.of.template) i 0) at in
      subst (IsCell (with_row_cells t r) x.state class) read (new (template.cells class l)) where
        new :
            (get_or t.of.template class 0 ≡ quit_id t.of.stride) ⊎ (get_or t.of.template class 0 ≡ 2 ^ 31)
            → IsCell (with_row_cells t r) x.state class (get_or t.of.template class 0)
        new (inl q) = CellQuits q q
        new (inr u) = CellUnknown u u

-- the rows still fit their cells after a row is added
RowsFitCells-with_row :
    (t : Rows) (r : Row) → RowsFitCells t → IsTemplate t.of.stride t.of.template → id_of t r.state ≡ None
    → (r.state ≡ dead → ⊥) → cost r.state ≤ t.of.greatest → IsStateOf t.of r.state → length t.cells < 2 ^ 27
    → RowsFitCells (with_row_cells t r)
RowsFitCells-with_row t r i template none live cheap of fits =
    let more : length (t.cells ++ t.of.template) ≡ length t.cells + t.of.stride =
    length-append t.cells t.of.template ∙ ap (λ k. length t.cells + k) template.whole in
    let one : length (t.rows ++ r ∷ []) ≡ length t.rows + 1 = length-append t.rows (r ∷ []) in
    let few : 3 * t.of.stride ≤ length t.cells = rw i.whole (grind arith) in
    record {
      whole = more ∙ rw (i.whole, one) (omega arith);
      small = omega (arith, more, fits);
      fixed = rw (take-append-le (3 * t.of.stride) t.cells t.of.template few) i.fixed;
      stepped = stepped-with_row t r template i.whole i.stepped;
      ids = λ k x h. ids k x (at_push t.rows r k x h);
      states = λ k x h. states k x (at_push t.rows r k x h);
    } where
      ids :
          (k : ℕ) (x : Row) → (slice_get t.rows k ≡ Some x) ⊎ ((k ≡ length t.rows) × (r ≡ x))
          → Names (with_row_cells t r) (row_id ((k + 3) * t.of.stride) x) x.state × ((k + 3) * t.of.stride < 2 ^ 27)
      ids k x (inl e) = let old = i.ids k x e in (Names-more t r _ x.state old.0, old.1)
      ids k x (inr (e, f)) =
          let at : length t.cells ≡ (k + 3) * t.of.stride = i.whole ∙ rw e refl in (
            subst (λ y. Names (with_row_cells t r) (row_id ((k + 3) * t.of.stride) y) y.state) f
                (subst (λ n. Names (with_row_cells t r) (row_id n r) r.state) at (Names-new t r i.whole none)),
            subst (λ n. n < 2 ^ 27) at fits,
          )

      states :
          (k : ℕ) (x : Row) → (slice_get t.rows k ≡ Some x) ⊎ ((k ≡ length t.rows) × (r ≡ x)) → IsRowState t.of x.state
      states k x (inl e) = i.states k x e
      states k x (inr (e, f)) =
          subst (λ (y : Row). IsRowState t.of y.state) f (record { own = of; cheap = cheap; alive = live })

-- the map from states to rows still holds the table after a row is added to both
pub IsHeld-with_row :
    (t : Rows) (r : Row) (s : ℕ) (row : List ℕ) (m n : StateMap) (costs : ℕ) → IsHeld t s row m costs
    → id_of t r.state ≡ None → (r.state ≡ dead → ⊥) → cost r.state ≤ t.of.greatest → IsStateOf t.of r.state
    → length t.cells < 2 ^ 27
    → ((p : Powerset)
    → get powerset_eq n p ≡ cond (powerset_eq r.state p) (Some (row_id (length t.cells) r)) (get powerset_eq m p))
    → IsHeld (with_row_cells t r) s row n (costs + cost r.state)
IsHeld-with_row t r s row m n costs i none live cheap of fits new = record {
  rows = RowsFitCells-with_row t r i.rows i.cells none live cheap of fits;
  cells = i.cells;
  stride = i.stride;
  template = i.template;
  mapped =
      λ p. ⊎_elim (λ (e : powerset_eq r.state p ≡ true). same p e) (λ (e : powerset_eq r.state p ≡ false). other p e)
      (cases_Bool (powerset_eq r.state p));
  costs_of = ap (λ n. n + cost r.state) i.costs_of ∙ sym (sum_by_push row_cost t.rows r);
} where
  same : (p : Powerset) → powerset_eq r.state p ≡ true → get powerset_eq n p ≡ id_of (with_row_cells t r) p
  same p e =
      new p ∙ rw e
      (sym (subst (λ w. id_of (with_row_cells t r) w ≡ Some (row_id (length t.cells) r))
      ((powerset_eq-Decides r.state p).0 e) (Names-new t r i.rows.whole none)))

  other : (p : Powerset) → powerset_eq r.state p ≡ false → get powerset_eq n p ≡ id_of (with_row_cells t r) p
  other p e =
      new p ∙ rw e
      (i.mapped p ∙ sym (find_id-push_other t.of.stride (3 * t.of.stride) p t.rows r (flipped r.state p e)))

-- the map can be replaced by one with the same lookups
pub IsHeld-map :
    (t : Rows) (s : ℕ) (row : List ℕ) (m n : StateMap) (costs : ℕ) → IsHeld t s row m costs
    → ((p : Powerset) → get powerset_eq n p ≡ get powerset_eq m p) → IsHeld t s row n costs
IsHeld-map t s row m n costs i same = record {
  rows = i.rows;
  cells = i.cells;
  stride = i.stride;
  template = i.template;
  mapped = λ p. same p ∙ i.mapped p;
  costs_of = i.costs_of;
}
