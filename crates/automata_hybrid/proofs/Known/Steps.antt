-- Which transitions are cached: none of a new row, none in a table whose cells were not written, and one more once a
-- cell is written.
use Rattle.std.proofs.Common.{◌≡◌, ◌∙◌, ℕ, ◌+◌, ◌*◌, ◌%◌, ◌^◌, ◌<◌, ◌⊎◌, inl, inr, List, [], ◌∷◌, ◌++◌, length, Bool}
use Rattle.std.proofs.Common.{true, false, Option, None, Some, get_or, set, slice_get, refl, sym, ap, subst, ⊎_elim}
use Rattle.std.proofs.Common.{arith}
use Rattle.automata_hybrid.proofs.Words.{cell_at, has_patterns, id_of, Machine, Names, nat_lt, option_map, Powerset}
use Rattle.automata_hybrid.proofs.Words.{powerset_eq, powerset_eq-Decides, Row, row_id, Rows, unknown_id, unwrap_or}
use Rattle.automata_hybrid.proofs.Words.{with_cell, with_row_cells, ◌&&◌, ◌||◌}
use Rattle.std.specs.Prelude.{nat_eq}
use Rattle.std.proofs.lemmas.Bool.{cases_Bool, cases_eq, and_from}
use Rattle.std.proofs.lemmas.Bool.Decides.{nat_tests}
use Rattle.std.proofs.lemmas.List.{get_or-set_same, get_or-set_other, get_or_append_left, get_or-append-add}
use Rattle.std.proofs.lemmas.Nat.{same_from_place}
use Rattle.automata_base.proofs.Paths.Orders.{none_some, some_inj}
use Rattle.automata_hybrid.specs.Known.Stores.{has_steps_at}
use Rattle.automata_hybrid.specs.Private.Cache.Clears.{IsUnwritten}
use Rattle.automata_hybrid.proofs.Storage.Places.{tags_mod}
use Rattle.automata_hybrid.proofs.Storage.Rows.{Names-new, find_id-push_other}
use Rattle.automata_hybrid.proofs.Known.Rows.{HasPlaces, NamedRow, cell_inside, named_row, places_before}

-- whether the transition in the cell of an ID's row is cached; false if there is no ID
abbrev pub is_known_at : Rows → (class : ℕ) → Option ℕ → Bool
is_known_at t class o = unwrap_or (option_map (λ id. nat_lt (get_or t.cells (cell_at id class) 0) unknown_id) o) false

-- whether a transition of a table is cached
abbrev pub is_cached_in : Rows → Powerset → (class : ℕ) → Bool
is_cached_in t q class = has_steps_at t.of class && is_known_at t class (id_of t q)

-- a class at which rows have transitions
pub record HasSteps (m : Machine) (class : ℕ) : Type 0 where
  pub below : class < m.stride
  pub free : get_or m.template class 0 ≡ unknown_id

steps_at : (m : Machine) (class : ℕ) → has_steps_at m class ≡ true → HasSteps m class
steps_at m class h = record { below = grind (arith, nat_tests); free = grind (arith, nat_tests) }

pub steps_there : (m : Machine) (class : ℕ) → HasSteps m class → has_steps_at m class ≡ true
steps_there m class h =
    let l : class < m.stride = h.below in
    let e : get_or m.template class 0 ≡ unknown_id = h.free in
    grind (arith, nat_tests)

-- transitions agree if they agree at classes at which rows have transitions
same_at :
    (b x y : Bool) → (b ≡ true → x ≡ y) → (b && x) ≡ (b && y)
same_at true x y h = h refl
same_at false x y h = refl

unknown_cell : (n : ℕ) → n ≡ unknown_id → nat_lt n unknown_id ≡ false
unknown_cell n e = grind (arith, nat_tests)

last_of : {A : Type 0} (xs : List A) (y : A) → slice_get (xs ++ y ∷ []) (length xs) ≡ Some y
last_of [] y = refl
last_of (x ∷ xs) y = last_of xs y

-- no transition of a new row is cached
new_row :
    (t : Rows) (r : Row) (class : ℕ) → HasPlaces (with_row_cells t r)
    → length t.cells ≡ (length t.rows + 3) * t.of.stride
    → id_of t r.state ≡ None → HasSteps t.of class
    → is_known_at (with_row_cells t r) class (id_of (with_row_cells t r) r.state) ≡ false
new_row t r class p whole none has =
    let low : length t.cells < 2 ^ 27 =
    subst (λ n. n < 2 ^ 27) (sym whole) (p.ids (length t.rows) r (last_of t.rows r)).1 in
    let at : row_id (length t.cells) r % 2 ^ 27 + class ≡ length t.cells + class =
    ap (λ n. n + class) (tags_mod (length t.cells) r.started (has_patterns r.state) low) in
    ap (is_known_at (with_row_cells t r) class) (Names-new t r whole none)
    ∙ ap (λ n. nat_lt (get_or (t.cells ++ t.of.template) n 0) unknown_id) at
    ∙ unknown_cell (get_or (t.cells ++ t.of.template) (length t.cells + class) 0)
    (get_or-append-add t.cells t.of.template class 0 ∙ has.free)

-- the transitions of other rows are unchanged
other_row :
    (t : Rows) (r : Row) (q : Powerset) (class : ℕ) → HasPlaces t → class < t.of.stride → (o : Option ℕ) → id_of t q ≡ o
    → is_known_at (with_row_cells t r) class o ≡ is_known_at t class o
other_row t r q class p below None named = refl
other_row t r q class p below (Some id) named =
    ap (λ n. nat_lt n unknown_id)
    (get_or_append_left t.cells t.of.template 0 (cell_at id class)
    (cell_inside t id class q p (named_row t id q p named) below))

-- adding a row does not change which transitions are cached
pub added_step :
    (t : Rows) (r : Row) → HasPlaces (with_row_cells t r) → id_of t r.state ≡ None → (q : Powerset) (class : ℕ)
    → is_cached_in (with_row_cells t r) q class ≡ is_cached_in t q class
added_step t r p none q class =
    same_at (has_steps_at t.of class) (is_known_at (with_row_cells t r) class (id_of (with_row_cells t r) q))
    (is_known_at t class (id_of t q))
    (λ h. go (steps_at t.of class h) (cases_Bool (powerset_eq q r.state)))
  where
    old : HasPlaces t
    old = places_before t r p

    go :
        HasSteps t.of class → (powerset_eq q r.state ≡ true) ⊎ (powerset_eq q r.state ≡ false)
        → is_known_at (with_row_cells t r) class (id_of (with_row_cells t r) q) ≡ is_known_at t class (id_of t q)
    go has (inl e) =
        let same : r.state ≡ q = sym ((powerset_eq-Decides q r.state).0 e) in
        subst (λ w. is_known_at (with_row_cells t r) class (id_of (with_row_cells t r) w)
        ≡ is_known_at t class (id_of t w)) same
        (new_row t r class p old.whole none has ∙ sym (ap (is_known_at t class) none))
    go has (inr e) =
        ap (is_known_at (with_row_cells t r) class) (find_id-push_other t.of.stride (3 * t.of.stride) q t.rows r e)
        ∙ other_row t r q class old has.below (id_of t q) refl

-- if no cell was written, no transition is cached
pub unwritten_step :
    (t : Rows) → HasPlaces t → IsUnwritten t → (q : Powerset) (class : ℕ) → is_cached_in t q class ≡ false
unwritten_step t p u q class = go (has_steps_at t.of class) refl where
  none : HasSteps t.of class → (o : Option ℕ) → id_of t q ≡ o → is_known_at t class o ≡ false
  none has None named = refl
  none has (Some id) named =
      let n : NamedRow t id q = named_row t id q p named in
      ap (λ k. nat_lt (get_or t.cells (k + class) 0) unknown_id) n.offset
      ∙ unknown_cell (get_or t.cells ((n.place + 3) * t.of.stride + class) 0)
      (u.cells n.place class n.within has.below ∙ has.free)

  go : (b : Bool) → has_steps_at t.of class ≡ b → (b && is_known_at t class (id_of t q)) ≡ false
  go false e = refl
  go true e = none (steps_at t.of class e) (id_of t q) refl

-- this is the transition that was written
both : (q p : Powerset) (other class : ℕ) → q ≡ p → other ≡ class → (powerset_eq q p && nat_eq other class) ≡ true
both q p other class e f =
    and_from (powerset_eq q p) (nat_eq other class) ((powerset_eq-Decides q p).1 e) (grind (arith, nat_tests))

-- this is another transition
apart :
    (q p : Powerset) (other class : ℕ) → (q ≡ p → other ≡ class → ⊥) → (powerset_eq q p && nat_eq other class) ≡ false
apart q p other class h = go (powerset_eq q p) refl where
  go : (b : Bool) → powerset_eq q p ≡ b → (b && nat_eq other class) ≡ false
  go false e = refl
  go true e = differs (h ((powerset_eq-Decides q p).0 e)) where
    differs : (other ≡ class → ⊥) → nat_eq other class ≡ false
    differs n = grind (arith, nat_tests)

module _ (t : Rows) (id class next : ℕ) (p : Powerset) (places : HasPlaces t) (named : Names t id p)
    (has : HasSteps t.of class)
    (known : next < 2 ^ 31) where
  row : NamedRow t id p
  row = named_row t id p places named

  next_known : nat_lt next unknown_id ≡ true
  next_known = grind (arith, nat_tests)

  -- in any other cell
  elsewhere :
      (q : Powerset) (other i : ℕ) → Names t i q → (cell_at i other ≡ cell_at id class → ⊥)
      → is_known_at (with_cell t id class next) other (Some i)
      ≡ ((powerset_eq q p && nat_eq other class) || is_known_at t other (Some i))
  elsewhere q other i «is» differs =
      ap (λ k. nat_lt k unknown_id) (get_or-set_other t.cells (cell_at id class) (cell_at i other) next 0 differs)
      ∙ ap (λ b. b || is_known_at t other (Some i)) (sym (apart q p other class same))
    where
      same : q ≡ p → other ≡ class → ⊥
      same e f = differs (ap (λ k. k % 2 ^ 27 + other) ids ∙ ap (λ k. id % 2 ^ 27 + k) f) where
        ids : i ≡ id
        ids = some_inj (sym «is» ∙ ap (id_of t) e ∙ named)

  -- in the cell that was written
  here :
      (q : Powerset) (other i : ℕ) → NamedRow t i q → other < t.of.stride → cell_at i other ≡ cell_at id class
      → is_known_at (with_cell t id class next) other (Some i)
      ≡ ((powerset_eq q p && nat_eq other class) || is_known_at t other (Some i))
  here q other i n below e =
      let cell : (n.place + 3) * t.of.stride + other ≡ (row.place + 3) * t.of.stride + class =
      ap (λ k. k + other) (sym n.offset) ∙ e ∙ ap (λ k. k + class) row.offset in
      let same = same_from_place (n.place + 3) other (row.place + 3) class t.of.stride below has.below cell in
      let place : n.place ≡ row.place = omega (arith, same.0) in
      let rows : n.row ≡ row.row = some_inj (sym n.has ∙ ap (slice_get t.rows) place ∙ row.has) in
      let state : q ≡ p = sym n.state ∙ ap (λ (x : Row). x.state) rows ∙ row.state in
      ap (λ k. nat_lt (get_or (set t.cells (cell_at id class) next) k 0) unknown_id) e
      ∙ ap (λ k. nat_lt k unknown_id)
      (get_or-set_same t.cells (cell_at id class) next 0 (cell_inside t id class p places row has.below))
      ∙ next_known
      ∙ ap (λ b. b || is_known_at t other (Some i)) (sym (both q p other class state same.1))

  at_row :
      (q : Powerset) (other : ℕ) → other < t.of.stride → (o : Option ℕ) → id_of t q ≡ o
      → is_known_at (with_cell t id class next) other o
      ≡ ((powerset_eq q p && nat_eq other class) || is_known_at t other o)
  at_row q other below None none =
      ap (λ b. b || false)
      (sym (apart q p other class (λ e f. none_some (sym none ∙ ap (id_of t) e ∙ named))))
  at_row q other below (Some i) is =
      let n : NamedRow t i q = named_row t i q places is in
      ⊎_elim (here q other i n below) (elsewhere q other i is) (cases_eq (cell_at i other) (cell_at id class))

  -- once a cell is written, one more transition is cached
  pub written_step :
      (q : Powerset) (other : ℕ)
      → is_cached_in (with_cell t id class next) q other
      ≡ ((powerset_eq q p && nat_eq other class) || is_cached_in t q other)
  written_step q other = go (has_steps_at t.of other) refl where
    go :
        (b : Bool) → has_steps_at t.of other ≡ b
        → (b && is_known_at (with_cell t id class next) other (id_of t q))
        ≡ ((powerset_eq q p && nat_eq other class) || (b && is_known_at t other (id_of t q)))
    go true e = at_row q other (steps_at t.of other e).below (id_of t q) refl
    go false e = ap (λ b. b || false) (sym (apart q p other class (λ f g. differs g))) where
      differs : other ≡ class → ⊥
      differs g =
          let x : true ≡ false = sym (steps_there t.of class has) ∙ ap (has_steps_at t.of) (sym g) ∙ e in absurd (cc)
