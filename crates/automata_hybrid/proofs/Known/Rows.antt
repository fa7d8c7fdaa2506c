-- The row of a state and its position.
use Rattle.std.proofs.Common.{◌≡◌, ◌∙◌, ℕ, ◌+◌, ◌-◌, ◌*◌, ◌/◌, ◌%◌, ◌^◌, ◌<◌, ◌≤◌, List, [], ◌∷◌, ◌++◌, length, Bool}
use Rattle.std.proofs.Common.{true, false, cond, Option, None, Some, slice_get, refl, sym, ap, subst, arith}
use Rattle.std.proofs.Common.{length-append, length-set, zero, suc}
use Rattle.automata_hybrid.proofs.Words.{cell_at, find_id, has_patterns, is_some, Names, Powerset, powerset_eq}
use Rattle.automata_hybrid.proofs.Words.{powerset_eq-Decides, Row, row_id, row_in, row_of, Rows, RowsFitCells}
use Rattle.automata_hybrid.proofs.Words.{with_cell, with_row_cells}
use Rattle.std.proofs.lemmas.Option.{slice_get_within}
use Rattle.std.proofs.lemmas.Nat.{div-mul-add}
use Rattle.automata_base.proofs.Paths.Orders.{some_inj}
use Rattle.automata_hybrid.specs.Cache.Survival.{HaveDistinctStates}
use Rattle.automata_hybrid.specs.Private.Cache.Table.{HasRowIds, IsSoundTable}
use Rattle.automata_hybrid.proofs.Storage.Places.{find_id-Found, tags_low, tags_mod}
use Rattle.automata_hybrid.proofs.Storage.Rows.{Names-more, inside}

-- rows have a state exactly if they have an ID for it
pub row_in-is : (s at : ℕ) (q : Powerset) (rs : List Row) → is_some (find_id s at q rs) ≡ is_some (row_in rs q)
row_in-is s at q [] = refl
row_in-is s at q (r ∷ rs) = go (powerset_eq q r.state) (row_in-is s (at + s) q rs) where
  go :
      (b : Bool) → is_some (find_id s (at + s) q rs) ≡ is_some (row_in rs q)
      → is_some (cond b (Some (row_id at r)) (find_id s (at + s) q rs)) ≡ is_some (cond b (Some r) (row_in rs q))
  go true e = refl
  go false e = e

-- a row of the table is found by its state
found_at :
    (s at : ℕ) (rs : List Row) (k : ℕ) (r : Row) → slice_get rs k ≡ Some r
    → (id : ℕ) × (find_id s at r.state rs ≡ Some id)
found_at s at [] k r h = cc
found_at s at (x ∷ rs) zero r h =
    let e : x ≡ r = some_inj h in
    let f : powerset_eq r.state x.state ≡ true =
    (powerset_eq-Decides r.state x.state).1 (ap (λ (y : Row). y.state) (sym e)) in
    (row_id at x, ap (λ b. cond b (Some (row_id at x)) (find_id s (at + s) r.state rs)) f)
found_at s at (x ∷ rs) (suc k) r h = go (powerset_eq r.state x.state) (found_at s (at + s) rs k r h) where
  go :
      (b : Bool) → (id : ℕ) × (find_id s (at + s) r.state rs ≡ Some id)
      → (id : ℕ) × (cond b (Some (row_id at x)) (find_id s (at + s) r.state rs) ≡ Some id)
  go true e = (row_id at x, refl)
  go false e = e

-- the row that is found first has the state
pub record Met (rs : List Row) (q : Powerset) (x : Row) : Type 0 where
  pub place : ℕ
  pub has : slice_get rs place ≡ Some x
  pub state : x.state ≡ q

pub row_in-Met : (rs : List Row) (q : Powerset) (x : Row) → row_in rs q ≡ Some x → Met rs q x
row_in-Met [] q x h = cc
row_in-Met (r ∷ rs) q x h = go (powerset_eq q r.state) refl h (λ e. row_in-Met rs q x e) where
  go :
      (b : Bool) → powerset_eq q r.state ≡ b → cond b (Some r) (row_in rs q) ≡ Some x
      → (row_in rs q ≡ Some x → Met rs q x) → Met (r ∷ rs) q x
  go true e h again = record {
    place = 0;
    has = h;
    state = ap (λ (y : Row). y.state) (sym (some_inj h)) ∙ sym ((powerset_eq-Decides q r.state).0 e);
  }
  go false e h again = let f = again h in record { place = suc f.place; has = f.has; state = f.state }

-- what a table needs so that its rows are found at their offsets
pub record HasPlaces (t : Rows) : Type 0 where
  pub positive : 0 < t.of.stride
  pub small : t.of.stride ≤ 512
  pub wide : length t.of.template ≡ t.of.stride
  pub whole : length t.cells ≡ (length t.rows + 3) * t.of.stride
  pub ids : HasRowIds t

pub places_of :
    (t : Rows) → 0 < t.of.stride → t.of.stride ≤ 512 → length t.of.template ≡ t.of.stride → RowsFitCells t → HasPlaces t
places_of t positive small wide rows =
    record { positive = positive; small = small; wide = wide; whole = rows.whole; ids = rows.ids }

pub places_sound : (t : Rows) → IsSoundTable t → HasPlaces t
places_sound t s = places_of t s.template.positive s.template.small s.template.whole s.rows

-- rows with the same offset are the same row
one_place : (s j k : ℕ) → 0 < s → (j + 3) * s ≡ (k + 3) * s → j ≡ k
one_place s j k positive e =
    let a : (j + 3) * s + 0 ≡ (k + 3) * s + 0 = omega (arith, e) in
    let f : j + 3 ≡ k + 3 =
    sym (div-mul-add (j + 3) s 0 positive) ∙ ap (λ n. n / s) a ∙ div-mul-add (k + 3) s 0 positive in
    omega (arith, f)

-- looking up the state of a row finds that row
row_in-at :
    (t : Rows) → HasPlaces t → (k : ℕ) (r : Row) → slice_get t.rows k ≡ Some r → row_in t.rows r.state ≡ Some r
row_in-at t p k r has = go (row_in t.rows r.state) refl where
  s : ℕ
  s = t.of.stride

  there : Names t (row_id ((k + 3) * t.of.stride) r) r.state × ((k + 3) * t.of.stride < 2 ^ 27)
  there = p.ids k r has

  same : (x : Row) → Met t.rows r.state x → x ≡ r
  same x m =
      let here = p.ids m.place x m.has in
      let id : row_id ((m.place + 3) * t.of.stride) x ≡ row_id ((k + 3) * t.of.stride) r =
      some_inj (sym (subst (λ q. Names t (row_id ((m.place + 3) * t.of.stride) x) q) m.state here.0) ∙ there.0) in
      let offset : (m.place + 3) * t.of.stride ≡ (k + 3) * t.of.stride =
      sym (tags_mod _ x.started (has_patterns x.state) here.1) ∙ ap (λ n. n % 2 ^ 27) id
      ∙ tags_mod _ r.started (has_patterns r.state) there.1 in
      let place : m.place ≡ k = one_place t.of.stride m.place k p.positive offset in
      some_inj (sym m.has ∙ ap (slice_get t.rows) place ∙ has)

  go : (o : Option Row) → row_in t.rows r.state ≡ o → row_in t.rows r.state ≡ Some r
  go None e =
      let f : true ≡ false =
      ap is_some (sym there.0) ∙ row_in-is t.of.stride (3 * t.of.stride) r.state t.rows ∙ ap is_some e in
      absurd (cc)
  go (Some x) e = e ∙ ap Some (same x (row_in-Met t.rows r.state x e))

-- rows at different positions have different states
pub distinct_states : (t : Rows) → HasPlaces t → HaveDistinctStates t.rows
distinct_states t p j k x r has_x has_r same =
    let here = p.ids j x has_x in
    let there = p.ids k r has_r in
    let id : row_id ((j + 3) * t.of.stride) x ≡ row_id ((k + 3) * t.of.stride) r =
    some_inj (sym (subst (λ q. Names t (row_id ((j + 3) * t.of.stride) x) q) same here.0) ∙ there.0) in
    let offset : (j + 3) * t.of.stride ≡ (k + 3) * t.of.stride =
    sym (tags_mod _ x.started (has_patterns x.state) here.1) ∙ ap (λ n. n % 2 ^ 27) id
    ∙ tags_mod _ r.started (has_patterns r.state) there.1 in
    one_place t.of.stride j k p.positive offset

-- the row that an ID names
pub record NamedRow (t : Rows) (id : ℕ) (q : Powerset) : Type 0 where
  pub place : ℕ
  pub row : Row
  pub has : slice_get t.rows place ≡ Some row
  pub state : row.state ≡ q
  pub within : place < length t.rows
  pub offset : id % 2 ^ 27 ≡ (place + 3) * t.of.stride
  pub low : id < 2 ^ 29
  pub at : row_of t id ≡ Some row
  pub found : row_in t.rows q ≡ Some row

pub named_row : (t : Rows) (id : ℕ) (q : Powerset) → HasPlaces t → Names t id q → NamedRow t id q
named_row t id q p h =
    let f = find_id-Found t.of.stride (3 * t.of.stride) q t.rows id h in
    let low : (f.place + 3) * t.of.stride < 2 ^ 27 = (p.ids f.place f.row f.has).1 in
    let at : 3 * t.of.stride + f.place * t.of.stride ≡ (f.place + 3) * t.of.stride = omega arith in
    let offset : id % 2 ^ 27 ≡ (f.place + 3) * t.of.stride =
    ap (λ n. n % 2 ^ 27) (f.«is» ∙ ap (λ n. row_id n f.row) at)
    ∙ tags_mod _ f.row.started (has_patterns f.row.state) low in
    let flat : (f.place + 3) * t.of.stride ≡ (f.place + 3) * t.of.stride + 0 = omega arith in
    let index : (id % 2 ^ 27) / t.of.stride ≡ f.place + 3 =
    ap (λ n. n / t.of.stride) (offset ∙ flat) ∙ div-mul-add (f.place + 3) t.of.stride 0 p.positive in
    let back : (id % 2 ^ 27) / t.of.stride - 3 ≡ f.place = omega (arith, index) in
    record {
      place = f.place;
      row = f.row;
      has = f.has;
      state = f.state;
      within = slice_get_within t.rows f.place f.row f.has;
      offset = offset;
      low = rw (f.«is») (tags_low _ f.row.started (has_patterns f.row.state) (omega (arith, low, at)));
      at = ap (slice_get t.rows) back ∙ f.has;
      found = ap (row_in t.rows) (sym f.state) ∙ row_in-at t p f.place f.row f.has;
    }

-- the cell of that row at a class is in the table
pub cell_inside :
    (t : Rows) (id class : ℕ) (q : Powerset) → HasPlaces t → NamedRow t id q → class < t.of.stride
    → cell_at id class < length t.cells
cell_inside t id class q p n l = rw (n.offset, p.whole) (inside n.place (length t.rows) t.of.stride class n.within l)

-- an element of a list stays when more come
slice_get-more :
    {A : Type 0} (xs ys : List A) (k : ℕ) (x : A) → slice_get xs k ≡ Some x → slice_get (xs ++ ys) k ≡ Some x
slice_get-more [] ys k x h = cc
slice_get-more (y ∷ xs) ys zero x h = h
slice_get-more (y ∷ xs) ys (suc k) x h = slice_get-more xs ys k x h

-- a table has places if it has them with one more row
pub places_before : (t : Rows) (r : Row) → HasPlaces (with_row_cells t r) → HasPlaces t
places_before t r p =
    let cells : length (t.cells ++ t.of.template) ≡ length t.cells + length t.of.template =
    length-append t.cells t.of.template in
    let rows : length (t.rows ++ r ∷ []) ≡ length t.rows + 1 = length-append t.rows (r ∷ []) in
    let all : length t.cells + t.of.stride ≡ (length t.rows + 1 + 3) * t.of.stride =
    ap (λ n. length t.cells + n) (sym p.wide) ∙ sym cells ∙ p.whole ∙ ap (λ n. (n + 3) * t.of.stride) rows in
    let wide : length t.cells ≡ (length t.rows + 3) * t.of.stride = omega (arith, all) in
    record {
      positive = p.positive;
      small = p.small;
      wide = p.wide;
      whole = wide;
      ids = ids;
    }
  where
    ids : HasRowIds t
    ids k x has =
        let more = p.ids k x (slice_get-more t.rows (r ∷ []) k x has) in
        let here = found_at t.of.stride (3 * t.of.stride) t.rows k x has in
        let same : here.0 ≡ row_id ((k + 3) * t.of.stride) x =
        some_inj (sym (Names-more t r here.0 x.state here.1) ∙ more.0) in
        (here.1 ∙ ap Some same, more.1)

-- and if it has them after a cell is written
pub places_unwritten : (t : Rows) (id class next : ℕ) → HasPlaces (with_cell t id class next) → HasPlaces t
places_unwritten t id class next p = record {
  positive = p.positive;
  small = p.small;
  wide = p.wide;
  whole = sym (length-set t.cells (cell_at id class) next) ∙ p.whole;
  ids = p.ids;
}
