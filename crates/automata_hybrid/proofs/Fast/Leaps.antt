-- Leaps lead where the transitions on their bytes lead one by one.
use Rattle.std.proofs.Common.{ℕ, zero, suc, ◌≡◌, ◌∙◌, ◌+◌, ◌-◌, ◌*◌, ◌/◌, ◌%◌, ◌^◌, ◌<◌, ◌≤◌, ◌⊎◌, Bool, true, false}
use Rattle.std.proofs.Common.{List, Some, length, slice_index, sym, ap, subst, arith, inl, inr}
use Rattle.std.proofs.Math.Nat.{mod-eq_of_lt, mul-le-mul_right, one-le-pow, pow-suc, pow-zero}
use Rattle.std.proofs.Math.Arith.{digits_lt}
use Rattle.std.proofs.lemmas.Nat.{div-mul-add, mod-mul-add}
use Rattle.automata_hybrid.proofs.Words.{cell_of, class_in, Direction, has_patterns, HasOnly, id_of, Input, is_quit}
use Rattle.automata_hybrid.proofs.Words.{IsCell, IsMachine, Leads, Machine, match_kind_of, Names, next, Powerset}
use Rattle.automata_hybrid.proofs.Words.{row_id, Rows, RowsFitCells, Stored, successor, tape_in, Trace}
use Rattle.automata_base.specs.ByteClasses.Classes.{AreClasses}
use Rattle.automata_hybrid.specs.Cache.Ids.{tags}
use Rattle.automata_hybrid.specs.Private.Cache.Leaps.{AreLeaps, LeadsToRow, LeapsTo, ReachesRow, mark}
use Rattle.automata_hybrid.specs.Private.Cache.Table.{HasState}
use Rattle.automata_hybrid.specs.Private.Fast.Leaps.{IsLeapt, LeadsIds, LeadsOver, column_of}
use Rattle.automata_hybrid.specs.Private.Searches.PassState.{IsRun, IsTagAt}
use Rattle.automata_hybrid.specs.Private.Fast.SelfLoops.{byte_in}
use Rattle.automata_hybrid.specs.declared.cache.leaps.Leaps.{Leaps}
use Rattle.automata_base.proofs.Paths.Orders.{some_inj}
use Rattle.automata_hybrid.proofs.Storage.Leaps.{power_small}
use Rattle.automata_hybrid.proofs.Storage.Places.{Names-Placed, Placed-IsCell}
use Rattle.automata_hybrid.proofs.Searches.PassState.{false_true}
use Rattle.automata_hybrid.proofs.Fast.Runs.{followed_one, run_at, run_id, run_none, run_on, run_to}
use Rattle.automata_hybrid.proofs.Steps.Steps.{byte_leads}

-- a column with one more digit is below the number of columns
pub column_below :
    (column n count class : ℕ) → column < n ^ count → class < n → column * n + class < n ^ suc count
column_below column n count class low below =
    let l : suc column * n ≤ n ^ count * n = mul-le-mul_right n low in
    let e : suc column * n ≡ column * n + n = omega arith in
    omega (arith, l, e, below, pow-suc n count)

-- the index of a row followed by the digits of a column
module _ (t : Rows) (way : Direction) (bytes : List ℕ) (n from row : ℕ) where
  -- one more byte appends its class as a digit
  place_more :
      (count : ℕ) → row * n ^ suc count + column_of t.of.classes n way bytes from (suc count)
      ≡ (row * n ^ count + column_of t.of.classes n way bytes from count) * n
      + class_in t.of.classes (byte_in way bytes (from + count))
  place_more count =
      let class : ℕ = class_in t.of.classes (byte_in way bytes (from + count)) in
      let column : ℕ = column_of t.of.classes n way bytes from count in
      ap (λ p. row * p + (column * n + class)) (pow-suc n count) ∙ moved (n ^ count) column class
    where
      moved : (p column class : ℕ) → row * (p * n) + (column * n + class) ≡ (row * p + column) * n + class
      moved p column class = grind arith

  -- these digits lead where the bytes lead
  reaches_over :
      ((k : ℕ) → class_in t.of.classes (byte_in way bytes k) < n)
      → (count to : ℕ) → ReachesRow t n count (row * n ^ count + column_of t.of.classes n way bytes from count) to
      → LeadsOver t way bytes from count row to
  reaches_over small zero to same =
      let e : row ≡ row * n ^ 0 + 0 = omega (arith, ap (λ p. row * p) (pow-zero n)) in
      e ∙ same
  reaches_over small (suc count) to (at, before, leads) =
      let class : ℕ = class_in t.of.classes (byte_in way bytes (from + count)) in
      let low : class < n = small (from + count) in
      let place : ℕ = row * n ^ count + column_of t.of.classes n way bytes from count in
      let quotient : (row * n ^ suc count + column_of t.of.classes n way bytes from (suc count)) / n ≡ place =
      ap (λ k. k / n) (place_more count) ∙ div-mul-add place n class low in
      let rest : (row * n ^ suc count + column_of t.of.classes n way bytes from (suc count)) % n ≡ class =
      ap (λ k. k % n) (place_more count) ∙ mod-mul-add place n class low in (
        at,
        reaches_over small count at (subst (λ k. ReachesRow t n count k at) quotient before),
        subst
            (λ k. LeadsToRow t at k to) rest leads,
      )

-- some bytes, and then more bytes
over_on :
    (t : Rows) (way : Direction) (bytes : List ℕ) (row at first count to : ℕ) → LeadsOver t way bytes 0 first row at
    → LeadsOver t way bytes first count at to → LeadsOver t way bytes 0 (first + count) row to
over_on t way bytes row at first zero to before same =
    let e : first ≡ first + 0 = omega arith in
    subst (λ n. LeadsOver t way bytes 0 n row to) e (subst (LeadsOver t way bytes 0 first row) same before)
over_on t way bytes row at first (suc count) to before (mid, more, leads) =
    let e : suc (first + count) ≡ first + suc count = omega arith in
    let place : first + count ≡ 0 + (first + count) = omega arith in
    subst (λ n. LeadsOver t way bytes 0 n row to) e (
      mid,
      over_on t way bytes row at first count mid before more,
      subst (λ k. LeadsToRow t mid (class_in t.of.classes (byte_in way bytes k)) to) place leads,
    )

module _ {s : Trace} {way : Direction} {m : Machine} {c : Stored} {input : Input} {place : ℕ} (machine : IsMachine m)
    (are : AreClasses m.classes) (of : c.table.of ≡ m) (rows : RowsFitCells c.table) where
  -- a run over one byte, by the cell of a row
  run_one :
      (row byte to : ℕ) → byte < 256 → next (tape_in way input) place ≡ Some byte
      → IsTagAt s way m c.table input 0 place ((row + 3) * c.table.of.stride)
      → LeadsToRow c.table row (class_in c.table.of.classes byte) to
      → IsRun s way m c input 0 place (suc place) ((to + 3) * c.table.of.stride)
  run_one row byte to few unit at leads = record {
    followed =
        followed_one way m c input 0 place id next_id byte at.kind only unit known (omega (arith, below))
        (λ quits. absurd (false_true (sym (both (s.state place) at.on.named).0 ∙ quits)))
        (λ _ _ q n. (both q n).1) at.on;
    only = only;
  } where
    id : ℕ
    id = (row + 3) * c.table.of.stride

    next_id : ℕ
    next_id = (to + 3) * c.table.of.stride

    class : ℕ
    class = class_in m.classes byte

    only : HasOnly 0 next_id
    only = record { from = omega arith; below = omega (arith, leads.untagged) }

    below : class < c.table.of.stride
    below = subst (λ (n : Machine). class < n.stride) (sym of) (omega (arith, machine.below, are.below byte few))

    value : cell_of c id class ≡ next_id
    value =
        ap (λ n. slice_index c.table.cells (n + class))
        (mod-eq_of_lt (let l : id < 2 ^ 27 = omega (arith, at.only.below) in l))
        ∙ ap (λ (k : Machine). slice_index c.table.cells (id + class_in k.classes byte)) (sym of) ∙ leads.cell

    known : cell_of c id class < 2 ^ 31
    known = subst (λ n. n < 2 ^ 31) (sym value) (omega (arith, leads.untagged))

    both :
        (q : Powerset) → Names c.table id q → (is_quit m.quits byte ≡ false)
        × Leads c.table next_id (successor m.nfa (match_kind_of m.config) q (Some byte))
    both q n = byte_leads m c q next_id byte machine of (omega (arith, leads.untagged)) few
        (subst (IsCell c.table q class) value
        (Placed-IsCell c.table id class q rows (Names-Placed c.table id q rows n) below))

module _ {s : Trace} {way : Direction} {m : Machine} {c : Stored} {input : Input} {place : ℕ} (bytes : List ℕ)
    (machine : IsMachine m) (are : AreClasses m.classes) (of : c.table.of ≡ m) (rows : RowsFitCells c.table)
    (small : (k : ℕ) → byte_in way bytes k < 256)
    (units : (k : ℕ) → k < length bytes → next (tape_in way input) (place + k) ≡ Some (byte_in way bytes k)) where
  run_rows :
      (len row to : ℕ) → len ≤ length bytes → IsTagAt s way m c.table input 0 place ((row + 3) * c.table.of.stride)
      → LeadsOver c.table way bytes 0 len row to
      → IsRun s way m c input 0 place (place + len) ((to + 3) * c.table.of.stride)
  run_rows zero row to within at same =
      let here : place ≡ place + 0 = omega arith in
      run_to here (subst (λ k. IsRun s way m c input 0 place place ((k + 3) * c.table.of.stride)) same (run_none at))
  run_rows (suc len) row to within at (mid, before, leads) =
      let here : suc (place + len) ≡ place + suc len = omega arith in
      let one : 0 + len ≡ len = omega arith in
      let run : IsRun s way m c input 0 place (place + len) ((mid + 3) * c.table.of.stride) =
      run_rows len row mid (omega (arith, within)) at before in
      run_to here
      (run_on run
      (run_one machine are of rows mid (byte_in way bytes len) to (small len) (units len (omega (arith, within)))
      (run_at at.kind at.on.trace run)
      (subst (λ k. LeadsToRow c.table mid (class_in c.table.of.classes (byte_in way bytes k)) to) one leads)))

  -- a run along the bytes that lead from one ID to another
  pub run_over :
      {len id to : ℕ} → IsTagAt s way m c.table input 0 place id → LeadsIds c.table way bytes len id to
      → IsRun s way m c input 0 place (place + len) to
  run_over {len} {id} {to} at ids =
      run_id (sym ids.ends)
      (run_rows len ids.row ids.to ids.within (subst (IsTagAt s way m c.table input 0 place) ids.begins at) ids.over)

-- a column with one more digit is at most `2 ^ 25`
pub column_fits : (column n count : ℕ) → n ≤ 32 → count ≤ 4 → column < n ^ count → column * n ≤ 2 ^ 25
column_fits column n count few short low =
    let a : n ^ count ≤ 2 ^ 20 = power_small n count few short in
    let b : column * n ≤ 2 ^ 20 * n = mul-le-mul_right n (omega (arith, low, a)) in
    omega (arith, b, few)

-- the classes of bytes are classes of the leaps
classes_small :
    {t : Rows} {l : Leaps} (way : Direction) (bytes : List ℕ) → AreLeaps t l → AreClasses t.of.classes
    → ((k : ℕ) → byte_in way bytes k < 256)
    → (k : ℕ) → class_in t.of.classes (byte_in way bytes k) < l.shape.classes
classes_small {t} {l} way bytes are classes small k =
    omega (arith, are.of.classes, classes.below (byte_in way bytes k) (small k))

module _ {t : Rows} {l : Leaps} (way : Direction) (bytes : List ℕ) {row at first : ℕ} (are : AreLeaps t l)
    (small : (k : ℕ) → class_in t.of.classes (byte_in way bytes k) < l.shape.classes)
    (leapt : IsLeapt t l.shape way bytes row at first) where
  -- the cell in a column of the row that the leaps have reached
  leap_within : (column : ℕ) → column < l.shape.classes ^ l.shape.reach → first + column < length l.cells.items
  leap_within column low =
      subst (λ k. first + column < k) (sym are.cells)
      (subst (λ k. k + column < l.shape.rows * l.shape.width) (sym leapt.first)
      (digits_lt leapt.known (subst (λ k. column < k) (sym are.of.shape.width) low)))

  -- one leap more
  leap_more :
      (cell : ℕ) → at + l.shape.reach ≤ length bytes
      → cell ≡ slice_index l.cells.items (first + column_of t.of.classes l.shape.classes way bytes at l.shape.reach)
      → first + column_of t.of.classes l.shape.classes way bytes at l.shape.reach < length l.cells.items
      → (cell ≡ mark → ⊥) → IsLeapt t l.shape way bytes row (at + l.shape.reach) cell
  leap_more cell within read inside unmarked = go (are.leads (first + column) inside) where
    column : ℕ
    column = column_of t.of.classes l.shape.classes way bytes at l.shape.reach

    place : first + column ≡ leapt.to * l.shape.classes ^ l.shape.reach + column
    place = ap (λ k. k + column) (leapt.first ∙ ap (λ k. leapt.to * k) are.of.shape.width)

    go :
        (slice_index l.cells.items (first + column) ≡ mark)
        ⊎ LeapsTo t l.shape (first + column) (slice_index l.cells.items (first + column))
        → IsLeapt t l.shape way bytes row (at + l.shape.reach) cell
    go (inl marked) = absurd (unmarked (read ∙ marked))
    go (inr leads) = record {
      to = leads.to;
      known = leads.known;
      first = read ∙ leads.first;
      within = within;
      over =
          over_on t way bytes row leapt.to at l.shape.reach leads.to leapt.over
          (reaches_over t way bytes l.shape.classes at leapt.to small l.shape.reach leads.to
          (subst (λ k. ReachesRow t l.shape.classes l.shape.reach k leads.to) place leads.reaches));
    }

-- the cell in the column of the bytes at a place
module _ {m : Machine} {t : Rows} {l : Leaps} (way : Direction) (bytes : List ℕ) {row at first reach column : ℕ}
    (of : t.of ≡ m) (rising : AreClasses m.classes)
    (fits : (k : ℕ) → byte_in way bytes k < 256) (are : AreLeaps t l) (far : reach ≡ l.shape.reach)
    (value : column ≡ column_of m.classes l.shape.classes way bytes at reach) (below : column < l.shape.classes ^ reach)
    (leapt : IsLeapt t l.shape way bytes row at first) where
  small : (k : ℕ) → class_in t.of.classes (byte_in way bytes k) < l.shape.classes
  small = classes_small way bytes are (subst (λ (n : Machine). AreClasses n.classes) (sym of) rising) fits

  pub cell_within : first + column < length l.cells.items
  cell_within = leap_within way bytes are small leapt column (subst (λ r. column < l.shape.classes ^ r) far below)

  is_column : column ≡ column_of t.of.classes l.shape.classes way bytes at l.shape.reach
  is_column =
      value ∙ (ap (λ (n : Machine). column_of n.classes l.shape.classes way bytes at reach) (sym of)
      ∙ ap (λ r. column_of t.of.classes l.shape.classes way bytes at r) far)

  pub leapt_more :
      (cell : ℕ) → reach ≤ length bytes - at → cell ≡ slice_index l.cells.items (first + column) → (cell ≡ mark → ⊥)
      → IsLeapt t l.shape way bytes row (at + reach) cell
  leapt_more cell left read unmarked =
      subst (λ r. IsLeapt t l.shape way bytes row (at + r) cell) (sym far)
      (leap_more way bytes are small leapt cell (omega (arith, left, far, leapt.within))
      (read ∙ ap (λ k. slice_index l.cells.items (first + k)) is_column)
      (subst (λ k. first + k < length l.cells.items) is_column cell_within) unmarked)

-- an ID without a tag is the offset of its row
pub row_of_id :
    (t : Rows) (id k : ℕ) (q : Powerset) → RowsFitCells t → Names t id q → id < 2 ^ 27 → HasState t k q
    → id ≡ (k + 3) * t.of.stride
row_of_id t id k q rows named low (r, has, state) =
    let ids = rows.ids k r has in
    let same : id ≡ row_id ((k + 3) * t.of.stride) r = some_inj (sym named ∙ (ap (id_of t) (sym state) ∙ ids.0)) in
    plain r.started (has_patterns r.state) same
  where
    plain : (a b : Bool) → id ≡ (k + 3) * t.of.stride + tags a b → id ≡ (k + 3) * t.of.stride
    plain true true e = absurd (omega (arith, e, low))
    plain true false e = absurd (omega (arith, e, low))
    plain false true e = absurd (omega (arith, e, low))
    plain false false e = omega (arith, e)

-- the row whose cells begin at a place
pub row_of_place :
    {t : Rows} {l : Leaps} {way : Direction} {bytes : List ℕ} {row len place : ℕ} → AreLeaps t l
    → (leapt : IsLeapt t l.shape way bytes row len place)
    → place / l.shape.width ≡ leapt.to
row_of_place {t} {l} {way} {bytes} {row} {len} {place} are leapt =
    let some : 1 ≤ l.shape.classes = omega (arith, are.of.classes) in
    let wide : 0 < l.shape.width = omega (arith, are.of.shape.width, one-le-pow l.shape.reach l.shape.classes some) in
    let e : place ≡ leapt.to * l.shape.width + 0 = omega (arith, leapt.first) in
    ap (λ k. k / l.shape.width) e ∙ div-mul-add leapt.to l.shape.width 0 wide
