-- How leaps are built from a table: steps on one class, levels of them, and the cells of the last level.
use Rattle.std.proofs.Common.{ℕ, zero, suc, ◌≡◌, ◌∙◌, ◌+◌, ◌-◌, ◌*◌, ◌/◌, ◌%◌, ◌^◌, ◌<◌, ◌≤◌, ◌⊎◌, inl, inr, Bool, true}
use Rattle.std.proofs.Common.{false, List, [], ◌∷◌, ◌++◌, length, refl, slice_index, sym, ap, subst, arith, Option}
use Rattle.std.proofs.Common.{None, Some, drop, slice_get, slice_set, take}
use Rattle.std.proofs.Math.Nat.{mul-le-mul_left, mul-le-mul_right, pow-le-pow_left}
use Rattle.std.proofs.Math.Arith.{digits_lt}
use Rattle.std.proofs.lemmas.Bool.{cases_lt}
use Rattle.std.proofs.lemmas.List.{get_or-append-add, get_or-drop, get_or-set_other, get_or-take, get_or_append_left}
use Rattle.std.proofs.lemmas.List.{get_or_push, length-append, length-drop, length-set, length-take-le}
use Rattle.std.proofs.lemmas.Nat.{div-mul-add, mod-mul-add}
use Rattle.std.specs.Global.{Box}
use Rattle.automata_hybrid.proofs.Words.{AllStarts, Automaton, cell_at, IsCache, IsSlot, known_in, LeadsToStart}
use Rattle.automata_hybrid.proofs.Words.{Machine, minimum_capacity, offset_limit, Rows, RowsFitCells, Settings}
use Rattle.automata_hybrid.proofs.Words.{Stored, unknown_id, usage}
use Rattle.automata_hybrid.proofs.Words.{with_cell, with_next, with_slot}
use Rattle.automata_hybrid.proofs.Known.Growth.{used_by}
use Rattle.automata_hybrid.proofs.Storage.Rows.{leads_on}
use Rattle.automata_hybrid.specs.Private.Cache.Leaps.{AreCacheParts, AreLeaps, AreLeapSteps, IsLevel, IsLevelCell}
use Rattle.automata_hybrid.specs.Private.Cache.Leaps.{IsLeapStep, LeadsToRow, LeapsTo, ReachesRow, leaps_bytes, mark}
use Rattle.automata_base.proofs.Paths.Orders.{some_inj}
use Rattle.automata_hybrid.specs.declared.cache.leaps.Leaps.{Leaps}

-- at most 32 classes have at most `2 ^ 20` sequences of up to four
pub power_small : (n count : ℕ) → n ≤ 32 → count ≤ 4 → n ^ count ≤ 2 ^ 20
power_small n zero few short = omega (arith, pow-le-pow_left few 0)
power_small n (suc zero) few short = omega (arith, pow-le-pow_left few 1)
power_small n (suc (suc zero)) few short = omega (arith, pow-le-pow_left few 2)
power_small n (suc (suc (suc zero))) few short = omega (arith, pow-le-pow_left few 3)
power_small n (suc (suc (suc (suc zero)))) few short = omega (arith, pow-le-pow_left few 4)
power_small n (suc (suc (suc (suc (suc count))))) few short = absurd (omega (arith, short))

-- the length of a slice of `n` numbers
pub slice_long :
    (steps : List ℕ) (from n : ℕ) → from + n ≤ length steps → length (take (from + n - from) (drop from steps)) ≡ n
slice_long steps from n within =
    let e : from + n - from ≡ n = omega arith in
    ap (λ k. length (take k (drop from steps))) e
    ∙ length-take-le n (drop from steps) (omega (arith, within, length-drop from steps))

pub slice_at :
    (steps : List ℕ) (from n class : ℕ) → class < n
    → slice_index (take (from + n - from) (drop from steps)) class ≡ slice_index steps (from + class)
slice_at steps from n class low =
    get_or-take (from + n - from) (drop from steps) class 0 (omega (arith, low)) ∙ get_or-drop from steps class 0

-- a level with few classes has at most `2 ^ 43` cells
pub level_fits : (rows n count : ℕ) → rows ≤ 2 ^ 18 → n ≤ 32 → count ≤ 4 → rows * n ^ count * n ≤ 2 ^ 43
level_fits rows n count many few short =
    let a : n ^ count ≤ 2 ^ 20 = power_small n count few short in
    let b : rows * n ^ count ≤ rows * 2 ^ 20 = mul-le-mul_left rows a in
    let c : rows * n ^ count * n ≤ rows * 2 ^ 20 * n = mul-le-mul_right n b in
    let d : rows * 2 ^ 20 * n ≤ rows * 2 ^ 20 * 32 = mul-le-mul_left (rows * 2 ^ 20) few in
    omega (arith, c, d, many)

-- the offsets of rows are below the limit
pub row_low : (t : Rows) (k : ℕ) → RowsFitCells t → k < length t.rows → (k + 3) * t.of.stride < 2 ^ 27
row_low t k rows known =
    let l : (k + 4) * t.of.stride ≤ (length t.rows + 3) * t.of.stride =
    mul-le-mul_right t.of.stride (omega (arith, known)) in
    let e : (k + 4) * t.of.stride ≡ (k + 3) * t.of.stride + t.of.stride = omega arith in
    omega (arith, l, e, rows.whole, rows.small)

module _ (t : Rows) (n : ℕ) where
  -- a step from a row on a class
  step_at :
      (row class to : ℕ) → class < n → row < length t.rows → to ≤ length t.rows
      → (to < length t.rows → LeadsToRow t row class to)
      → IsLeapStep t n (row * n + class) to
  step_at row class to below known upto leads = record {
    upto = upto;
    from = λ _. subst (λ r. r < length t.rows) (sym (div-mul-add row n class below)) known;
    leads = λ l. subst (λ r. LeadsToRow t r ((row * n + class) % n) to) (sym (div-mul-add row n class below))
        (subst (λ c. LeadsToRow t row c to) (sym (mod-mul-add row n class below)) (leads l));
  }

  -- one more step
  pub steps_more :
      (steps : List ℕ) (row class to : ℕ) → length steps ≡ row * n + class → class < n → row < length t.rows
      → to ≤ length t.rows
      → (to < length t.rows → LeadsToRow t row class to) → AreLeapSteps t n steps → AreLeapSteps t n (steps ++ to ∷ [])
  steps_more steps row class to long below known upto leads are place l = go (cases_lt place (length steps)) where
    go : (place < length steps) ⊎ (length steps ≤ place) → IsLeapStep t n place (slice_index (steps ++ to ∷ []) place)
    go (inl old) = subst (IsLeapStep t n place) (sym (get_or_append_left steps (to ∷ []) 0 place old)) (are place old)
    go (inr new) =
        let here : length steps ≡ place = omega (arith, new, l, length-append steps (to ∷ [])) in
        subst (λ v. IsLeapStep t n place v) (sym (get_or_push steps to 0 place here))
        (subst (λ p. IsLeapStep t n p to) (sym long ∙ here) (step_at row class to below known upto leads))

  -- all steps from the missing row lead to the missing row
  pub steps_none :
      (steps all : List ℕ) → ((k : ℕ) → k < length steps → slice_index all k ≡ slice_index steps k)
      → ((k : ℕ) → length steps ≤ k → k < length all → slice_index all k ≡ length t.rows)
      → AreLeapSteps t n steps → AreLeapSteps t n all
  steps_none steps all below above are place l = go (cases_lt place (length steps)) where
    go : (place < length steps) ⊎ (length steps ≤ place) → IsLeapStep t n place (slice_index all place)
    go (inl old) = subst (IsLeapStep t n place) (sym (below place old)) (are place old)
    go (inr new) = subst (IsLeapStep t n place) (sym (above place new l)) (record {
      upto = omega arith;
      from = λ none. absurd (omega (arith, none));
      leads = λ none. absurd (omega (arith, none));
    })

  -- the steps from each row form the level of one class
  pub level_one :
      (steps level : List ℕ) → length level ≤ length steps
      → ((k : ℕ) → k < length level → slice_index level k ≡ slice_index steps k) → AreLeapSteps t n steps
      → IsLevel t n (suc zero) level
  level_one steps level within same are place l =
      let step : IsLeapStep t n place (slice_index level place) =
      subst (IsLeapStep t n place) (sym (same place l)) (are place (omega (arith, l, within))) in
      record { upto = step.upto; reaches = λ known. (place / n, refl, step.leads known) }

  -- one more cell of a level, with its steps, extends the next level
  level_more :
      (count : ℕ) (level steps next more : List ℕ) (i : ℕ) → length steps ≡ (length t.rows + 1) * n → i < length level
      → length next ≡ i * n → length more ≡ length next + n
      → ((k : ℕ) → k < length next → slice_index more k ≡ slice_index next k)
      → ((class : ℕ) → class < n
      → slice_index more (length next + class) ≡ slice_index steps (slice_index level i * n + class))
      → AreLeapSteps t n steps → IsLevel t n count level → IsLevel t n (suc count) next → IsLevel t n (suc count) more
  level_more count level steps next more i long within at longer below above are before now place l =
      go (cases_lt place (length next)) where
        go : (place < length next) ⊎ (length next ≤ place) → IsLevelCell t n (suc count) place (slice_index more place)
        go (inl old) = subst (IsLevelCell t n (suc count) place) (sym (below place old)) (now place old)
        go (inr new) = subst (IsLevelCell t n (suc count) place) (sym value) cell where
          class : ℕ
          class = place - length next

          low : class < n
          low = omega (arith, new, l, longer)

          here : length next + class ≡ place
          here = omega (arith, new)

          row : ℕ
          row = slice_index level i

          from : IsLevelCell t n count i row
          from = before i within

          value : slice_index more place ≡ slice_index steps (row * n + class)
          value = ap (slice_index more) (sym here) ∙ above class low

          step : IsLeapStep t n (row * n + class) (slice_index steps (row * n + class))
          step = are (row * n + class) (
              let l : row * n + class < suc (length t.rows) * n =
              digits_lt (omega (arith, from.upto)) low in
              let e : suc (length t.rows) ≡ length t.rows + 1 = omega arith in
              subst (λ k. row * n + class < k) (ap (λ k. k * n) e ∙ sym long) l)

          to : ℕ
          to = slice_index steps (row * n + class)

          before_here : place / n ≡ i
          before_here = ap (λ k. k / n) (sym (ap (λ k. k + class) (sym at) ∙ here)) ∙ div-mul-add i n class low

          class_here : place % n ≡ class
          class_here = ap (λ k. k % n) (sym (ap (λ k. k + class) (sym at) ∙ here)) ∙ mod-mul-add i n class low

          cell : IsLevelCell t n (suc count) place to
          cell = record {
            upto = step.upto;
            reaches = λ known. (
              row,
              subst (λ k. ReachesRow t n count k row) (sym before_here)
                  (from.reaches (subst (λ k. k < length t.rows) (div-mul-add row n class low) (step.from known))),
              subst (λ k. LeadsToRow t row k to) (sym class_here)
                  (subst (λ k. LeadsToRow t row k to) (mod-mul-add row n class low)
                  (subst (λ k. LeadsToRow t k ((row * n + class) % n) to) (div-mul-add row n class low)
                  (step.leads known))),
            );
          }

  -- the same, where a slice of the steps is appended
  pub level_append :
      (count : ℕ) (level steps next more piece : List ℕ) (i : ℕ) → length steps ≡ (length t.rows + 1) * n
      → i < length level
      → length next ≡ i * n → more ≡ next ++ piece → length piece ≡ n
      → ((class : ℕ) → class < n → slice_index piece class ≡ slice_index steps (slice_index level i * n + class))
      → AreLeapSteps t n steps → IsLevel t n count level → IsLevel t n (suc count) next → IsLevel t n (suc count) more
  level_append count level steps next more piece i long within at «is» wide same are before now =
      subst (IsLevel t n (suc count)) (sym «is»)
      (level_more count level steps next (next ++ piece) i long within at
      (length-append next piece ∙ ap (λ k. length next + k) wide)
      (λ k l. get_or_append_left next piece 0 k l) (λ class l. get_or-append-add next piece class 0 ∙ same class l) are
      before now)

-- leaps stay those of the table when an unknown cell is written
module _ (t : Rows) (id class next : ℕ) (unknown : unknown_id ≤ slice_index t.cells (cell_at id class)) where
  leads_kept : (row c to : ℕ) → LeadsToRow t row c to → LeadsToRow (with_cell t id class next) row c to
  leads_kept row c to leads = record {
    cell = get_or-set_other t.cells (cell_at id class) ((row + 3) * t.of.stride + c) next 0 other ∙ leads.cell;
    untagged = leads.untagged;
  } where
    other : (row + 3) * t.of.stride + c ≡ cell_at id class → ⊥
    other same =
        let here : slice_index t.cells (cell_at id class) ≡ (to + 3) * t.of.stride =
        ap (slice_index t.cells) (sym same) ∙ leads.cell in
        absurd (omega (arith, here, leads.untagged, unknown))

  reaches_kept :
      (n count place to : ℕ) → ReachesRow t n count place to → ReachesRow (with_cell t id class next) n count place to
  reaches_kept n zero place to same = same
  reaches_kept n (suc count) place to (row, before, leads) =
      (row, reaches_kept n count (place / n) row before, leads_kept row (place % n) to leads)

  leaps_kept : (l : Leaps) → AreLeaps t l → AreLeaps (with_cell t id class next) l
  leaps_kept l are = record {
    of = record { shape = are.of.shape; classes = are.of.classes; rows = are.of.rows };
    cells = are.cells;
    leads = λ place within. go place (are.leads place within);
  } where
    go :
        (place : ℕ) → (slice_index l.cells.items place ≡ mark)
        ⊎ LeapsTo t l.shape place (slice_index l.cells.items place)
        → (slice_index l.cells.items place ≡ mark)
        ⊎ LeapsTo (with_cell t id class next) l.shape place (slice_index l.cells.items place)
    go place (inl marked) = inl marked
    go place (inr leads) = inr (record {
      to = leads.to;
      known = leads.known;
      first = leads.first;
      reaches = reaches_kept l.shape.classes l.shape.reach place leads.to leads.reaches;
    })

-- the parts of a cache without leaps, and with the previous leaps
parts_none : (c : Stored) (nfa : Automaton) → nfa ≡ c.table.of.nfa → AreCacheParts c nfa None
parts_none c nfa same = record { scratch = same; leaps = _; within = _ }

parts_kept :
    (c new : Stored) (nfa : Automaton) (held : Option (Box Leaps)) → new.table.of ≡ c.table.of
    → ((l : Leaps) → AreLeaps c.table l → AreLeaps new.table l) → new.table.rows ≡ c.table.rows
    → AreCacheParts c nfa held → AreCacheParts new nfa held
parts_kept c new nfa None of stay same parts =
    record { scratch = parts.scratch ∙ ap (λ (m : Machine). m.nfa) (sym of); leaps = _; within = _ }
parts_kept c new nfa (Some l) of stay same parts = record {
  scratch = parts.scratch ∙ ap (λ (m : Machine). m.nfa) (sym of);
  leaps = stay l.value parts.leaps;
  within =
      subst (λ (m : Machine). usage m (known_in new) + leaps_bytes (length l.value.cells.items) ≤ m.capacity) (sym of)
      (subst (λ k. k + leaps_bytes (length l.value.cells.items) ≤ c.table.of.capacity)
      (sym (used_by c.table.of (known_in c) (known_in new) same)) parts.within);
}

pub cache_next : (c : Stored) (s : Settings) (id class next : ℕ) → IsCache c s → IsCache (with_next c id class next) s
cache_next c s id class next held = record {
  named = λ slot at is. stays (held.named slot at is);
  within = held.within;
  enough = held.enough;
  offsets = held.offsets;
  slots = held.slots;
  same = held.same;
  bounded = held.bounded;
  counted = held.counted;
} where
  stays : {slot at : ℕ} → IsSlot c.table slot at → IsSlot (with_next c id class next).table slot at
  stays (inl e) = inl e
  stays (inr (q, leads, first)) = inr (q, leads_on c.table id class next leads, first)

-- the parts of a cache after a transition is written into an unknown cell
parts_next :
    (c : Stored) (nfa : Automaton) (held : Option (Box Leaps)) (id class next : ℕ)
    → unknown_id ≤ slice_index c.table.cells (cell_at id class)
    → AreCacheParts c nfa held → AreCacheParts (with_next c id class next) nfa held
parts_next c nfa held id class next unknown =
    parts_kept c (with_next c id class next) nfa held refl (leaps_kept c.table id class next unknown) refl

-- the parts of a cache after a transition is written; leaps are kept only if the cell was unknown
pub parts_written :
    (c : Stored) (nfa : Automaton) (old new : Option (Box Leaps)) (id class next : ℕ) (unknown : Bool)
    → (unknown ≡ true → unknown_id ≤ slice_index c.table.cells (cell_at id class))
    → (unknown ≡ true → new ≡ old) → (unknown ≡ false → new ≡ None)
    → AreCacheParts c nfa old → AreCacheParts (with_next c id class next) nfa new
parts_written c nfa old new id class next unknown free kept dropped parts = go unknown refl where
  go : (b : Bool) → unknown ≡ b → AreCacheParts (with_next c id class next) nfa new
  go true e =
      subst (λ (l : Option (Box Leaps)). AreCacheParts (with_next c id class next) nfa l) (sym (kept e))
      (parts_next c nfa old id class next (free e) parts)
  go false e =
      subst (λ (l : Option (Box Leaps)). AreCacheParts (with_next c id class next) nfa l) (sym (dropped e))
      (parts_none (with_next c id class next) nfa parts.scratch)

-- a cache after a start slot is written
slice_get_set :
    (xs : List ℕ) (i x k y : ℕ) → slice_get (slice_set xs i x) k ≡ Some y → ((k ≡ i) × (y ≡ x))
    ⊎ (slice_get xs k ≡ Some y)
slice_get_set [] i x k y e = inr e
slice_get_set (a ∷ xs) zero x zero y e = inl (refl, sym (some_inj e))
slice_get_set (a ∷ xs) zero x (suc k) y e = inr e
slice_get_set (a ∷ xs) (suc i) x zero y e = inr e
slice_get_set (a ∷ xs) (suc i) x (suc k) y e = go (slice_get_set xs i x k y e) where
  go : ((k ≡ i) × (y ≡ x)) ⊎ (slice_get xs k ≡ Some y) → ((suc k ≡ suc i) × (y ≡ x)) ⊎ (slice_get xs k ≡ Some y)
  go (inl here) = inl (ap suc here.0, here.1)
  go (inr there) = inr there

starts_set :
    (t : Rows) (xs : List ℕ) (slot id : ℕ) → AllStarts t xs → LeadsToStart t id slot
    → AllStarts t (slice_set xs slot id)
starts_set t xs slot id all leads s i e = go (slice_get_set xs slot id s i e) where
  go : ((s ≡ slot) × (i ≡ id)) ⊎ (slice_get xs s ≡ Some i) → IsSlot t s i
  go (inl here) = subst (λ n. IsSlot t n i) (sym here.0) (subst (IsSlot t slot) (sym here.1) (inr leads))
  go (inr there) = all s i there

pub cache_start :
    (c : Stored) (s : Settings) (slot id : ℕ) → LeadsToStart c.table id slot → IsCache c s
    → IsCache (with_slot c slot id) s
cache_start c s slot id leads held =
    let long : length (slice_set c.starts slot id) ≡ length c.starts = length-set c.starts slot id in
    record {
      named = starts_set c.table c.starts slot id held.named leads;
      within = held.within;
      enough =
          subst (λ n. minimum_capacity c.table.of.stride n c.table.of.greatest c.table.of.fixed ≤ c.table.of.capacity)
          (sym long) held.enough;
      offsets = subst (λ n. (n + 4) * c.table.of.stride < offset_limit) (sym long) held.offsets;
      slots = long ∙ held.slots;
      same = held.same;
      bounded = held.bounded;
      counted = held.counted;
    }
