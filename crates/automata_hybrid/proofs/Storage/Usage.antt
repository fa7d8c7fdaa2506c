use Rattle.std.proofs.Common.{◌≡◌, ℕ, ◌+◌, ◌*◌, ◌^◌, ◌<◌, ◌≤◌, length, List, sym, ◌∙◌, subst, arith, true}
use Rattle.std.proofs.Common.{replicate, slice_get, Some, inl}
use Rattle.std.specs.List.{sum_by}
use Rattle.std.proofs.Math.Nat.{lt_of_le_of_lt, mul-le-mul_right}
use Rattle.automata_hybrid.proofs.Words.{AllStarts, fits, IsCache, Known, known_in, Leads, LeadsToDead, LeadsToNamed}
use Rattle.automata_hybrid.proofs.Words.{Machine, minimum_capacity, Names, offset_limit, Powerset, Row, row_cost, Rows}
use Rattle.automata_hybrid.proofs.Words.{Searched, Settings, Stored, usage, with_row, with_row_cells, with_table}
use Rattle.std.proofs.lemmas.List.{length-replicate, get_or-replicate}
use Rattle.std.proofs.lemmas.Option.{slice_get_within, get_or_from_slice_get}
use Rattle.automata_hybrid.specs.Cache.Usage.{row_usage}
use Rattle.automata_hybrid.specs.Cache.Stores.{fresh_store}
use Rattle.automata_hybrid.specs.Private.Cache.Stores.{cache_settings}
use Rattle.automata_hybrid.specs.Private.Cache.Usage.{FitsAny}
use Rattle.automata_hybrid.proofs.Known.Growth.{both_fit, fits_within, used_more}

-- a new state fits in a cache that has at most one row more than start slots
pub few_fits :
    (m : Machine) (c : Known) (bytes : ℕ) → length c.rows ≤ m.slots + 1
    → sum_by row_cost c.rows ≤ length c.rows * m.greatest
    → minimum_capacity m.stride m.slots m.greatest m.fixed ≤ m.capacity → bytes ≤ m.greatest
    → usage m c + row_usage m + bytes ≤ m.capacity
few_fits m c bytes few cheap enough little =
    let more : length c.rows + 3 ≤ m.slots + 4 = omega (arith, few) in
    let le : (length c.rows + 3) * m.stride ≤ (m.slots + 4) * m.stride = mul-le-mul_right m.stride more in
    let le2 : length c.rows * m.greatest ≤ (m.slots + 1) * m.greatest = mul-le-mul_right m.greatest few in
    let e : (2 + m.slots) * m.greatest ≡ (m.slots + 1) * m.greatest + m.greatest = omega arith in
    let f : (5 + m.slots) * m.stride ≡ (m.slots + 4) * m.stride + m.stride = omega arith in
    omega (arith, few, cheap, enough, le, le2, e, f, little)

-- such a cache is within its capacity
few_within :
    (m : Machine) (c : Known) → length c.rows ≤ m.slots + 1 → sum_by row_cost c.rows ≤ length c.rows * m.greatest
    → minimum_capacity m.stride m.slots m.greatest m.fixed ≤ m.capacity → usage m c ≤ m.capacity
few_within m c few cheap enough =
    let fits = few_fits m c 0 few cheap enough (omega arith) in omega (arith, fits)

pub Fits-few :
    (c : Stored) (settings : Settings) → IsCache c settings → length c.table.rows ≤ length c.starts + 1
    → sum_by row_cost c.table.rows ≤ length c.table.rows * c.table.of.greatest → FitsAny c
Fits-few c settings i few cheap bytes little =
    let m : Machine = c.table.of in
    let enough : minimum_capacity m.stride m.slots m.greatest m.fixed ≤ m.capacity =
    subst (λ k. minimum_capacity m.stride k m.greatest m.fixed ≤ m.capacity) i.slots i.enough in
    let offsets : (m.slots + 4) * m.stride < offset_limit =
    subst (λ k. (k + 4) * m.stride < offset_limit) i.slots i.offsets in
    let less : length c.table.rows ≤ m.slots + 1 = subst (λ k. length c.table.rows ≤ k + 1) i.slots few in
    let more : length c.table.rows + 3 ≤ m.slots + 4 = omega (arith, less) in
    both_fit (usage m (known_in c) + row_usage m + bytes) m.capacity ((length c.table.rows + 3) * m.stride) offset_limit
    (few_fits m (known_in c) bytes less cheap enough little)
    (lt_of_le_of_lt (mul-le-mul_right m.stride more) offsets)

-- the greatest cost of a state is at most the capacity
most_fits :
    (stride slots most fixed capacity : ℕ) → minimum_capacity stride slots most fixed ≤ capacity → most ≤ capacity
most_fits stride slots most fixed capacity enough =
    let le : 1 * most ≤ (2 + slots) * most = mul-le-mul_right most (omega arith) in
    omega (arith, le, enough)

pub IsCache-most : (c : Stored) (settings : Settings) → IsCache c settings → c.table.of.greatest < 2 ^ 64
IsCache-most c settings i =
    let le : c.table.of.greatest ≤ c.table.of.capacity =
    most_fits c.table.of.stride (length c.starts) c.table.of.greatest c.table.of.fixed c.table.of.capacity i.enough in
    omega (arith, le, i.bounded)

-- the cache after a row that fits was added
pub IsCache-grown :
    (c : Stored) (settings : Settings) (t : Rows) (r : Row) → IsCache c settings → AllStarts t c.starts
    → t ≡ with_row_cells c.table r → fits c.table.of (known_in c) (row_cost r) ≡ true
    → IsCache (with_table c t) settings
IsCache-grown c settings t r i named e fit =
    let used : usage c.table.of (with_row r (known_in c)) ≤ c.table.of.capacity =
    subst (λ k. k ≤ c.table.of.capacity) (sym (used_more c.table.of (known_in c) r))
    (fits_within c.table.of (known_in c) (row_cost r) fit) in
    record {
      named = named;
      within = subst (λ (u : Rows). usage u.of (known_in (with_table c u)) ≤ u.of.capacity) (sym e) used;
      enough = rw e i.enough;
      offsets = rw e i.offsets;
      slots = rw e i.slots;
      same = rw e i.same;
      bounded = rw e i.bounded;
      counted = i.counted;
    }

-- the cache with another table of few rows that still has the rows named by the slots
pub IsCache-few :
    (c : Stored) (settings : Settings) (t : Rows) → IsCache c settings → AllStarts t c.starts → t.of ≡ c.table.of
    → length t.rows ≤ length c.starts + 1 → sum_by row_cost t.rows ≤ length t.rows * t.of.greatest
    → IsCache (with_table c t) settings
IsCache-few c settings t i named s few cheap =
    let enough : minimum_capacity t.of.stride (length c.starts) t.of.greatest t.of.fixed ≤ t.of.capacity =
    rw s i.enough in
    let slots : length c.starts ≡ t.of.slots = rw s i.slots in
    record {
      named = named;
      within =
          few_within t.of (known_in (with_table c t)) (subst (λ k. length t.rows ≤ k + 1) slots few) cheap
          (subst (λ k. minimum_capacity t.of.stride k t.of.greatest t.of.fixed ≤ t.of.capacity) slots enough);
      enough = enough;
      offsets = rw s i.offsets;
      slots = slots;
      same = rw s i.same;
      bounded = rw s i.bounded;
      counted = i.counted;
    }

unknown_at : (n slot id : ℕ) → slice_get (replicate n (2 ^ 31)) slot ≡ Some id → id ≡ 2 ^ 31
unknown_at n slot id h =
    let within : slot < n =
    subst (λ m. slot < m) (length-replicate n (2 ^ 31)) (slice_get_within (replicate n (2 ^ 31)) slot id h) in
    sym (get_or_from_slice_get (replicate n (2 ^ 31)) slot id 0 h) ∙ get_or-replicate n slot (2 ^ 31) 0 within

pub IsCache-fresh :
    (m : Machine) (settings : Settings) → settings ≡ cache_settings m
    → minimum_capacity m.stride m.slots m.greatest m.fixed ≤ m.capacity → (m.slots + 4) * m.stride < 2 ^ 27
    → m.capacity < 2 ^ 64 → IsCache (fresh_store m) settings
IsCache-fresh m settings same enough offsets bounded =
    let n : length (replicate m.slots (2 ^ 31)) ≡ m.slots = length-replicate m.slots (2 ^ 31) in
    record {
      named = λ slot id h. inl (unknown_at m.slots slot id h);
      within = few_within m (known_in (fresh_store m)) (omega arith) (omega arith) enough;
      enough = rw n enough;
      offsets = rw n offsets;
      slots = n;
      same = same;
      bounded = bounded;
      counted = omega arith;
    }

-- the cache after a clear that keeps only the start states
pub IsCache-cleared :
    (c : Stored) (settings : Settings) (t : Rows) (starts : List ℕ) (clears : ℕ) (searched : Searched)
    → IsCache c settings → AllStarts t starts → t.of ≡ c.table.of → length starts ≡ length c.starts
    → length t.rows ≤ length starts → sum_by row_cost t.rows ≤ length t.rows * t.of.greatest → clears < 2 ^ 64
    → IsCache (record { table = t; starts = starts; clears = clears; searched = searched }) settings
IsCache-cleared c settings t starts clears searched i named s n few cheap counted =
    let enough : minimum_capacity t.of.stride (length starts) t.of.greatest t.of.fixed ≤ t.of.capacity =
    rw (s, n) i.enough in
    let slots : length starts ≡ t.of.slots = rw (s, n) i.slots in
    record {
      named = named;
      within =
          few_within t.of
          (known_in (record { table = t; starts = starts; clears = clears; searched = searched }))
          (subst (λ k. length t.rows ≤ k + 1) slots (omega (arith, few))) cheap
          (subst (λ k. minimum_capacity t.of.stride k t.of.greatest t.of.fixed ≤ t.of.capacity) slots enough);
      enough = enough;
      offsets = rw (s, n) i.offsets;
      slots = slots;
      same = rw s i.same;
      bounded = rw s i.bounded;
      counted = counted;
    }

-- an ID that leads to a state is not the unknown ID
pub Leads-known :
    (t : Rows) (id : ℕ) (q : Powerset) → ((n : ℕ) (p : Powerset) → Names t n p → n < 2 ^ 29) → t.of.stride ≤ 512
    → Leads t id q → id < 2 ^ 31
Leads-known t id q low small (LeadsToDead e d) = omega (arith, e, small)
Leads-known t id q low small (LeadsToNamed h) = omega (arith, low id q h)
