-- The bounds on what a cache of a DFA knows are kept.
use Rattle.std.proofs.Common.{◌≡◌, ◌∙◌, ℕ, zero, suc, ◌+◌, ◌*◌, ◌≤◌, ◌⊎◌, inl, inr, List, [], ◌∷◌, ◌++◌, length, Bool}
use Rattle.std.proofs.Common.{true, false, cond, Option, None, Some, refl, sym, subst, arith, length-append}
use Rattle.automata_hybrid.proofs.Words.{CacheView, cost, counted, Event, is_some, IsStoreOf, keep_row, Known, known_of}
use Rattle.automata_hybrid.proofs.Words.{Machine, match_kind_of, max_cost, minimum_capacity, Powerset, powerset_eq, Row}
use Rattle.automata_hybrid.proofs.Words.{row_cost, row_in, rows_of_starts, Searched, slice_get, Start, start_named}
use Rattle.automata_hybrid.proofs.Words.{start_state_of, StatesReportOwn, Step, successor, sum_by, usage, with_row}
use Rattle.std.specs.Prelude.{fold}
use Rattle.std.proofs.lemmas.List.{length-map}
use Rattle.std.proofs.lemmas.List.Sums.{sum_by-cons}
use Rattle.automata_base.proofs.Paths.Orders.{none_some, some_inj}
use Rattle.automata_hybrid.specs.Known.Bounds.{IsKnown}
use Rattle.automata_hybrid.specs.Known.Known.{keep_start}
use Rattle.automata_hybrid.proofs.Steps.Events.{asked_state}
use Rattle.automata_hybrid.proofs.Storage.Usage.{few_fits}
use Rattle.automata_hybrid.proofs.Known.Growth.{used_more}
use Rattle.automata_hybrid.proofs.Machines.Costs.{start_cheap, successor_cheap}

-- the costs of a DFA are within its settings
pub record HasBounds (m : Machine) : Type 0 where
  -- each state that an event asks for costs at most the greatest cost
  pub cheap : (e : Event) → cost (asked_state m e) ≤ m.greatest
  -- the capacity is at least the minimum
  pub enough : minimum_capacity m.stride m.slots m.greatest m.fixed ≤ m.capacity

-- the bounds do not depend on the progress of searches or on the count of determinizations
pub known_moved : (m : Machine) (c : Known) (s : Searched) → IsKnown m c → IsKnown m (record c { searched = s })
known_moved m c s k = record { alive = k.alive; cheap = k.cheap; slots = k.slots; within = k.within; clears = k.clears }

pub known_counted : (m : Machine) (c : Known) → IsKnown m c → IsKnown m (counted c)
known_counted m c k = record { alive = k.alive; cheap = k.cheap; slots = k.slots; within = k.within; clears = k.clears }

-- a list has this row
abbrev pub IsIn : List Row → Row → Type 0
IsIn rows r = (place : ℕ) × (slice_get rows place ≡ Some r)

-- a row of a list with one row appended is in the list or is that row
pub in_more : (rows : List Row) (x r : Row) → IsIn (rows ++ x ∷ []) r → IsIn rows r ⊎ (r ≡ x)
in_more [] x r (zero, has) = inr (sym (some_inj has))
in_more [] x r (suc k, has) = absurd (none_some has)
in_more (y ∷ rows) x r (zero, has) = inl (0, has)
in_more (y ∷ rows) x r (suc k, has) = go (in_more rows x r (k, has)) where
  go : IsIn rows r ⊎ (r ≡ x) → IsIn (y ∷ rows) r ⊎ (r ≡ x)
  go (inl had) = inl (suc had.0, had.1)
  go (inr same) = inr same

-- the row found for a state is in the list
pub found_in : (rows : List Row) (q : Powerset) (r : Row) → row_in rows q ≡ Some r → IsIn rows r
found_in [] q r found = absurd (none_some found)
found_in (x ∷ rows) q r found = go (powerset_eq q x.state) found (found_in rows q r) where
  go :
      (b : Bool) → cond b (Some x) (row_in rows q) ≡ Some r → (row_in rows q ≡ Some r → IsIn rows r) → IsIn (x ∷ rows) r
  go true found again = (0, found)
  go false found again = let rest = again found in (suc rest.0, rest.1)

-- all rows of one list are in another
abbrev pub AreOf : (old rows : List Row) → Type 0
AreOf old rows = (r : Row) → IsIn rows r → IsIn old r

-- this holds with one more row of that list
pub kept_of :
    (old rows : List Row) (o : Option Row) → ((r : Row) → o ≡ Some r → IsIn old r) → AreOf old rows
    → AreOf old (keep_row rows o)
kept_of old rows None has all = all
kept_of old rows (Some x) has all = go (is_some (row_in rows x.state)) where
  pick : (r : Row) → IsIn rows r ⊎ (r ≡ x) → IsIn old r
  pick r (inl had) = all r had
  pick r (inr same) = subst (IsIn old) (sym same) (has x refl)

  go : (b : Bool) → AreOf old (cond b rows (rows ++ x ∷ []))
  go true = all
  go false = λ r is. pick r (in_more rows x r is)

-- keeping a row adds at most one row
pub kept_few : (rows : List Row) (o : Option Row) → length (keep_row rows o) ≤ length rows + 1
kept_few rows None = omega arith
kept_few rows (Some x) = go (is_some (row_in rows x.state)) where
  go : (b : Bool) → length (cond b rows (rows ++ x ∷ [])) ≤ length rows + 1
  go true = omega arith
  go false = omega (arith, length-append rows (x ∷ []))

-- the rows that a clear keeps were there before
start_kept : (old rows : List Row) (start : Option Powerset) → AreOf old rows → AreOf old (keep_start old rows start)
start_kept old rows None all = all
start_kept old rows (Some q) all = kept_of old rows (row_in old q) (λ r found. found_in old q r found) all

starts_kept :
    (old rows : List Row) (starts : List (Option Powerset)) → AreOf old rows
    → AreOf old (fold (keep_start old) rows starts)
starts_kept old rows [] all = all
starts_kept old rows (start ∷ starts) all =
    starts_kept old (keep_start old rows start) starts (start_kept old rows start all)

pub starts_of : (old : List Row) (starts : List (Option Powerset)) → AreOf old (rows_of_starts old starts)
starts_of old starts = starts_kept old [] starts (λ r is. absurd (none_some is.1))

-- a clear keeps at most one row for each slot
start_few : (old rows : List Row) (start : Option Powerset) → length (keep_start old rows start) ≤ length rows + 1
start_few old rows None = omega arith
start_few old rows (Some q) = kept_few rows (row_in old q)

starts_kept_few :
    (old rows : List Row) (starts : List (Option Powerset))
    → length (fold (keep_start old) rows starts) ≤ length rows + length starts
starts_kept_few old rows [] = omega arith
starts_kept_few old rows (start ∷ starts) =
    let rest = starts_kept_few old (keep_start old rows start) starts in
    let first = start_few old rows start in
    omega (arith, rest, first)

pub starts_few : (old : List Row) (starts : List (Option Powerset)) → length (rows_of_starts old starts) ≤ length starts
starts_few old starts = let few = starts_kept_few old [] starts in omega (arith, few)

-- the sum of the costs of states, none of which exceeds the greatest cost
sum_cheap :
    (most : ℕ) (rows : List Row) → ((r : Row) → IsIn rows r → cost r.state ≤ most)
    → sum_by row_cost rows ≤ length rows * most
sum_cheap most [] cheap = omega arith
sum_cheap most (x ∷ rows) cheap =
    let rest = sum_cheap most rows (λ r is. cheap r (suc is.0, is.1)) in
    let first : cost x.state ≤ most = cheap x (0, refl) in
    let sum = sum_by-cons row_cost x rows in
    let one : suc (length rows) * most ≡ length rows * most + most = omega arith in
    omega (arith, rest, first, sum, one)

-- after a clear there is room for one more state
pub emptied_within :
    (m : Machine) (emptied : Known) (r : Row) → HasBounds m → length emptied.rows ≤ m.slots + 1
    → ((x : Row) → IsIn emptied.rows x → cost x.state ≤ m.greatest) → cost r.state ≤ m.greatest
    → usage m (with_row r emptied) ≤ m.capacity
emptied_within m emptied r bounds few cheap little =
    subst (λ n. n ≤ m.capacity) (sym (used_more m emptied r))
    (few_fits m emptied (cost r.state) few (sum_cheap m.greatest emptied.rows cheap) bounds.enough little)

-- what a cache of the DFA knows is within the bounds
stored_known : (c : CacheView) → IsStoreOf c.store c.store.table.of → IsKnown c.store.table.of (known_of c)
stored_known c s = record {
  alive = λ r has. (s.rows.states has.0 r has.1).alive;
  cheap = λ r has. (s.rows.states has.0 r has.1).cheap;
  slots = length-map c.store.starts (start_named c.store.table) ∙ s.slots;
  within = s.within;
  clears = s.clears;
}

pub cache_is_known : (m : Machine) (c : CacheView) → IsStoreOf c.store m → IsKnown m (known_of c)
cache_is_known m c s =
    subst (λ (d : Machine). IsStoreOf c.store d → IsKnown d (known_of c)) s.of (stored_known c) s

-- the costs of a DFA are within its settings
pub dfa_bounds :
    (m : Machine) → m.greatest ≡ max_cost m.nfa → minimum_capacity m.stride m.slots m.greatest m.fixed ≤ m.capacity
    → StatesReportOwn m.nfa → HasBounds m
dfa_bounds m greatest enough own = record { cheap = cheap; enough = enough } where
  cheap : (e : Event) → cost (asked_state m e) ≤ m.greatest
  cheap (Start mode behind) =
      subst (λ n. cost (start_state_of m.nfa mode behind) ≤ n) (sym greatest) (start_cheap m.nfa mode behind)
  cheap (Step q unit) =
      subst (λ n. cost (successor m.nfa (match_kind_of m.config) q unit) ≤ n) (sym greatest)
      (successor_cheap m.nfa own (match_kind_of m.config) q unit)
