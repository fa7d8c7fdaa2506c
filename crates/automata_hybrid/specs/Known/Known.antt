-- What a cache knows: the states that have rows, and which transitions and start states are cached, without the IDs and
-- cells that hold it.
use Rattle.std.specs.Prelude.{ℕ, ◌+◌, List, [], ◌∷◌, ◌++◌, Bool, false, cond, ◌||◌, fold, find, Option, None, Some}
use Rattle.std.specs.Prelude.{is_some, option_and_then}
use Rattle.automata_determinize.specs.Powersets.Equal.{powerset_eq}
use Rattle.automata_base.specs.Powersets.Powerset.{Powerset, dead}
use Rattle.automata_hybrid.specs.Cache.Progress.{progress_cleared, progress_finished, progress_started}
use Rattle.automata_hybrid.specs.Cache.Progress.{progress_updated, saturated}
use Rattle.automata_hybrid.specs.declared.cache.progress.Searched.{Searched}
use Rattle.automata_hybrid.specs.declared.cache.row.Row.{Row}

-- what a cache knows
pub record Known : Type 0 where
  -- the rows of its states, oldest first, each with its start tag
  pub rows : List Row
  -- whether the transition from a state at a class is cached; the automaton says where it leads
  pub steps : Powerset → (class : ℕ) → Bool
  -- for each start slot, its start state if that is cached
  pub starts : List (Option Powerset)
  -- how often it was cleared, up to the largest 64-bit number
  pub clears : ℕ
  -- the progress of searches
  pub searched : Searched
  -- the count of determinizations
  pub count : ℕ

-- the row of a state, if it has one
abbrev pub row_in : List Row → Powerset → Option Row
row_in rows q = find (λ (r : Row). powerset_eq q r.state) rows

-- a state is there: it is dead, which needs no row, or it has a row
abbrev pub has_state : Known → Powerset → Bool
has_state c q = powerset_eq q dead || is_some (row_in c.rows q)

-- what is known with one more row
abbrev pub with_row : Row → Known → Known
with_row r c = record c { rows = c.rows ++ r ∷ [] }

-- rows with the row that was found, if one was found and its state has no row yet
abbrev pub keep_row : List Row → Option Row → List Row
keep_row rows None = rows
keep_row rows (Some r) = cond (is_some (row_in rows r.state)) rows (rows ++ r ∷ [])

-- rows with the row of a slot's start state, if that is cached
abbrev pub keep_start : (old kept : List Row) → (start : Option Powerset) → List Row
keep_start old kept start = keep_row kept (option_and_then (row_in old) start)

-- the rows of the start states that are cached, in the order of their slots, each once
abbrev pub rows_of_starts : (old : List Row) → (starts : List (Option Powerset)) → List Row
rows_of_starts old starts = fold (keep_start old) [] starts

-- what is known after a clear, which keeps the start states
abbrev pub cleared : Known → Known
cleared c = record c {
  rows = rows_of_starts c.rows c.starts;
  steps = λ q class. false;
  clears = saturated (c.clears + 1);
  searched = progress_cleared c.searched;
}

-- what is known after a clear that keeps the row of one more state
abbrev pub cleared_saving : Powerset → Known → Known
cleared_saving q c = record (cleared c) { rows = keep_row (rows_of_starts c.rows c.starts) (row_in c.rows q) }

-- what is known once a search begins at an offset
abbrev pub begun : (at : ℕ) → Known → Known
begun at c = record c { searched = progress_started c.searched at }

-- what is known once the search moves to an offset
abbrev pub moved : (at : ℕ) → Known → Known
moved at c = record c { searched = progress_updated c.searched at }

-- what is known once the search ends at an offset
abbrev pub ended : (at : ℕ) → Known → Known
ended at c = record c { searched = progress_finished c.searched at }

-- what is known with one more determinization counted
abbrev pub counted : Known → Known
counted c = record c { count = c.count + 1 }
