-- The states of the rows of a table, one by one.
use Rattle.std.proofs.Common.{◌≡◌, ◌∙◌, ℕ, ◌+◌, ◌-◌, ◌*◌, ◌%◌, ◌^◌, ◌<◌, ◌≤◌, suc, List, [], ◌∷◌, length, Some, drop}
use Rattle.std.proofs.Common.{take, get_or, slice_get, ◌⊎◌, inl, inr, Option, refl, sym, ap, subst, arith}
use Rattle.automata_hybrid.proofs.Words.{CellLeads, CellQuits, CellUnknown, has_patterns, IsCell, IsUnit, Leads}
use Rattle.automata_hybrid.proofs.Words.{match_kind_of, Names, quit_id, Row, row_id, RowsFitCells, Stored, successor}
use Rattle.automata_hybrid.proofs.Words.{unit_class}
use Rattle.automata_hybrid.specs.Cache.States.{IsTransition, transition_on, HeldState, IsHeldState, held_states}
use Rattle.automata_hybrid.specs.Cache.States.{states_from}
use Rattle.automata_hybrid.specs.Private.Cache.Table.{HasOwnStates}
use Rattle.std.proofs.lemmas.List.{get_or-drop, get_or-take, length-drop}
use Rattle.std.specs.List.{AllByRecursion}
use Rattle.automata_hybrid.specs.Private.Cache.States.{AreRowsLeft}
use Rattle.automata_hybrid.proofs.Storage.Places.{tags_mod}

-- the state of a row
abbrev pub held : (stride at : ℕ) (cells : List ℕ) → Row → HeldState
held s at cells r = record { id = row_id at r; state = r.state; transitions = take s cells }

-- the first of the remaining rows, and the rows after it
pub record IsFirstRow (s at : ℕ) (cells : List ℕ) (rows : List Row) (r : Row) : Type 0 where
  pub states : states_from s at cells rows ≡ held s at cells r ∷ states_from s (at + s) (drop s cells) (drop 1 rows)
  pub enough : s ≤ length cells
  pub below : at < 2 ^ 27
  pub left : AreRowsLeft s (at + s) (drop s cells) (drop 1 rows)
  pub fits : at + s < 2 ^ 64

pub first_row :
    (s at : ℕ) (cells : List ℕ) (rows : List Row) (d : Row) → 0 < length rows → AreRowsLeft s at cells rows
    → IsFirstRow s at cells rows (get_or rows 0 d)
first_row s at cells [] d l i = absurd (omega (arith, l))
first_row s at cells (r ∷ rows) d l i =
    let all : suc (length rows) * s ≡ s + length rows * s = omega arith in
    let whole : length cells ≡ s + length rows * s = i.whole ∙ all in
    let after : length (drop s cells) ≡ length cells - s = length-drop s cells in
    record {
      states = refl;
      enough = omega (arith, whole);
      below = omega (arith, whole, i.small);
      left = record {
        whole = omega (arith, whole, after);
        small = omega (arith, whole, after, i.small);
        narrow = i.narrow;
      };
      fits = omega (arith, whole, i.small, i.narrow);
    }

-- the state of a row of a cache is one that the cache holds
held_one :
    (c : Stored) (k at : ℕ) (cells : List ℕ) (r : Row) → RowsFitCells c.table → HasOwnStates c.table
    → at ≡ (k + 3) * c.table.of.stride → slice_get c.table.rows k ≡ Some r
    → ((n : ℕ) → get_or cells n 0 ≡ get_or c.table.cells (at + n) 0) → IsHeldState c (held c.table.of.stride at cells r)
held_one c k at cells r fits own_states same has read =
    let own = fits.ids k r has in
    let low : at < 2 ^ 27 = subst (λ n. n < 2 ^ 27) (sym same) own.1 in
    let offset : row_id at r % 2 ^ 27 ≡ at = tags_mod at r.started (has_patterns r.state) low in
    record {
      named = named;
      cells = λ class l. get_or-take c.table.of.stride cells class 0 l ∙ read class
          ∙ ap (λ n. get_or c.table.cells (n + class) 0) (sym offset);
      leads = λ unit is below. leads unit is below;
      own = own_states (row_id at r) r.state named;
    }
  where
    named : Names c.table (row_id at r) r.state
    named = subst (λ n. Names c.table (row_id n r) r.state) (sym same) (fits.ids k r has).0

    leads :
        (unit : Option ℕ) → IsUnit unit → unit_class c.table.of unit < c.table.of.stride
        → IsTransition c (held c.table.of.stride at cells r) unit
    leads unit is below low =
        go (subst (IsCell c.table r.state class) (sym value) (fits.stepped k class r has below)) where
          class : ℕ
          class = unit_class c.table.of unit

          id : ℕ
          id = transition_on c (held c.table.of.stride at cells r) unit

          value : id ≡ get_or c.table.cells ((k + 3) * c.table.of.stride + class) 0
          value =
              get_or-take c.table.of.stride cells class 0 below ∙ read class
              ∙ ap (λ n. get_or c.table.cells (n + class) 0) same

          go :
              IsCell c.table r.state class id
              → (id ≡ quit_id c.table.of.stride)
              ⊎ Leads c.table id (successor c.table.of.nfa (match_kind_of c.table.of.config) r.state unit)
          go (CellQuits at_quit quits) = inl quits
          go (CellUnknown free unknown) = absurd (omega (arith, low, unknown))
          go (CellLeads free all) = inr (all unit is refl)

held_from :
    (c : Stored) (k at : ℕ) (cells : List ℕ) (rows : List Row) → RowsFitCells c.table → HasOwnStates c.table
    → at ≡ (k + 3) * c.table.of.stride
    → ((j : ℕ) (r : Row) → slice_get rows j ≡ Some r → slice_get c.table.rows (k + j) ≡ Some r)
    → ((n : ℕ) → get_or cells n 0 ≡ get_or c.table.cells (at + n) 0)
    → AllByRecursion (IsHeldState c) (states_from c.table.of.stride at cells rows)
held_from c k at cells [] fits own same has read = tt
held_from c k at cells (r ∷ rows) fits own same has read =
    let s = c.table.of.stride in
    let here : k + 0 ≡ k = omega arith in
    let next : at + s ≡ (suc k + 3) * s = omega (arith, same) in (
      held_one c k at cells r fits own same (subst (λ n. slice_get c.table.rows n ≡ Some r) here (has 0 r refl)) read,
      held_from c (suc k) (at + s) (drop s cells) rows fits own next
          (λ j x h.
          (let e : k + suc j ≡ suc k + j = omega arith in
          subst (λ n. slice_get c.table.rows n ≡ Some x) e (has (suc j) x h)))
          (λ n. (let e : at + (s + n) ≡ at + s + n = omega arith in
          get_or-drop s cells n 0 ∙ read (s + n) ∙ ap (λ i. get_or c.table.cells i 0) e)),
    )

-- a cache holds every state listed for its table
pub all_held :
    (c : Stored) → RowsFitCells c.table → HasOwnStates c.table → AllByRecursion (IsHeldState c) (held_states c.table)
all_held c fits own =
    held_from c 0 (3 * c.table.of.stride) (drop (3 * c.table.of.stride) c.table.cells) c.table.rows fits own refl
    (λ j r h. (let e : j ≡ 0 + j = omega arith in subst (λ n. slice_get c.table.rows n ≡ Some r) e h))
    (λ n. get_or-drop (3 * c.table.of.stride) c.table.cells n 0)
