-- The effect of adding rows, writing cells and slots, and clears on what a cache knows.
use Rattle.std.proofs.Common.{◌≡◌, ◌∙◌, ℕ, ◌+◌, ◌*◌, ◌^◌, ◌<◌, List, [], ◌∷◌, ◌++◌, Bool, true, false, cond, Option}
use Rattle.std.proofs.Common.{None, Some, refl, sym, ap}
use Rattle.automata_hybrid.proofs.Words.{AllStarts, fits, id_of, is_some, keep_row, Known, known_in, Leads}
use Rattle.automata_hybrid.proofs.Words.{LeadsToDead, LeadsToNamed, Machine, Names, option_map, Powerset, Row, row_cost}
use Rattle.automata_hybrid.proofs.Words.{row_of, Rows, rows_of_starts, saturated, start_named, Stored}
use Rattle.automata_hybrid.proofs.Words.{with_next, with_row_cells, with_slot, with_table}
use Rattle.std.specs.Prelude.{map, slice_set}
use Rattle.std.proofs.lemmas.List.{map-set}
use Rattle.automata_hybrid.specs.Private.Cache.Clears.{KeepsAllStarts, with_row_once}
use Rattle.automata_hybrid.specs.Private.Cache.Table.{IsSoundTable}
use Rattle.automata_hybrid.specs.Cache.Progress.{progress_cleared}
use Rattle.automata_hybrid.specs.Known.Events as events
use Rattle.automata_hybrid.specs.Known.Known as known
use Rattle.automata_hybrid.proofs.Known.Rooms.{known_with}
use Rattle.automata_hybrid.proofs.Known.Rows.{HasPlaces, NamedRow, named_row, places_before, places_sound, row_in-is}
use Rattle.automata_hybrid.proofs.Known.Starts.{AllStarts-named, AreNamed-more, AreNamed-read, IsNamed, NamesDead}
use Rattle.automata_hybrid.proofs.Known.Starts.{NamesRow, named_read}
use Rattle.automata_hybrid.proofs.Known.Steps.{HasSteps, added_step, unwritten_step, written_step}

-- the start states that a cache knows
abbrev pub starts_in : Stored → List (Option Powerset)
starts_in c = map (start_named c.table) c.starts

-- a cache with one more row knows that row
pub grown_known :
    (c : Stored) (n : ℕ) (r : Row) → AllStarts c.table c.starts → HasPlaces (with_row_cells c.table r)
    → id_of c.table r.state ≡ None
    → known.with_row r (known_with c n) ≡ known_with (with_table c (with_row_cells c.table r)) n
grown_known c n r all p none = λ i. record {
  rows = c.table.rows ++ r ∷ [];
  steps = λ q class. sym (added_step c.table r p none q class) i;
  starts = sym starts i;
  clears = c.clears;
  searched = c.searched;
  count = n;
} where
  starts : map (start_named (with_row_cells c.table r)) c.starts ≡ starts_in c
  starts =
      AreNamed-read (with_row_cells c.table r) c.starts (starts_in c) p
      (AreNamed-more c.table r c.starts (starts_in c)
      (AllStarts-named c.table c.starts (places_before c.table r p) all))

-- a cache with a row that was put into it knows that row, unless its state had one
pub saved_known :
    (c : Stored) (n : ℕ) (r : Row) → AllStarts c.table c.starts → HasPlaces (with_row_once c.table r)
    → known_with (with_table c (with_row_once c.table r)) n
    ≡ record (known_with c n) { rows = keep_row c.table.rows (Some r) }
saved_known c n r all p =
    go (id_of c.table r.state) refl p
    ∙ ap (λ b. record (known_with c n) { rows = cond b c.table.rows (c.table.rows ++ r ∷ []) })
    (row_in-is c.table.of.stride (3 * c.table.of.stride) r.state c.table.rows)
  where
    go :
        (o : Option ℕ) → id_of c.table r.state ≡ o → HasPlaces (cond (is_some o) c.table (with_row_cells c.table r))
        → known_with (with_table c (cond (is_some o) c.table (with_row_cells c.table r))) n
        ≡ record (known_with c n) { rows = cond (is_some o) c.table.rows (c.table.rows ++ r ∷ []) }
    go None e p = sym (grown_known c n r all p e)
    go (Some id) e p = refl

-- a cleared cache knows what was kept
pub emptied_known :
    (old : Stored) (t : Rows) (ids : List ℕ) (n : ℕ)
    → KeepsAllStarts old.table old.starts (record { table = t; starts = ids }) → HasPlaces t
    → known_with
    (record {
      table = t;
      starts = ids;
      clears = saturated (old.clears + 1);
      searched = progress_cleared old.searched;
    })
    n
    ≡ known.cleared (known_with old n)
emptied_known old t ids n keeps p = λ i. record {
  rows = keeps.rows i;
  steps = λ q class. unwritten_step t p keeps.unwritten q class i;
  starts = keeps.names i;
  clears = saturated (old.clears + 1);
  searched = progress_cleared old.searched;
  count = n;
}

-- a transition is written
pub written_known :
    (c : Stored) (n from class next : ℕ) (q : Powerset) → HasPlaces c.table → Names c.table from q
    → HasSteps c.table.of class
    → next < 2 ^ 31 → events.with_step q class (known_with c n) ≡ known_with (with_next c from class next) (n + 1)
written_known c n from class next q p named has low = λ i. record {
  rows = c.table.rows;
  steps = λ state other. sym (written_step c.table from class next q p named has low state other) i;
  starts = starts_in c;
  clears = c.clears;
  searched = c.searched;
  count = n + 1;
}

-- a start state is written
pub begun_known :
    (c : Stored) (n slot id : ℕ) (q : Powerset) → HasPlaces c.table → Leads c.table id q
    → events.with_start slot q (known_with c n) ≡ known_with (with_slot c slot id) (n + 1)
begun_known c n slot id q p leads = λ i. record {
  rows = c.table.rows;
  steps = (known_with c n).steps;
  starts = starts i;
  clears = c.clears;
  searched = c.searched;
  count = n + 1;
} where
  named : Leads c.table id q → IsNamed c.table id (Some q)
  named (LeadsToDead e dies) = NamesDead e (ap Some dies)
  named (LeadsToNamed is) = NamesRow q is refl

  starts : slice_set (starts_in c) slot (Some q) ≡ map (start_named c.table) (slice_set c.starts slot id)
  starts =
      ap (slice_set (starts_in c) slot) (sym (named_read c.table id (Some q) p (named leads)))
      ∙ sym (map-set (start_named c.table) c.starts slot id)

-- a cleared cache into which the row of an ID was put knows what a clear that saves its state leaves
pub saving_known :
    (old fresh : Stored) (id : ℕ) (q : Powerset) → IsSoundTable old.table → Names old.table id q
    → known_in fresh ≡ known.cleared (known_in old)
    → record (known_in fresh) { rows = keep_row fresh.table.rows (row_of old.table id) }
    ≡ known.cleared_saving q (known_in old)
saving_known old fresh id q sound named clear =
    let r : NamedRow old.table id q = named_row old.table id q (places_sound old.table sound) named in
    ap (λ (k : Known). record k { rows = keep_row k.rows (row_of old.table id) }) clear
    ∙ ap
    (λ o. record (known.cleared (known_in old)) { rows = keep_row (rows_of_starts old.table.rows (starts_in old)) o })
    (r.at ∙ sym r.found)

-- a row that fits is added without a clear
pub added_fits :
    (m : Machine) (old new : Stored) (n : ℕ) (emptied : Known) (r : Row) → fits m (known_in old) (row_cost r) ≡ true
    → known_in new ≡ known.with_row r (known_in old)
    → events.with_new_row m emptied r (known_with old n) ≡ Some (known_with new n)
added_fits m old new n emptied r fit more =
    ap
    (λ b. cond b (Some (known.with_row r (known_with old n)))
    (cond (events.refuses_to_clear m (known_with old n)) None (Some (known.with_row r emptied))))
    fit
    ∙ ap (λ (k : Known). Some (record k { count = n })) (sym more)

-- a row that does not fit is added after a clear
pub added_clears :
    (m : Machine) (old between new : Stored) (n : ℕ) (emptied : Known) (r : Row)
    → fits m (known_in old) (row_cost r) ≡ false → events.refuses_to_clear m (known_in old) ≡ false
    → known_in between ≡ emptied → known_in new ≡ known.with_row r (known_in between)
    → events.with_new_row m (record emptied { count = n }) r (known_with old n) ≡ Some (known_with new n)
added_clears m old between new n emptied r full may clear more =
    ap
    (λ b. cond b (Some (known.with_row r (known_with old n)))
    (cond (events.refuses_to_clear m (known_with old n)) None
    (Some (known.with_row r (record emptied { count = n })))))
    full
    ∙ ap (λ b. cond b None (Some (known.with_row r (record emptied { count = n })))) may
    ∙ ap (λ (k : Known). Some (record k { count = n })) (ap (known.with_row r) (sym clear) ∙ sym more)

-- adding a row does not depend on the count of determinizations
pub recounted :
    (m : Machine) (emptied : Known) (r : Row) (c new : Known) (n : ℕ)
    → events.with_new_row m emptied r c ≡ Some new
    → events.with_new_row m (record emptied { count = n }) r (record c { count = n })
    ≡ Some (record new { count = n })
recounted m emptied r c new n added =
    go (fits m c (row_cost r)) (events.refuses_to_clear m c)
    ∙ ap (option_map (λ (k : Known). record k { count = n })) added
  where
    go :
        (b d : Bool)
        → cond b (Some (known.with_row r (record c { count = n })))
        (cond d None (Some (known.with_row r (record emptied { count = n }))))
        ≡ option_map (λ (k : Known). record k { count = n })
        (cond b (Some (known.with_row r c)) (cond d None (Some (known.with_row r emptied))))
    go true d = refl
    go false true = refl
    go false false = refl
