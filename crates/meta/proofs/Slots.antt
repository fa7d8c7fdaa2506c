-- The slots that a simulation writes give the spans of the groups.
use Rattle.std.proofs.Common.{ℕ, ◌≡◌, ◌+◌, ◌-◌, ◌*◌, ◌<◌, ◌≤◌, List, ◌++◌}
use Rattle.std.proofs.Common.{Option, Some, None, length, slice_index, take, drop, ◌∙◌, ap, ap₂, refl, sym, arith}
use Rattle.std.proofs.Common.{ne_eqb, append-nil, ⊎_elim, le-leb, lt-ltb, eq-eqb}
use Rattle.std.proofs.lemmas.Bool.{cond-false, cond-true, and_from, and_left, and_right, lt-leb, le-ltb, cases_lt}
use Rattle.std.proofs.lemmas.Bool.{cases_eq}
use Rattle.std.proofs.lemmas.List.{drop_all, get_or_past}
use Rattle.std.proofs.lemmas.List.FromFn.{length-map-range_with_len, get_or-map-range_with_len}
use Rattle.std.proofs.Math.Seq.{take-length}
use Rattle.regex_hir.specs.Find as kit
use Rattle.regex_vm.specs.Found.{cell, group_cells}
use Rattle.regex.specs.Writes.{IsTidy}
use Rattle.regex.proofs.WritesLemmas.{last_write_has}
use Rattle.automata_base.specs.Haystacks.Matches.{Match}
use Rattle.meta.specs.Groups.{group_span, span_between}
use Rattle.meta.specs.Slots.{slot_span, slots_span}

-- what is written back through a slice of the whole vector
pub all_written :
    (count : ℕ) (new old : List ℕ) → length new ≡ count → length old ≡ count
    → take count (new ++ drop (length new) old) ≡ new
all_written count new old same size =
    ap (λ rest. take count (new ++ rest)) (drop_all (length new) old (omega (arith, same, size)))
    ∙ ap (take count) (append-nil new) ∙ ap (λ n. take n new) (sym same) ∙ take-length new

pub length-group_cells : (m : kit.Match) (count : ℕ) → length (group_cells m count) ≡ count
unfolding group_cells
length-group_cells m count = length-map-range_with_len _ 0 count

cell_at :
    (m : kit.Match) (width k slot : ℕ) → k < width → k + 2 ≡ slot
    → slice_index (group_cells m width) k ≡ cell (kit.last_write m.trace.writes slot)
unfolding group_cells
cell_at m width k slot inside is =
    get_or-map-range_with_len (λ j. cell (kit.last_write m.trace.writes (j + 2))) 0 width k k 0 inside (omega arith)
    ∙ ap (λ (s : ℕ). cell (kit.last_write m.trace.writes s)) is

-- the span of two slots of a match that are in order
pub span_of_pair :
    (m : Match) (first last : ℕ) → m.start ≤ first → first ≤ last → last ≤ m.end
    → slot_span m (first + 1) (last + 1) ≡ Some (record { start = first; end = last })
span_of_pair m first last start order end =
    let low : first + 1 - 1 ≡ first = omega arith in
    let high : last + 1 - 1 ≡ last = omega arith in
    cond-true _ _ None
    (and_from _ _ (lt-ltb m.start (first + 1) (omega arith))
    (and_from _ _ (le-leb (first + 1) (last + 1) (omega arith)) (le-leb (last + 1 - 1) m.end (omega arith))))
    ∙ ap₂ (λ (x y : ℕ). Some (record { start = x; end = y })) low high

-- an empty slot gives no span
pub span_of_empty : (m : Match) (last : ℕ) → slot_span m 0 last ≡ None
span_of_empty m last = cond-false _ (Some _) None (and_left _ _ (le-ltb m.start 0 (omega arith)))

pub span_to_empty : (m : Match) (first : ℕ) → slot_span m first 0 ≡ None
span_to_empty m first =
    cond-false _ (Some _) None (⊎_elim
    (λ (none : first < 1). and_left _ _ (le-ltb m.start first (omega (arith, none))))
    (λ (some : 1 ≤ first). and_right _ _ (and_left _ _ (lt-leb first 0 (omega (arith, some)))))
    (cases_lt first 1))

between_none : (o : Option ℕ) → span_between o None ≡ None
between_none None = refl
between_none (Some i) = refl

module _ (m : kit.Match) (found : Match) (starts : found.start ≡ m.start) (ends : found.end ≡ m.trace.end)
    (P : ℕ → Type 0) (tidy : IsTidy P m.start m.trace.end m.trace.writes) where
  between : (group : ℕ) → slot_span found (cell (kit.last_write m.trace.writes (2 * group)))
      (cell (kit.last_write m.trace.writes (2 * group + 1)))
      ≡ span_between (kit.last_write m.trace.writes (2 * group)) (kit.last_write m.trace.writes (2 * group + 1))
  between group =
      let ws = m.trace.writes in
      let Placed : ℕ → Type 0 = λ i. (m.start ≤ i) × (i ≤ m.trace.end) × P i in
      ⊎_elim
      (λ unset. ap₂ (λ (x y : Option ℕ). slot_span found (cell x) (cell y)) unset.0 unset.1
      ∙ span_of_empty found 0 ∙ sym (ap₂ span_between unset.0 unset.1))
      (λ set.
      let first = last_write_has Placed ws (2 * group) set.0 tidy.placed set.2 in
      let last = last_write_has Placed ws (2 * group + 1) set.1 tidy.placed set.3 in
      ap₂ (λ (x y : Option ℕ). slot_span found (cell x) (cell y)) set.2 set.3
      ∙ span_of_pair found set.0 set.1 (omega (arith, first.0, starts)) (omega (arith, set.4))
      (omega (arith, last.1, ends))
      ∙ sym (ap₂ span_between set.2 set.3))
      (tidy.paired group)

  -- the groups of an NFA with these slots
  pub spans_of_slots :
      (width group : ℕ) → ((slot : ℕ) → width + 2 ≤ slot → kit.last_write m.trace.writes slot ≡ None)
      → slots_span found (group_cells m width) group ≡ group_span m group
  spans_of_slots width group unwritten =
      ⊎_elim
      (λ (zero_is : group ≡ 0).
      cond-true _ _ _ (eq-eqb group 0 zero_is)
      ∙ ap₂ (λ (x y : ℕ). Some (record { start = x; end = y })) starts ends
      ∙ sym (cond-true _ _ _ (eq-eqb group 0 zero_is)))
      (λ other.
      cond-false _ _ _ (ne_eqb group 0 other)
      ∙ ⊎_elim
      (λ (inside : 2 * group - 1 < width).
      ap₂ (slot_span found)
      (cell_at m width (2 * group - 2) (2 * group) (omega (arith, other)) (omega (arith, other)))
      (cell_at m width (2 * group - 1) (2 * group + 1) (omega arith) (omega (arith, other)))
      ∙ between group)
      (λ (past : width ≤ 2 * group - 1).
      ap (slot_span found (slice_index (group_cells m width) (2 * group - 2)))
      (get_or_past (group_cells m width) (2 * group - 1) 0 (omega (arith, past, length-group_cells m width)))
      ∙ span_to_empty found _
      ∙ sym (ap (span_between (kit.last_write m.trace.writes (2 * group)))
      (unwritten (2 * group + 1) (omega (arith, past, other)))
      ∙ between_none _))
      (cases_lt (2 * group - 1) width)
      ∙ sym (cond-false _ _ _ (ne_eqb group 0 other)))
      (cases_eq group 0)
