-- What follows from an event, by what a cache knows: how the cache grows, and what is cached afterwards.
use Rattle.std.proofs.Common.{◌≡◌, ◌∙◌, ℕ, zero, suc, ◌+◌, ◌-◌, ◌^◌, ◌<◌, ◌≤◌, ◌⊎◌, inl, inr, List, [], ◌∷◌, ◌++◌}
use Rattle.std.proofs.Common.{length, Bool, true, false, cond, Option, None, Some, refl, sym, ap, subst, arith, ⊎_elim}
use Rattle.std.proofs.Common.{append-nil, length-set}
use Rattle.automata_hybrid.proofs.Words.{after_event, Anchored, cleared, cost, counted, dead, Event, fits, has_state}
use Rattle.automata_hybrid.proofs.Words.{is_cached, is_some, Known, Machine, made, match_kind_of, option_map, Powerset}
use Rattle.automata_hybrid.proofs.Words.{powerset_eq, powerset_eq-Decides, quits_on, Row, row_cost, row_in}
use Rattle.automata_hybrid.proofs.Words.{rows_of_starts}
use Rattle.automata_hybrid.proofs.Words.{saturated, Searched, slice_get, slot_behind, Start, start_row, start_state_of}
use Rattle.automata_hybrid.proofs.Words.{StartError, Step, StepError, successor, unit_class, unwrap_or, usage}
use Rattle.automata_hybrid.proofs.Words.{with_new_row, with_row, ◌&&◌, ◌||◌}
use Rattle.std.specs.Prelude.{slice_set, nat_eq}
use Rattle.std.proofs.lemmas.Bool.{cases_eq, or_right, and_from, or_left, or_cases}
use Rattle.std.proofs.lemmas.Bool.Decides.{nat_tests}
use Rattle.automata_base.proofs.Paths.Orders.{none_some, some_inj}
use Rattle.automata_hybrid.specs.Cache.Progress.{progress_cleared}
use Rattle.automata_hybrid.specs.Known.Bounds.{IsKnown}
use Rattle.automata_hybrid.specs.Known.Effects.{ClearsAll, ClearsFor, ClearsNothing, EventFollows, EventsFollow}
use Rattle.automata_hybrid.specs.Known.Effects.{FailureFollows, KnowsId, StartsFollow, StepFollows, StepsFollow}
use Rattle.automata_hybrid.specs.Known.Effects.{asked_row, KnowsFixed, KnowsRow}
use Rattle.automata_hybrid.specs.Known.Events.{refuses_to_clear}
use Rattle.automata_hybrid.specs.Known.Events.{with_start, with_state, with_step}
use Rattle.automata_hybrid.specs.Known.Growth.{ClearedNothing, HasRoom, HasRow, IsGrown, IsStartRow, Keeps}
use Rattle.automata_hybrid.specs.Known.Known.{cleared_saving}
use Rattle.automata_hybrid.specs.Known.Walks.{with_restored_row}
use Rattle.automata_hybrid.specs.Known.Steps.{GivesUpOnStart, IsNotSupported, IsQuitBehind, IsStepRun, RunsOutOnStart}
use Rattle.automata_hybrid.specs.Known.Steps.{StartFails, StepFails, id_in}
use Rattle.automata_hybrid.proofs.Known.Bounds.{AreOf, HasBounds, IsIn, emptied_within, found_in, in_more, kept_few}
use Rattle.automata_hybrid.proofs.Known.Bounds.{kept_of, known_counted, known_moved, starts_few, starts_of}
use Rattle.automata_hybrid.proofs.Known.Growth.{fits_within, used_by, used_more, grown_counted, grown_same, grown_still}
use Rattle.automata_hybrid.proofs.Known.Growth.{grown_trans, room_by, room_fits, room_left, room_less}
use Rattle.automata_hybrid.proofs.Searches.PassState.{false_true}

-- reading a written element gives the new value
set_same :
    {X : Type 0} (xs : List X) (k : ℕ) (x v : X) → slice_get xs k ≡ Some x → slice_get (slice_set xs k v) k ≡ Some v
set_same [] k x v has = absurd (none_some has)
set_same (y ∷ xs) zero x v has = refl
set_same (y ∷ xs) (suc k) x v has = set_same xs k x v has

-- any other element is unchanged
set_other :
    {X : Type 0} (xs : List X) (k j : ℕ) (v : X) → (j ≡ k → ⊥) → slice_get (slice_set xs k v) j ≡ slice_get xs j
set_other [] k j v other = refl
set_other (y ∷ xs) zero zero v other = absurd (other refl)
set_other (y ∷ xs) zero (suc j) v other = refl
set_other (y ∷ xs) (suc k) zero v other = refl
set_other (y ∷ xs) (suc k) (suc j) v other = set_other xs k j v (λ e. other (ap suc e))

-- what a clear leaves, with or without a saved state
record Empties (old emptied : Known) : Type 0 where
  pub clears : emptied.clears ≡ saturated (old.clears + 1)
  pub starts : emptied.starts ≡ old.starts
  pub count : emptied.count ≡ old.count
  pub rows : AreOf old.rows emptied.rows
  pub few : length emptied.rows ≤ length old.starts + 1
  pub searched : emptied.searched ≡ progress_cleared old.searched

empties_all : (c : Known) → Empties c (cleared c)
empties_all c = record {
  clears = refl;
  starts = refl;
  count = refl;
  rows = starts_of c.rows c.starts;
  few = (let few = starts_few c.rows c.starts in omega (arith, few));
  searched = refl;
}

empties_saving : (q : Powerset) (c : Known) → Empties c (cleared_saving q c)
empties_saving q c = record {
  clears = refl;
  starts = refl;
  count = refl;
  rows =
      kept_of c.rows (rows_of_starts c.rows c.starts) (row_in c.rows q) (λ r found. found_in c.rows q r found)
      (starts_of c.rows c.starts);
  few = (
      let few = starts_few c.rows c.starts in
      let more = kept_few (rows_of_starts c.rows c.starts) (row_in c.rows q) in
      omega (arith, few, more));
  searched = refl;
}

-- a state that is not there is not dead
absent_alive : (c : Known) (q : Powerset) → has_state c q ≡ false → q ≡ dead → ⊥
absent_alive c q free dies =
    let same : powerset_eq q dead ≡ true = (powerset_eq-Decides q dead).1 dies in
    false_true (sym free ∙ ap (λ b. b || is_some (row_in c.rows q)) same)

-- how a row comes to be there
data IsAdded (m : Machine) (emptied : Known) (r : Row) (old new : Known) : Type 0 where
  WasThere : has_state old r.state ≡ true → new ≡ old → IsAdded m emptied r old new
  DidFit :
      has_state old r.state ≡ false → fits m old (row_cost r) ≡ true → new ≡ with_row r old
      → IsAdded m emptied r old new
  WasCleared :
      has_state old r.state ≡ false → fits m old (row_cost r) ≡ false → refuses_to_clear m old ≡ false
      → new ≡ with_row r emptied → IsAdded m emptied r old new

added :
    (m : Machine) (emptied : Known) (r : Row) (old new : Known) → with_state m emptied r old ≡ Some new
    → IsAdded m emptied r old new
added m emptied r old new is = there (has_state old r.state) refl is where
  cleared_first :
      (b : Bool) → has_state old r.state ≡ false → fits m old (row_cost r) ≡ false → refuses_to_clear m old ≡ b
      → ◌≡◌ {A = Option Known} (cond b None (Some (with_row r emptied))) (Some new) → IsAdded m emptied r old new
  cleared_first true free full refuses is = absurd (none_some is)
  cleared_first false free full allows is = WasCleared free full allows (sym (some_inj is))

  absent :
      (b : Bool) → has_state old r.state ≡ false → fits m old (row_cost r) ≡ b
      → ◌≡◌ {A = Option Known}
      (cond b (Some (with_row r old)) (cond (refuses_to_clear m old) None (Some (with_row r emptied)))) (Some new)
      → IsAdded m emptied r old new
  absent true free fit is = DidFit free fit (sym (some_inj is))
  absent false free full is = cleared_first (refuses_to_clear m old) free full refl is

  there :
      (b : Bool) → has_state old r.state ≡ b
      → ◌≡◌ {A = Option Known}
      (cond b (Some old) (cond (fits m old (row_cost r)) (Some (with_row r old))
      (cond (refuses_to_clear m old) None (Some (with_row r emptied)))))
      (Some new)
      → IsAdded m emptied r old new
  there true has is = WasThere has (sym (some_inj is))
  there false free is = absent (fits m old (row_cost r)) free refl is

-- adding the row does not change the start states
starts_between :
    (m : Machine) (emptied : Known) (r : Row) (old between : Known) → emptied.starts ≡ old.starts
    → IsAdded m emptied r old between → between.starts ≡ old.starts
starts_between m emptied r old between same (WasThere there e) = ap (λ (c : Known). c.starts) e
starts_between m emptied r old between same (DidFit free fit e) = ap (λ (c : Known). c.starts) e
starts_between m emptied r old between same (WasCleared free full allows e) = ap (λ (c : Known). c.starts) e ∙ same

-- what writing a transition or a start state changes
record Writes (m : Machine) (old new : Known) : Type 0 where
  pub rows : new.rows ≡ old.rows
  pub clears : new.clears ≡ old.clears
  pub count : new.count ≡ old.count + 1
  pub slots : length new.starts ≡ length old.starts
  pub starts :
      (mode : Anchored) (behind : Option ℕ) → is_cached m (Start mode behind) old ≡ true
      → is_cached m (Start mode behind) new ≡ true
  pub steps : (q : Powerset) (class : ℕ) → old.steps q class ≡ true → new.steps q class ≡ true
  pub searched : new.searched ≡ old.searched

-- what follows from an event whose state is determinized
record Determinizes (m : Machine) (e : Event) (old new : Known) : Type 0 where
  pub grown : IsGrown m old new
  pub counted : new.count ≡ old.count + 1
  pub learned : is_cached m e new ≡ true
  pub sound : IsKnown m new
  pub rows : (r : Row) → HasRow new r → HasRow old r ⊎ ((r ≡ asked_row m e) × (has_state old r.state ≡ false))
  pub clears : ClearsFor m (asked_row m e) old new

-- a state is added, and then a transition or a start state is written
module _ (m : Machine) (emptied : Known) (r : Row) (old between new : Known) (sound : IsKnown m old)
    (bounds : HasBounds m) (cheap : cost r.state ≤ m.greatest) (empties : Empties old emptied)
    (adds : IsAdded m emptied r old between)
    (writes : Writes m between new) (tags : r.started ≡ true → IsStartRow m new r) where
  count_between : between.count ≡ old.count
  count_between = go adds where
    go : IsAdded m emptied r old between → between.count ≡ old.count
    go (WasThere there e) = ap (λ (c : Known). c.count) e
    go (DidFit free fit e) = ap (λ (c : Known). c.count) e
    go (WasCleared free full allows e) = ap (λ (c : Known). c.count) e ∙ empties.count

  count : new.count ≡ old.count + 1
  count = writes.count ∙ ap (λ n. n + 1) count_between

  kept_starts :
      (mode : Anchored) (behind : Option ℕ) → is_cached m (Start mode behind) old ≡ true
      → is_cached m (Start mode behind) new ≡ true
  kept_starts mode behind has =
      writes.starts mode behind
      (subst (λ (s : List (Option Powerset)). is_cached m (Start mode behind) (record between { starts = s }) ≡ true)
      (sym (starts_between m emptied r old between empties.starts adds)) has)

  -- the count of clears is unchanged or rises by one
  clears_after : (new.clears ≡ old.clears) ⊎ (new.clears ≡ saturated (old.clears + 1))
  clears_after = go adds where
    go : IsAdded m emptied r old between → (new.clears ≡ old.clears) ⊎ (new.clears ≡ saturated (old.clears + 1))
    go (WasThere there e) = inl (writes.clears ∙ ap (λ (c : Known). c.clears) e)
    go (DidFit free fit e) = inl (writes.clears ∙ ap (λ (c : Known). c.clears) e)
    go (WasCleared free full allows e) = inr (writes.clears ∙ ap (λ (c : Known). c.clears) e ∙ empties.clears)

  clears_bound : (old.clears ≤ new.clears) × (new.clears < 2 ^ 64)
  clears_bound = go clears_after where
    go :
        (new.clears ≡ old.clears) ⊎ (new.clears ≡ saturated (old.clears + 1))
        → (old.clears ≤ new.clears) × (new.clears < 2 ^ 64)
    go (inl e) = (omega (arith, e), omega (arith, e, sound.clears))
    go (inr e) = (omega (arith, e, sound.clears), omega (arith, e, sound.clears))

  kept : ClearedNothing old new → Keeps old new
  kept nothing = go adds where
    go : IsAdded m emptied r old between → Keeps old new
    go (WasThere there e) = record {
      added = [];
      rows = writes.rows ∙ ap (λ (c : Known). c.rows) e ∙ sym (append-nil old.rows);
      steps = λ q class known. writes.steps q class (subst (λ (c : Known). c.steps q class ≡ true) (sym e) known);
    }
    go (DidFit free fit e) = record {
      added = r ∷ [];
      rows = writes.rows ∙ ap (λ (c : Known). c.rows) e;
      steps = λ q class known. writes.steps q class (subst (λ (c : Known). c.steps q class ≡ true) (sym e) known);
    }
    go (WasCleared free full allows e) =
        let up : new.clears ≡ saturated (old.clears + 1) =
        writes.clears ∙ ap (λ (c : Known). c.clears) e ∙ empties.clears in
        absurd (omega (arith, up, nothing.0, nothing.1))

  roomy :
      (states : ℕ) → HasRoom m old (states + (new.count - old.count)) → HasRoom m new states × (new.clears ≡ old.clears)
  roomy states room = go adds where
    one : HasRoom m old (states + 1)
    one = room_less m old (states + (new.count - old.count)) (states + 1) (omega (arith, count)) room

    go : IsAdded m emptied r old between → HasRoom m new states × (new.clears ≡ old.clears)
    go (WasThere there e) = (
      room_by m old new states (writes.rows ∙ ap (λ (c : Known). c.rows) e)
          (room_less m old (states + 1) states (omega arith) one),
      writes.clears ∙ ap (λ (c : Known). c.clears) e,
    )
    go (DidFit free fit e) = (
      room_by m (with_row r old) new states (writes.rows ∙ ap (λ (c : Known). c.rows) e)
          (room_left m old r states cheap one),
      writes.clears ∙ ap (λ (c : Known). c.clears) e,
    )
    go (WasCleared free full allows e) = absurd (false_true (sym full ∙ room_fits m old r states cheap one))

  -- no other row is added
  rows_made : (x : Row) → HasRow new x → HasRow old x ⊎ ((x ≡ r) × (has_state old x.state ≡ false))
  rows_made x has = go adds (has.0, subst (λ (rows : List Row). slice_get rows has.0 ≡ Some x) writes.rows has.1) where
    last :
        has_state old r.state ≡ false → IsIn old.rows x ⊎ (x ≡ r)
        → HasRow old x ⊎ ((x ≡ r) × (has_state old x.state ≡ false))
    last free (inl had) = inl had
    last free (inr same) = inr (same, subst (λ (y : Row). has_state old y.state ≡ false) (sym same) free)

    from : IsIn emptied.rows x ⊎ (x ≡ r) → IsIn old.rows x ⊎ (x ≡ r)
    from (inl had) = inl (empties.rows x had)
    from (inr same) = inr same

    go : IsAdded m emptied r old between → HasRow between x → HasRow old x ⊎ ((x ≡ r) × (has_state old x.state ≡ false))
    go (WasThere there e) is = inl (subst (λ (c : Known). HasRow c x) e is)
    go (DidFit free fit e) is = last free (in_more old.rows r x (subst (λ (c : Known). HasRow c x) e is))
    go (WasCleared free full allows e) is =
        last free (from (in_more emptied.rows r x (subst (λ (c : Known). HasRow c x) e is)))

  -- what is known then still satisfies `IsKnown`
  sound_made : IsKnown m new
  sound_made = record {
    alive = λ x has. alive x (rows_made x has);
    cheap = λ x has. cheap_one x (rows_made x has);
    slots =
        writes.slots
        ∙ ap (λ (s : List (Option Powerset)). length s) (starts_between m emptied r old between empties.starts adds)
        ∙ sound.slots;
    within = subst (λ n. n ≤ m.capacity) (sym (used_by m between new writes.rows)) (used adds);
    clears = clears_bound.1;
  } where
    few : {k slots starts : ℕ} → k ≤ starts + 1 → starts ≡ slots → k ≤ slots + 1
    few le same = omega (arith, le, same)

    alive : (x : Row) → HasRow old x ⊎ ((x ≡ r) × (has_state old x.state ≡ false)) → x.state ≡ dead → ⊥
    alive x (inl had) = sound.alive x had
    alive x (inr new) = absent_alive old x.state new.1

    cheap_one : (x : Row) → HasRow old x ⊎ ((x ≡ r) × (has_state old x.state ≡ false)) → cost x.state ≤ m.greatest
    cheap_one x (inl had) = sound.cheap x had
    cheap_one x (inr new) = subst (λ (y : Row). cost y.state ≤ m.greatest) (sym new.0) cheap

    used : IsAdded m emptied r old between → usage m between ≤ m.capacity
    used (WasThere there e) = subst (λ (c : Known). usage m c ≤ m.capacity) (sym e) sound.within
    used (DidFit free fit e) =
        subst (λ (c : Known). usage m c ≤ m.capacity) (sym e)
        (subst (λ n. n ≤ m.capacity) (sym (used_more m old r)) (fits_within m old (row_cost r) fit))
    used (WasCleared free full allows e) =
        subst (λ (c : Known). usage m c ≤ m.capacity) (sym e)
        (emptied_within m emptied r bounds (few empties.few sound.slots)
        (λ x has. sound.cheap x (empties.rows x has)) cheap)

  -- the cache is cleared only for this row
  clears_made : ClearsFor m r old new
  clears_made = go adds where
    go : IsAdded m emptied r old between → ClearsFor m r old new
    go (WasThere there e) =
        ClearsNothing (writes.clears ∙ ap (λ (c : Known). c.clears) e)
        (writes.searched ∙ ap (λ (c : Known). c.searched) e)
    go (DidFit free fit e) =
        ClearsNothing (writes.clears ∙ ap (λ (c : Known). c.clears) e)
        (writes.searched ∙ ap (λ (c : Known). c.searched) e)
    go (WasCleared free full allows e) =
        ClearsAll free full allows (writes.clears ∙ ap (λ (c : Known). c.clears) e ∙ empties.clears)
        (writes.searched ∙ ap (λ (c : Known). c.searched) e ∙ empties.searched)

  grown_made : IsGrown m old new
  grown_made = record {
    counted = omega (arith, count);
    clears = clears_bound.0;
    starts = kept_starts;
    tagged = λ x has started. tagged x started (rows_made x has);
    idle = λ same. absurd (omega (arith, same, count));
    kept = kept;
    roomy = roomy;
  } where
    tagged :
        (x : Row) → x.started ≡ true → HasRow old x ⊎ ((x ≡ r) × (has_state old x.state ≡ false))
        → HasRow old x ⊎ IsStartRow m new x
    tagged x started (inl had) = inl had
    tagged x started (inr last) =
        inr (subst (IsStartRow m new) (sym last.0) (tags (subst (λ (y : Row). y.started ≡ true) last.0 started)))

  all_made : (e : Event) → r ≡ asked_row m e → is_cached m e new ≡ true → Determinizes m e old new
  all_made e asked learned = record {
    grown = grown_made;
    counted = count;
    learned = learned;
    sound = sound_made;
    rows =
        λ x has. subst (λ (y : Row). HasRow old x ⊎ ((x ≡ y) × (has_state old x.state ≡ false))) asked
        (rows_made x has);
    clears = subst (λ (y : Row). ClearsFor m y old new) asked clears_made;
  }

-- what follows from putting back a state: the cache grows as by one determinization
pub record BackFollows (m : Machine) (q : Powerset) (old new : Known) : Type 0 where
  pub grown : IsGrown m old (counted new)
  pub sound : IsKnown m new
  pub counted_same : new.count ≡ old.count
  -- if it was there, nothing changes
  pub there : is_some (row_in old.rows q) ≡ true → new ≡ old
  -- it is there afterwards
  pub has : (q ≡ dead → ⊥) → is_some (row_in new.rows q) ≡ true

-- the state of the last row has a row
row_in_last : (rows : List Row) (r : Row) → is_some (row_in (rows ++ r ∷ []) r.state) ≡ true
row_in_last [] r =
    ap (λ b. is_some (cond b (Some r) None)) ((powerset_eq-Decides r.state r.state).1 refl)
row_in_last (x ∷ rows) r = go (powerset_eq r.state x.state) (row_in_last rows r) where
  go :
      (b : Bool) → is_some (row_in (rows ++ r ∷ []) r.state) ≡ true
      → is_some (cond b (Some x) (row_in (rows ++ r ∷ []) r.state)) ≡ true
  go true rest = refl
  go false rest = rest

pub back_follows :
    (m : Machine) (q : Powerset) (old new : Known) → IsKnown m old → HasBounds m → cost q ≤ m.greatest
    → with_restored_row m q old ≡ Some new → BackFollows m q old new
back_follows m q old new sound bounds cheap is = record {
  grown =
      grown_made m (cleared old) row old new (counted new) sound bounds cheap (empties_all old) adds writes untagged;
  sound = (
      let s = sound_made m (cleared old) row old new (counted new) sound bounds cheap
      (empties_all old) adds writes untagged in
      record { alive = s.alive; cheap = s.cheap; slots = s.slots; within = s.within; clears = s.clears });
  counted_same =
      count_between m (cleared old) row old new (counted new) sound bounds cheap (empties_all old) adds writes untagged;
  there = λ has. still has adds;
  has = λ alive. there_then alive adds;
} where
  row : Row
  row = record { state = q; started = false }

  adds : IsAdded m (cleared old) row old new
  adds = added m (cleared old) row old new is

  writes : Writes m new (counted new)
  writes = record {
    rows = refl;
    clears = refl;
    count = refl;
    slots = refl;
    starts = λ mode behind has. has;
    steps = λ p class known. known;
    searched = refl;
  }

  untagged : false ≡ true → IsStartRow m (counted new) row
  untagged e = absurd (false_true e)

  still : is_some (row_in old.rows q) ≡ true → IsAdded m (cleared old) row old new → new ≡ old
  still has (WasThere there e) = e
  still has (DidFit free fit e) = absurd (false_true (sym free ∙ or_right (powerset_eq q dead) _ has))
  still has (WasCleared free full allows e) = absurd (false_true (sym free ∙ or_right (powerset_eq q dead) _ has))

  there_then : (q ≡ dead → ⊥) → IsAdded m (cleared old) row old new → is_some (row_in new.rows q) ≡ true
  there_then alive (WasThere there e) =
      subst (λ (c : Known). is_some (row_in c.rows q) ≡ true) (sym e)
      (⊎_elim (λ dies. absurd (alive ((powerset_eq-Decides q dead).0 dies))) (λ has. has)
      (or_cases (powerset_eq q dead) (is_some (row_in old.rows q)) there))
  there_then alive (DidFit free fit e) =
      subst (λ (c : Known). is_some (row_in c.rows q) ≡ true) (sym e) (row_in_last old.rows row)
  there_then alive (WasCleared free full allows e) =
      subst (λ (c : Known). is_some (row_in c.rows q) ≡ true) (sym e) (row_in_last (cleared old).rows row)

-- one that is there is not restored
pub back_there :
    (m : Machine) (q : Powerset) (c : Known) → is_some (row_in c.rows q) ≡ true → with_restored_row m q c ≡ Some c
back_there m q c has =
    ap
    (λ b. cond b (Some c)
    (with_new_row m (cleared c) (record { state = q; started = false }) c))
    (or_right (powerset_eq q dead) (is_some (row_in c.rows q)) has)

-- what follows from an event, once the search has reached it
pub record Follows (m : Machine) (e : Event) (old new : Known) : Type 0 where
  pub grown : IsGrown m old new
  pub counted : new.count ≤ old.count + 1
  -- if what it asks for was cached, nothing was determinized
  pub known : is_cached m e old ≡ true → new.count ≡ old.count
  -- it is cached afterwards
  pub learned : is_cached m e new ≡ true
  pub sound : IsKnown m new

-- a slot that exists and whose start state is not cached is empty
slot_free : (o : Option (Option Powerset)) → unwrap_or (option_map is_some o) true ≡ false → o ≡ Some None
slot_free None free = absurd (false_true (sym free))
slot_free (Some None) free = refl
slot_free (Some (Some q)) free = absurd (false_true (sym free))

pub mapped :
    {A B : Type 0} (f : A → B) (o : Option A) (y : B) → option_map f o ≡ Some y → (x : A) × (o ≡ Some x) × (y ≡ f x)
mapped f None y is = absurd (none_some is)
mapped f (Some x) y is = (x, refl, sym (some_inj is))

same_step : (q : Powerset) (class : ℕ) (b : Bool) → ((powerset_eq q q && nat_eq class class) || b) ≡ true
same_step q class b =
    or_left (powerset_eq q q && nat_eq class class) b
    (and_from (powerset_eq q q) (nat_eq class class) ((powerset_eq-Decides q q).1 refl) (grind (arith, nat_tests)))

-- a slot holds a start state, or is out of range
abbrev IsFull : List (Option Powerset) → (at : ℕ) → Type 0
IsFull starts at = unwrap_or (option_map is_some (slice_get starts at)) true ≡ true

-- what an event asks for is made if it is not cached
module _ (m : Machine) (old : Known) (sound : IsKnown m old) (bounds : HasBounds m) where
  step_follows :
      (q : Powerset) (unit : Option ℕ) (new : Known)
      → cost (successor m.nfa (match_kind_of m.config) q unit) ≤ m.greatest
      → made m (Step q unit) old ≡ Some new → Determinizes m (Step q unit) old new
  step_follows q unit new cheap is =
      subst (Determinizes m (Step q unit) old) (sym from.2)
      (all_made m (cleared_saving q old) row old from.0 (write from.0) sound bounds cheap (empties_saving q old)
      (added m (cleared_saving q old) row old from.0 from.1) (writes from.0) (λ e. absurd (false_true e)) (Step q unit)
      refl (same_step q (unit_class m unit) (from.0.steps q (unit_class m unit))))
    where
      row : Row
      row = record { state = successor m.nfa (match_kind_of m.config) q unit; started = false }

      write : Known → Known
      write c = with_step q (unit_class m unit) c

      from :
          (between : Known) × (with_state m (cleared_saving q old) row old ≡ Some between)
          × (new ≡ with_step q (unit_class m unit) between)
      from = mapped (with_step q (unit_class m unit)) (with_state m (cleared_saving q old) row old) new is

      writes : (c : Known) → Writes m c (write c)
      writes c = record {
        rows = refl;
        clears = refl;
        count = refl;
        slots = refl;
        starts = λ mode behind has. has;
        steps = λ p class known. or_right (powerset_eq p q && nat_eq class (unit_class m unit)) (c.steps p class) known;
        searched = refl;
      }

  start_follows :
      (mode : Anchored) (behind : Option ℕ) (new : Known) → cost (start_state_of m.nfa mode behind) ≤ m.greatest
      → is_cached m (Start mode behind) old ≡ false → made m (Start mode behind) old ≡ Some new
      → Determinizes m (Start mode behind) old new
  start_follows mode behind new cheap free is =
      subst (Determinizes m (Start mode behind) old) (sym from.2)
      (all_made m (cleared old) row old from.0 (write from.0) sound bounds cheap (empties_all old) adds writes tags
      (Start mode behind) refl (ap (λ o. unwrap_or (option_map is_some o) true) there))
    where
      row : Row
      row = start_row m mode behind

      slot : ℕ
      slot = slot_behind m mode behind

      write : Known → Known
      write c = with_start (slot_behind m mode behind) (start_state_of m.nfa mode behind) c

      from :
          (between : Known) × (with_state m (cleared old) row old ≡ Some between)
          × (new ≡ with_start (slot_behind m mode behind) (start_state_of m.nfa mode behind) between)
      from =
          mapped (with_start (slot_behind m mode behind) (start_state_of m.nfa mode behind))
          (with_state m (cleared old) row old) new is

      adds : IsAdded m (cleared old) row old from.0
      adds = added m (cleared old) row old from.0 from.1

      empty : slice_get from.0.starts slot ≡ Some None
      empty =
          subst (λ (s : List (Option Powerset)). slice_get s slot ≡ Some None)
          (sym (starts_between m (cleared old) row old from.0 refl adds))
          (slot_free (slice_get old.starts slot) free)

      there :
          slice_get (slice_set from.0.starts slot (Some (start_state_of m.nfa mode behind))) slot
          ≡ Some (Some (start_state_of m.nfa mode behind))
      there = set_same from.0.starts slot None (Some (start_state_of m.nfa mode behind)) empty

      others : (at : ℕ) → (at ≡ slot) ⊎ (at ≡ slot → ⊥) → IsFull from.0.starts at → IsFull (write from.0).starts at
      others at (inl here) has =
          subst (IsFull (write from.0).starts) (sym here) (ap (λ o. unwrap_or (option_map is_some o) true) there)
      others at (inr other) has =
          ap (λ o. unwrap_or (option_map is_some o) true)
          (set_other from.0.starts slot at (Some (start_state_of m.nfa mode behind)) other)
          ∙ has

      writes : Writes m from.0 (write from.0)
      writes = record {
        rows = refl;
        clears = refl;
        count = refl;
        slots = length-set from.0.starts slot (Some (start_state_of m.nfa mode behind));
        starts = λ other after has. others (slot_behind m other after) (cases_eq (slot_behind m other after) slot) has;
        steps = λ p class known. known;
        searched = refl;
      }

      tags : (start_row m mode behind).started ≡ true → IsStartRow m (write from.0) (start_row m mode behind)
      tags e =
          let cached = ap (λ o. unwrap_or (option_map is_some o) true) there in
          record { mode = mode; behind = behind; row = refl; known = cached }

-- the same, whatever the progress of searches
makes :
    (m : Machine) (old : Known) (s : Searched) (new : Known) → IsKnown m old → HasBounds m → (e : Event)
    → is_cached m e old ≡ false → made m e (record old { searched = s }) ≡ Some new
    → Determinizes m e (record old { searched = s }) new
makes m old s new sound bounds (Start mode behind) free is =
    start_follows m (record old { searched = s }) (known_moved m old s sound) bounds mode behind new
    (bounds.cheap (Start mode behind)) free is
makes m old s new sound bounds (Step q unit) free is =
    step_follows m (record old { searched = s }) (known_moved m old s sound) bounds q unit new
    (bounds.cheap (Step q unit)) is

-- one event, once the search has reached it
module _ (m : Machine) (old : Known) (s : Searched) (new : Known) (sound : IsKnown m old) (bounds : HasBounds m) where
  pub event_follows : (e : Event) → after_event m e (record old { searched = s }) old ≡ Some new → Follows m e old new
  event_follows e is = go (is_cached m e old) refl is where
    go :
        (b : Bool) → is_cached m e old ≡ b → cond b (Some old) (made m e (record old { searched = s })) ≡ Some new
        → Follows m e old new
    go true known is = record {
      grown = grown_same m old new same;
      counted = omega (arith, ap (λ (c : Known). c.count) same);
      known = λ again. ap (λ (c : Known). c.count) same;
      learned = subst (λ (c : Known). is_cached m e c ≡ true) (sym same) known;
      sound = subst (IsKnown m) (sym same) sound;
    } where
      same : new ≡ old
      same = sym (some_inj is)
    go false free is = record {
      grown =
          grown_trans m old (record old { searched = s }) new
          (grown_still m old (record old { searched = s }) refl) d.grown;
      counted = omega (arith, d.counted);
      known = λ known. absurd (false_true (sym free ∙ known));
      learned = d.learned;
      sound = d.sound;
    } where
      d : Determinizes m e (record old { searched = s }) new
      d = makes m old s new sound bounds e free is

-- what follows from every event
pub events_follow : (m : Machine) → HasBounds m → EventsFollow m
events_follow m bounds e old new sound is = go (is_cached m e old) refl is where
  go : (b : Bool) → is_cached m e old ≡ b → cond b (Some old) (made m e old) ≡ Some new → EventFollows m e old new
  go true cached is = record {
    grown = grown_same m old new same;
    sound = subst (IsKnown m) (sym same) sound;
    known = λ again. same;
    computed = λ free. absurd (false_true (sym free ∙ cached));
    learned = subst (λ (c : Known). is_cached m e c ≡ true) (sym same) cached;
    rows = λ r has. inl (subst (λ (c : Known). HasRow c r) same has);
    clears = ClearsNothing (ap (λ (c : Known). c.clears) same) (ap (λ (c : Known). c.searched) same);
  } where
    same : new ≡ old
    same = sym (some_inj is)
  go false free is = record {
    grown = d.grown;
    sound = d.sound;
    known = λ known. absurd (false_true (sym free ∙ known));
    computed = λ again. d.counted;
    learned = d.learned;
    rows = d.rows;
    clears = d.clears;
  } where
    d : Determinizes m e old new
    d = makes m old old.searched new sound bounds e free is

-- an event determinizes at most once
pub event_once : (m : Machine) (e : Event) (old new : Known) → EventFollows m e old new → new.count ≤ old.count + 1
event_once m e old new f = go (is_cached m e old) refl where
  go : (b : Bool) → is_cached m e old ≡ b → new.count ≤ old.count + 1
  go true cached = omega (arith, ap (λ (c : Known). c.count) (f.known cached))
  go false free = omega (arith, f.computed free)

-- a call that fails changes at most the count of determinizations
failed :
    (m : Machine) (old new : Known) → IsKnown m old → (new ≡ old) ⊎ (new ≡ counted old) → FailureFollows m old new
failed m old new sound (inl same) = record {
  grown = grown_same m old new same;
  sound = subst (IsKnown m) (sym same) sound;
  unchanged = inl same;
}
failed m old new sound (inr same) = record {
  grown = grown_counted m old new same;
  sound = subst (IsKnown m) (sym same) (known_counted m old sound);
  unchanged = inr same;
}

pub steps_follow : (m : Machine) → HasBounds m → StepsFollow m
steps_follow m bounds = record { answered = answered; failed = fails } where
  still :
      (id : ℕ) (unit : Option ℕ) (old new : Known) → IsKnown m old
      → (quits_on m unit ≡ false → (q : Powerset) → id_in m old q ≡ Some id → EventFollows m (Step q unit) old new)
      → new ≡ old → StepFollows m id unit old new
  still id unit old new sound event same = record {
    grown = grown_same m old new same;
    sound = subst (IsKnown m) (sym same) sound;
    counted = omega (arith, ap (λ (c : Known). c.count) same);
    event = event;
  }

  answered :
      (id : ℕ) (unit : Option ℕ) (old new : Known) → IsKnown m old → KnowsId m old id
      → IsStepRun m id unit old new → StepFollows m id unit old new
  answered id unit old new sound holds run = go holds (quits_on m unit) refl where
    event : quits_on m unit ≡ false → (q : Powerset) → id_in m old q ≡ Some id → EventFollows m (Step q unit) old new
    event clean q named = events_follow m bounds (Step q unit) old new sound (run.does clean q named)

    go : KnowsId m old id → (b : Bool) → quits_on m unit ≡ b → StepFollows m id unit old new
    go (KnowsFixed fixed) b quits = still id unit old new sound event (run.fixed fixed)
    go (KnowsRow q named) true quits = still id unit old new sound event (run.quit quits)
    go (KnowsRow q named) false clean =
        let f = event clean q named in
        record {
          grown = f.grown;
          sound = f.sound;
          counted = event_once m (Step q unit) old new f;
          event = event;
        }

  fails :
      (id : ℕ) (unit : Option ℕ) (old new : Known) (e : StepError) → IsKnown m old → KnowsId m old id
      → StepFails m id unit old new e → FailureFollows m old new
  fails id unit old new e sound (KnowsFixed fixed) f = absurd (omega (arith, fixed, f.low))
  fails id unit old new e sound (KnowsRow q named) f = failed m old new sound (inr (f.fails q named).unchanged)

pub starts_follow : (m : Machine) → HasBounds m → StartsFollow m
starts_follow m bounds = record {
  answered = λ mode behind old new sound run. events_follow m bounds (Start mode behind) old new sound run.does;
  failed = fails;
} where
  fails :
      (mode : Anchored) (behind : Option ℕ) (old new : Known) (e : StartError) → IsKnown m old
      → StartFails m mode behind old new e → FailureFollows m old new
  fails mode behind old new e sound (IsQuitBehind byte quits is same) = failed m old new sound (inl same)
  fails mode behind old new e sound (IsNotSupported clear lacks is same) = failed m old new sound (inl same)
  fails mode behind old new e sound (GivesUpOnStart may free none err is same) = failed m old new sound (inr same)
  fails mode behind old new e sound (RunsOutOnStart may free is same) = failed m old new sound (inr same)
