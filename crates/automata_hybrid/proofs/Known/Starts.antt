-- What the start slots name, and what a clear keeps of it.
use Rattle.std.proofs.Common.{◌≡◌, ◌∙◌, ℕ, ◌+◌, ◌*◌, ◌^◌, ◌<◌, ◌≤◌, ◌⊎◌, inl, inr, List, [], ◌∷◌, ◌++◌, length, Bool}
use Rattle.std.proofs.Common.{true, false, cond, Option, None, Some, get_or, replicate, slice_get, refl, sym, ap, subst}
use Rattle.std.proofs.Common.{arith, length-append, suc, take}
use Rattle.automata_hybrid.proofs.Words.{AllStarts, dead, dead_id, fresh, id_of, is_some, IsSlot, keep_row, Leads}
use Rattle.automata_hybrid.proofs.Words.{LeadsToDead, LeadsToNamed, LeadsToStart, Machine, Names, nat_le, option_map}
use Rattle.automata_hybrid.proofs.Words.{Powerset, quit_id, Row, row_in, row_of, Rows, rows_of_starts, RowsFitCells}
use Rattle.automata_hybrid.proofs.Words.{slot_behind, start_named, start_state_of, unknown_id, with_row_cells}
use Rattle.std.specs.Prelude.{map}
use Rattle.std.proofs.lemmas.Bool.{cases_lt}
use Rattle.std.proofs.lemmas.Bool.Decides.{nat_tests}
use Rattle.std.proofs.lemmas.Grind.{get_or_default_zero}
use Rattle.std.proofs.lemmas.List.{get_or_append_left, get_or-append-add, length-replicate, map-append, take_more}
use Rattle.std.proofs.lemmas.List.Sums.{fold-append}
use Rattle.automata_hybrid.specs.Private.Cache.Clears.{IsPut, IsUnwritten, KeepsSlot, with_row_once}
use Rattle.automata_hybrid.specs.Private.Cache.Table.{IsSoundTable}
use Rattle.automata_hybrid.specs.Known.Known.{keep_start}
use Rattle.automata_hybrid.proofs.Storage.Clears.{AllStarts-push, IsPut-AllStarts, IsPut-length, IsPut-of}
use Rattle.automata_hybrid.proofs.Storage.Rows.{Leads-Names, Names-more, inside}
use Rattle.automata_hybrid.proofs.Known.Rows.{HasPlaces, Met, NamedRow, named_row, places_sound, row_in-Met, row_in-is}

-- what an ID in a slot names
pub data IsNamed (t : Rows) (id : ℕ) (start : Option Powerset) : Type 0 where
  NamesNone : id ≡ unknown_id → start ≡ None → IsNamed t id start
  NamesDead : id ≡ dead_id t.of.stride → start ≡ Some dead → IsNamed t id start
  NamesRow : (q : Powerset) → Names t id q → start ≡ Some q → IsNamed t id start

-- what the IDs in all slots name
abbrev pub AreNamed : Rows → List ℕ → List (Option Powerset) → Type 0
AreNamed t [] [] = Unit {0}
AreNamed t [] (start ∷ starts) = ⊥
AreNamed t (id ∷ ids) [] = ⊥
AreNamed t (id ∷ ids) (start ∷ starts) = IsNamed t id start × AreNamed t ids starts

named_more :
    (t : Rows) (r : Row) (id : ℕ) (start : Option Powerset) → IsNamed t id start
    → IsNamed (with_row_cells t r) id start
named_more t r id start (NamesNone e f) = NamesNone e f
named_more t r id start (NamesDead e f) = NamesDead e f
named_more t r id start (NamesRow q n f) = NamesRow q (Names-more t r id q n) f

-- they name the same with one more row
pub AreNamed-more :
    (t : Rows) (r : Row) (ids : List ℕ) (starts : List (Option Powerset)) → AreNamed t ids starts
    → AreNamed (with_row_cells t r) ids starts
AreNamed-more t r [] [] all = tt
AreNamed-more t r [] (start ∷ starts) all = absurd all
AreNamed-more t r (id ∷ ids) [] all = absurd all
AreNamed-more t r (id ∷ ids) (start ∷ starts) (one, all) =
    (named_more t r id start one, AreNamed-more t r ids starts all)

AreNamed-once :
    (t : Rows) (r : Row) (ids : List ℕ) (starts : List (Option Powerset)) → AreNamed t ids starts
    → AreNamed (with_row_once t r) ids starts
AreNamed-once t r ids starts all = go (is_some (id_of t r.state)) where
  go : (b : Bool) → AreNamed (cond b t (with_row_cells t r)) ids starts
  go true = all
  go false = AreNamed-more t r ids starts all

-- one more slot
AreNamed-push :
    (t : Rows) (ids : List ℕ) (starts : List (Option Powerset)) (id : ℕ) (start : Option Powerset)
    → AreNamed t ids starts
    → IsNamed t id start → AreNamed t (ids ++ id ∷ []) (starts ++ start ∷ [])
AreNamed-push t [] [] id start all one = (one, tt)
AreNamed-push t [] (other ∷ starts) id start all one = absurd all
AreNamed-push t (x ∷ ids) [] id start all one = absurd all
AreNamed-push t (x ∷ ids) (other ∷ starts) id start (first, all) one =
    (first, AreNamed-push t ids starts id start all one)

-- reading an ID gives what it names
pub named_read :
    (t : Rows) (id : ℕ) (start : Option Powerset) → HasPlaces t → IsNamed t id start → start_named t id ≡ start
named_read t id start p (NamesNone e f) =
    let high : nat_le unknown_id id ≡ true = grind (arith, nat_tests) in
    ap (λ b. cond b None (cond (nat_le (2 ^ 29) id) (Some dead) (option_map (λ (r : Row). r.state) (row_of t id)))) high
    ∙ sym f
named_read t id start p (NamesDead e f) =
    let small : t.of.stride ≤ 512 = p.small in
    let low : nat_le unknown_id id ≡ false = grind (arith, nat_tests) in
    let fixed : nat_le (2 ^ 29) id ≡ true = grind (arith, nat_tests) in
    ap (λ b. cond b None (cond (nat_le (2 ^ 29) id) (Some dead) (option_map (λ (r : Row). r.state) (row_of t id)))) low
    ∙ ap (λ b. cond b (Some dead) (option_map (λ (r : Row). r.state) (row_of t id))) fixed ∙ sym f
named_read t id start p (NamesRow q n f) =
    let r : NamedRow t id q = named_row t id q p n in
    let below : id < 2 ^ 29 = r.low in
    let low : nat_le unknown_id id ≡ false = grind (arith, nat_tests) in
    let free : nat_le (2 ^ 29) id ≡ false = grind (arith, nat_tests) in
    ap (λ b. cond b None (cond (nat_le (2 ^ 29) id) (Some dead) (option_map (λ (r : Row). r.state) (row_of t id)))) low
    ∙ ap (λ b. cond b (Some dead) (option_map (λ (r : Row). r.state) (row_of t id))) free
    ∙ ap (option_map (λ (r : Row). r.state)) r.at ∙ ap Some r.state ∙ sym f

pub AreNamed-read :
    (t : Rows) (ids : List ℕ) (starts : List (Option Powerset)) → HasPlaces t → AreNamed t ids starts
    → map (start_named t) ids ≡ starts
AreNamed-read t [] [] p all = refl
AreNamed-read t [] (start ∷ starts) p all = absurd all
AreNamed-read t (id ∷ ids) [] p all = absurd all
AreNamed-read t (id ∷ ids) (start ∷ starts) p (one, all) =
    λ i. named_read t id start p one i ∷ AreNamed-read t ids starts p all i

-- the ID in each slot of a cache names what reading it gives
pub slot_named : (t : Rows) (slot id : ℕ) → HasPlaces t → IsSlot t slot id → IsNamed t id (start_named t id)
slot_named t slot id p (inl e) = NamesNone e (named_read t id None p (NamesNone e refl))
slot_named t slot id p (inr (q, LeadsToDead e dies, first)) =
    NamesDead e (named_read t id (Some dead) p (NamesDead e refl))
slot_named t slot id p (inr (q, LeadsToNamed n, first)) = NamesRow q n (named_read t id (Some q) p (NamesRow q n refl))

slots_named :
    (t : Rows) (ids : List ℕ) → HasPlaces t → ((k id : ℕ) → slice_get ids k ≡ Some id → (slot : ℕ) × IsSlot t slot id)
    → AreNamed t ids (map (start_named t) ids)
slots_named t [] p all = tt
slots_named t (id ∷ ids) p all =
    let one = all 0 id refl in
    (slot_named t one.0 id p one.1, slots_named t ids p (λ k x h. all (suc k) x h))

pub AllStarts-named :
    (t : Rows) (ids : List ℕ) → HasPlaces t → AllStarts t ids → AreNamed t ids (map (start_named t) ids)
AllStarts-named t ids p all = slots_named t ids p (λ k id h. (k, all k id h))

-- no cell of a new table was written
pub unwritten_fresh : (m : Machine) → IsUnwritten (fresh m)
unwritten_fresh m =
    let a = length-replicate m.stride unknown_id in
    let b = length-replicate m.stride (dead_id m.stride) in
    let d = length-replicate m.stride (quit_id m.stride) in
    record {
      whole =
          omega (
            arith,
            length-append (replicate m.stride unknown_id)
                (replicate m.stride (dead_id m.stride) ++ replicate m.stride (quit_id m.stride)),
            length-append (replicate m.stride (dead_id m.stride)) (replicate m.stride (quit_id m.stride)),
            a,
            b,
            d,
          );
      cells = λ k class l below. absurd (omega (arith, l));
    }

pub unwritten_more :
    (t : Rows) (r : Row) → length t.of.template ≡ t.of.stride → IsUnwritten t → IsUnwritten (with_row_cells t r)
unwritten_more t r wide u = record {
  whole =
      length-append t.cells t.of.template ∙ ap (λ n. length t.cells + n) wide ∙ more
      ∙ ap (λ n. (n + 3) * t.of.stride) (sym (length-append t.rows (r ∷ [])));
  cells = cells;
} where
  more : length t.cells + t.of.stride ≡ (length t.rows + 1 + 3) * t.of.stride
  more = omega (arith, u.whole)

  cells :
      (k class : ℕ) → k < length (t.rows ++ r ∷ []) → class < t.of.stride
      → get_or (t.cells ++ t.of.template) ((k + 3) * t.of.stride + class) 0 ≡ get_or t.of.template class 0
  cells k class l below = go (cases_lt k (length t.rows)) where
    go :
        (k < length t.rows) ⊎ (length t.rows ≤ k)
        → get_or (t.cells ++ t.of.template) ((k + 3) * t.of.stride + class) 0 ≡ get_or t.of.template class 0
    go (inl old) =
        let within : (k + 3) * t.of.stride + class < length t.cells =
        rw u.whole (inside k (length t.rows) t.of.stride class old below) in
        get_or_append_left t.cells t.of.template 0 ((k + 3) * t.of.stride + class) within ∙ u.cells k class old below
    go (inr new) =
        let last : k ≡ length t.rows = omega (arith, l, new, length-append t.rows (r ∷ [])) in
        let at : (k + 3) * t.of.stride + class ≡ length t.cells + class =
        ap (λ n. (n + 3) * t.of.stride + class) last ∙ ap (λ n. n + class) (sym u.whole) in
        ap (λ n. get_or (t.cells ++ t.of.template) n 0) at ∙ get_or-append-add t.cells t.of.template class 0

unwritten_once :
    (t : Rows) (r : Row) → length t.of.template ≡ t.of.stride → IsUnwritten t → IsUnwritten (with_row_once t r)
unwritten_once t r wide u = go (is_some (id_of t r.state)) where
  go : (b : Bool) → IsUnwritten (cond b t (with_row_cells t r))
  go true = u
  go false = unwritten_more t r wide u

-- the rows with one row that was found
rows_once : (t : Rows) (r : Row) → (with_row_once t r).rows ≡ keep_row t.rows (Some r)
rows_once t r =
    go (is_some (id_of t r.state))
    ∙ ap (λ b. cond b t.rows (t.rows ++ r ∷ [])) (row_in-is t.of.stride (3 * t.of.stride) r.state t.rows)
  where
    go : (b : Bool) → (cond b t (with_row_cells t r)).rows ≡ cond b t.rows (t.rows ++ r ∷ [])
    go true = refl
    go false = refl

-- no row has the dead state
pub none_dead : (t : Rows) → RowsFitCells t → row_in t.rows dead ≡ None
none_dead t rows = go (row_in t.rows dead) refl where
  go : (o : Option Row) → row_in t.rows dead ≡ o → row_in t.rows dead ≡ None
  go None e = e
  go (Some r) e =
      let m : Met t.rows dead r = row_in-Met t.rows dead r e in absurd ((rows.states m.place r m.has).alive m.state)

-- a slot that does not name a row is kept unchanged
pub keeps_fixed :
    (old t : Rows) (starts after : List ℕ) (id : ℕ) → IsSoundTable old → IsSoundTable t → 2 ^ 29 ≤ id
    → after ≡ starts ++ id ∷ [] → t.of ≡ old.of → AllStarts t starts → IsSlot old (length starts) id
    → KeepsSlot old id (record { table = t; starts = starts }) (record { table = t; starts = after })
keeps_fixed old t starts after id was sound high push of all leads =
    subst (λ (xs : List ℕ). KeepsSlot old id (record { table = t; starts = starts })
    (record { table = t; starts = xs })) (sym push)
    (record {
      rows = (read (slot_named old (length starts) id (places_sound old was) leads)).0;
      names =
          map-append (start_named t) starts (id ∷ [])
          ∙ ap (λ o. map (start_named t) starts ++ o ∷ [])
          (read (slot_named old (length starts) id (places_sound old was) leads)).1;
      unwritten = λ u. u;
      named = AllStarts-push t starts id all (there leads);
      few = omega arith;
      slots = length-append starts (id ∷ []);
      absent = λ q o n. n;
      of = refl;
    })
  where
    read :
        IsNamed old id (start_named old id)
        → (t.rows ≡ keep_start old.rows t.rows (start_named old id)) × (start_named t id ≡ start_named old id)
    read (NamesNone e f) = (
      sym (ap (keep_start old.rows t.rows) f),
      named_read t id None (places_sound t sound) (NamesNone e refl) ∙ sym f,
    )
    read (NamesDead e f) = (
      sym (ap (keep_start old.rows t.rows) f ∙ ap (keep_row t.rows) (none_dead old was.rows)),
      named_read t id (Some dead) (places_sound t sound)
          (NamesDead (e ∙ ap (λ (m : Machine). dead_id m.stride) (sym of)) refl) ∙ sym f,
    )
    read (NamesRow q n f) = let l : id < 2 ^ 29 = was.low id q n in absurd (omega (arith, l, high))

    there : IsSlot old (length starts) id → IsSlot t (length starts) id
    there (inl e) = inl e
    there (inr (q, leads, first)) = inr (
      q,
      step q leads,
      λ mode behind at.
          first mode behind (subst (λ (m : Machine). slot_behind m mode behind ≡ length starts) of at)
          ∙ ap (λ (m : Machine). start_state_of m.nfa mode behind) (sym of),
    ) where
      step : (q : Powerset) → Leads old id q → Leads t id q
      step q (LeadsToDead e d) = LeadsToDead (e ∙ ap (λ (m : Machine). dead_id m.stride) (sym of)) d
      step q (LeadsToNamed n) = let l : id < 2 ^ 29 = was.low id q n in absurd (omega (arith, l, high))

-- the row that a slot names is kept
pub keeps_row :
    (old before after : Rows) (starts slots : List ℕ) (id n : ℕ) → IsSoundTable old → IsSoundTable before
    → IsSoundTable after → id < 2 ^ 29 → slots ≡ starts ++ n ∷ []
    → before.of ≡ old.of → AllStarts before starts → IsSlot old (length starts) id
    → IsPut old before after id n → ((q : Powerset) → Names old id q → Names after n q)
    → ((q : Powerset) → id_of old q ≡ None → id_of before q ≡ None → id_of after q ≡ None)
    → KeepsSlot old id (record { table = before; starts = starts }) (record { table = after; starts = slots })
keeps_row old before after starts slots id n was sound still below push of all leads put names absent =
    subst (λ (xs : List ℕ). KeepsSlot old id (record { table = before; starts = starts })
    (record { table = after; starts = xs })) (sym push)
    (record {
      rows = (start leads).1.0;
      names = map-append (start_named after) starts (n ∷ []) ∙ (λ i. kept i ++ (start leads).1.1 i ∷ []);
      unwritten = λ u. subst IsUnwritten (sym put.put_there) (unwritten_once before put.row sound.template.whole u);
      named = IsPut-AllStarts old before after starts id n put all (start leads).0;
      few = IsPut-length old before after id n put;
      slots = length-append starts (n ∷ []);
      absent = absent;
      of = IsPut-of old before after id n put;
    })
  where
    same : after.of ≡ old.of
    same = IsPut-of old before after id n put ∙ of

    kept : map (start_named after) starts ≡ map (start_named before) starts
    kept =
        AreNamed-read after starts (map (start_named before) starts) (places_sound after still)
        (subst (λ (t : Rows). AreNamed t starts (map (start_named before) starts)) (sym put.put_there)
        (AreNamed-once before put.row starts (map (start_named before) starts)
        (AllStarts-named before starts (places_sound before sound) all)))

    named :
        (q : Powerset) → Names old id q
        → (after.rows ≡ keep_start old.rows before.rows (start_named old id))
        × (start_named after n ≡ start_named old id)
    named q is =
        let r : NamedRow old id q = named_row old id q (places_sound old was) is in
        let read : start_named old id ≡ Some q =
        named_read old id (Some q) (places_sound old was) (NamesRow q is refl) in (
          ap (λ (t : Rows). t.rows) put.put_there ∙ rows_once before put.row
              ∙ ap (keep_row before.rows) (sym put.at ∙ r.at ∙ sym r.found)
              ∙ ap (keep_start old.rows before.rows) (sym read),
          named_read after n (Some q) (places_sound after still) (NamesRow q (names q is) refl) ∙ sym read,
        )

    start :
        IsSlot old (length starts) id
        → LeadsToStart after n (length starts)
        × ((after.rows ≡ keep_start old.rows before.rows (start_named old id))
        × (start_named after n ≡ start_named old id))
    start (inl e) = absurd (omega (arith, e, below))
    start (inr (q, leads, first)) = (
      (
        q,
        LeadsToNamed (names q (Leads-Names old id q leads below)),
        λ mode behind at.
            first mode behind (subst (λ (m : Machine). slot_behind m mode behind ≡ length starts) same at)
            ∙ ap (λ (m : Machine). start_state_of m.nfa mode behind) (sym same),
      ),
      named q (Leads-Names old id q leads below),
    )

-- the start states that the first slots name, one slot after another
pub names_more :
    (old : Rows) (xs : List ℕ) (i id : ℕ) → i < length xs → id ≡ get_or xs i id
    → map (start_named old) (take (i + 1) xs) ≡ map (start_named old) (take i xs) ++ start_named old id ∷ []
names_more old xs i id l is =
    ap (map (start_named old))
    (take_more xs i 0 l ∙ ap (λ n. take i xs ++ n ∷ []) (sym (is ∙ get_or_default_zero xs i id l)))
    ∙ map-append (start_named old) (take i xs) (id ∷ [])

-- and the rows that are kept for them
pub rows_more :
    (old : List Row) (names more : List (Option Powerset)) (start : Option Powerset) → more ≡ names ++ start ∷ []
    → rows_of_starts old more ≡ keep_start old (rows_of_starts old names) start
rows_more old names more start e =
    ap (rows_of_starts old) e ∙ fold-append (keep_start old) [] names (start ∷ [])
