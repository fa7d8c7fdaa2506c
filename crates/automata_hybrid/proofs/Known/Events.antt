-- The laws of events: what is cached, what is made, and when a call gives up.
use Rattle.std.proofs.Common.{◌≡◌, ◌∙◌, ℕ, ◌+◌, ◌^◌, ◌<◌, ◌≤◌, ◌⊎◌, inl, inr, length, Bool, true, false, cond, Option}
use Rattle.std.proofs.Common.{None, Some, get_or, slice_get, refl, sym, ap, subst, arith}
use Rattle.automata_hybrid.proofs.Words.{Anchored, CacheView, cell_at, cost, Event, has_state, id_of, is_some}
use Rattle.automata_hybrid.proofs.Words.{IsMachine, IsStoreOf, IsUnit, Known, known_of, Machine, match_kind_of, nat_lt}
use Rattle.automata_hybrid.proofs.Words.{option_map, Powerset, quits_on, Row, Rows, slot_behind, Start, start_named}
use Rattle.automata_hybrid.proofs.Words.{start_row, Step, Stored, successor, unit_class, unknown_id, unwrap_or, ◌&&◌}
use Rattle.automata_hybrid.proofs.Words.{IsCacheOf, Lacks, Leads, LeadsToNamed, MustGiveUp, Names, row_cost}
use Rattle.automata_hybrid.proofs.Words.{start_state_of, with_count, with_next, with_slot}
use Rattle.automata_hybrid.proofs.Words.{with_store, ◌↔◌}
use Rattle.automata_hybrid.specs.Cache.Caches.{dfa_of}
use Rattle.std.proofs.lemmas.Bool.{cases_Bool}
use Rattle.std.proofs.lemmas.Bool.Decides.{nat_tests}
use Rattle.std.proofs.lemmas.Option.{get_or_from_slice_get, slice_get-get_or, slice_get-map, slice_get_within}
use Rattle.automata_base.proofs.Paths.Orders.{none_some}
use Rattle.automata_hybrid.specs.Private.Cache.Growth.{HasAdded, HasAddedNext}
use Rattle.automata_hybrid.proofs.Steps.Events.{AsksForUnit, IsCached, MayAsk, asked_state}
use Rattle.automata_hybrid.specs.Known.Events as events
use Rattle.automata_hybrid.specs.Known.Known as known
use Rattle.automata_hybrid.specs.Known.Stores.{has_steps_at}
use Rattle.automata_hybrid.proofs.Storage.Usage.{Leads-known}
use Rattle.automata_hybrid.proofs.Known.Made.{begun_known, recounted, written_known}
use Rattle.automata_hybrid.proofs.Known.Rooms.{known_with, state_lacks, state_there}
use Rattle.automata_hybrid.proofs.Known.Rows.{HasPlaces, NamedRow, named_row, places_of, places_unwritten}
use Rattle.automata_hybrid.proofs.Known.Starts.{IsNamed, NamesDead, NamesNone, NamesRow, slot_named}
use Rattle.automata_hybrid.proofs.Known.Steps.{HasSteps, is_known_at, steps_there}

-- rows have a transition at the class of each unit that is not a quit byte
unit_steps :
    (m : Machine) (unit : Option ℕ) → IsMachine m → IsUnit unit → quits_on m unit ≡ false → unit_class m unit < m.stride
    → HasSteps m (unit_class m unit)
unit_steps m None machine is clean below = record { below = below; free = machine.end_free }
unit_steps m (Some byte) machine is clean below = record { below = below; free = machine.free byte is clean }

-- the rows of a cache of the DFA have places
pub store_places : (m : Machine) (c : Stored) → IsMachine m → IsStoreOf c m → HasPlaces c.table
store_places m c machine s =
    places_of c.table (subst (λ (d : Machine). 0 < d.stride) (sym s.of) machine.template.positive) s.small s.wide s.rows

-- an ID is below the unknown ID exactly if it names a start state
named_known :
    (t : Rows) (id : ℕ) (start : Option Powerset) → HasPlaces t → IsNamed t id start
    → (id < unknown_id) ↔ (is_some start ≡ true)
named_known t id start p (NamesNone e f) =
    (λ l. absurd (omega (arith, e, l)), λ h. (let x : false ≡ true = sym (ap is_some f) ∙ h in absurd (cc)))
named_known t id start p (NamesDead e f) =
    let small : t.of.stride ≤ 512 = p.small in
    (λ l. ap is_some f, λ h. omega (arith, e, small))
named_known t id start p (NamesRow q n f) =
    let r : NamedRow t id q = named_row t id q p n in
    let low : id < 2 ^ 29 = r.low in
    (λ l. ap is_some f, λ h. omega (arith, low))

-- a start state is cached exactly if the cache knows it
cached_start :
    (m : Machine) (mode : Anchored) (behind : Option ℕ) (c : CacheView) → IsMachine m → IsStoreOf c.store m
    → IsCached m c.store (Start mode behind) ↔ (events.is_cached m (Start mode behind) (known_of c) ≡ true)
cached_start m mode behind c machine s = go (slice_get c.store.starts (slot_behind m mode behind)) refl where
  places : HasPlaces c.store.table
  places = store_places m c.store machine s

  read :
      (o : Option ℕ) → slice_get c.store.starts (slot_behind m mode behind) ≡ o
      → events.is_cached m (Start mode behind) (known_of c)
      ≡ unwrap_or (option_map is_some (option_map (start_named c.store.table) o)) true
  read o e =
      ap (λ f. unwrap_or (option_map is_some f) true)
      (slice_get-map (start_named c.store.table) c.store.starts (slot_behind m mode behind)
      ∙ ap (option_map (start_named c.store.table)) e)

  inside : slot_behind m mode behind < m.slots → slot_behind m mode behind < length c.store.starts
  inside l = subst (λ n. slot_behind m mode behind < n) (sym s.slots) l

  go :
      (o : Option ℕ) → slice_get c.store.starts (slot_behind m mode behind) ≡ o
      → IsCached m c.store (Start mode behind) ↔ (events.is_cached m (Start mode behind) (known_of c) ≡ true)
  go None e = (
    λ cached. read None e,
    λ h l. absurd (none_some (sym e ∙ slice_get-get_or c.store.starts (slot_behind m mode behind) 0 (inside l))),
  )
  go (Some id) e = (
    λ cached. read (Some id) e ∙ known.0 (subst (λ n. n < unknown_id) at (cached here)),
    λ h l. subst (λ n. n < unknown_id) (sym at) (known.1 (sym (read (Some id) e) ∙ h)),
  ) where
    at : get_or c.store.starts (slot_behind m mode behind) 0 ≡ id
    at = get_or_from_slice_get c.store.starts (slot_behind m mode behind) id 0 e

    here : slot_behind m mode behind < m.slots
    here =
        subst (λ n. slot_behind m mode behind < n) s.slots
        (slice_get_within c.store.starts (slot_behind m mode behind) id e)

    known : (id < unknown_id) ↔ (is_some (start_named c.store.table id) ≡ true)
    known =
        named_known c.store.table id (start_named c.store.table id) places
        (slot_named c.store.table (slot_behind m mode behind) id places (s.starts (slot_behind m mode behind) id e))

-- a transition is cached exactly if the cache knows it
cached_step :
    (m : Machine) (q : Powerset) (unit : Option ℕ) (c : CacheView) → HasSteps m (unit_class m unit)
    → IsStoreOf c.store m
    → IsCached m c.store (Step q unit) ↔ (events.is_cached m (Step q unit) (known_of c) ≡ true)
cached_step m q unit c has s = (there, back) where
  steps : has_steps_at c.store.table.of (unit_class m unit) ≡ true
  steps =
      steps_there c.store.table.of (unit_class m unit)
      (subst (λ (d : Machine). HasSteps d (unit_class m unit)) (sym s.of) has)

  read :
      events.is_cached m (Step q unit) (known_of c)
      ≡ is_known_at c.store.table (unit_class m unit) (id_of c.store.table q)
  read = ap (λ b. b && is_known_at c.store.table (unit_class m unit) (id_of c.store.table q)) steps

  there : IsCached m c.store (Step q unit) → events.is_cached m (Step q unit) (known_of c) ≡ true
  there (id, named, l) =
      let low : get_or c.store.table.cells (cell_at id (unit_class m unit)) 0 < unknown_id = l in
      let e : nat_lt (get_or c.store.table.cells (cell_at id (unit_class m unit)) 0) unknown_id ≡ true =
      grind (arith, nat_tests) in
      read ∙ ap (is_known_at c.store.table (unit_class m unit)) named ∙ e

  at :
      (o : Option ℕ) → id_of c.store.table q ≡ o → is_known_at c.store.table (unit_class m unit) o ≡ true
      → IsCached m c.store (Step q unit)
  at None e h = absurd (cc)
  at (Some id) e h = (id, e, grind (arith, nat_tests))

  back : events.is_cached m (Step q unit) (known_of c) ≡ true → IsCached m c.store (Step q unit)
  back h = at (id_of c.store.table q) refl (sym read ∙ h)

-- what an event may ask for is cached exactly if the cache knows it
pub cached_known :
    (m : Machine) (e : Event) (c : CacheView) → IsMachine m → MayAsk m e → AsksForUnit e → IsStoreOf c.store m
    → IsCached m c.store e ↔ (events.is_cached m e (known_of c) ≡ true)
cached_known m (Start mode behind) c machine may is s = cached_start m mode behind c machine s
cached_known m (Step q unit) c machine may is s = cached_step m q unit c (unit_steps m unit machine is may.0 may.1) s

-- the cache does not know what is not cached
pub uncached_known :
    (m : Machine) (e : Event) (c : CacheView) → IsMachine m → MayAsk m e → AsksForUnit e → IsStoreOf c.store m
    → (IsCached m c.store e → ⊥) → events.is_cached m e (known_of c) ≡ false
uncached_known m e c machine may is s not = go (cases_Bool (events.is_cached m e (known_of c))) where
  go :
      (events.is_cached m e (known_of c) ≡ true) ⊎ (events.is_cached m e (known_of c) ≡ false)
      → events.is_cached m e (known_of c) ≡ false
  go (inl h) = absurd (not ((cached_known m e c machine may is s).1 h))
  go (inr h) = h

-- the count of a cache that has determinized once more, and then changed its store
known_last :
    (old mid between new : CacheView) (c : Stored) → mid ≡ with_count old (old.count + 1) → between.count ≡ mid.count
    → new ≡ with_store between c → known_with c (old.count + 1) ≡ known_of new
known_last old mid between new c was count e =
    ap (known_with c) (sym (count ∙ ap (λ (v : CacheView). v.count) was)) ∙ ap known_of (sym e)

-- a transition is computed
module _ (m : Machine) (q : Powerset) (unit : Option ℕ) (old mid new : CacheView) (id class next : ℕ) (key : Powerset)
    (machine : IsMachine m) (is : IsUnit unit) (sound : IsStoreOf old.store m) (clean : quits_on m unit ≡ false)
    (below : unit_class m unit < m.stride) (at : class ≡ unit_class m unit) (named : Names old.store.table id q)
    (was : mid ≡ with_count old (old.count + 1)) (to : key ≡ successor m.nfa (match_kind_of m.config) q unit) where
  abbrev target : Powerset
  target = successor m.nfa (match_kind_of m.config) q unit

  abbrev row : Row
  row = record { state = successor m.nfa (match_kind_of m.config) q unit; started = false }

  before : mid.store ≡ old.store
  before = ap (λ (v : CacheView). v.store) was

  -- its successor is there
  pub step_there :
      new ≡ with_store mid (with_next mid.store id class next) → Leads mid.store.table next key
      → events.made m (Step q unit) (known_of old) ≡ Some (known_of new)
  step_there e leads =
      ap
      (λ b. option_map (events.with_step q (unit_class m unit)) (cond b (Some (known_of old))
      (events.with_new_row m (known.cleared_saving q (known_of old)) row (known_of old))))
      (state_there old.store old.count next target there)
      ∙ ap Some
      (written_known old.store old.count id (unit_class m unit) next q places named
      (subst (λ (d : Machine). HasSteps d (unit_class m unit)) (sym sound.of)
      (unit_steps m unit machine is clean below))
      (Leads-known old.store.table next target (λ k p n. (named_row old.store.table k p places n).low) sound.small
      there)
      ∙ known_last old mid mid new (with_next old.store id (unit_class m unit) next) was refl
      (e ∙ (λ i. with_store mid (with_next (before i) id (at i) next))))
    where
      places : HasPlaces old.store.table
      places = store_places m old.store machine sound

      there : Leads old.store.table next target
      there = subst (λ (c : Stored). Leads c.table next target) before (subst (Leads mid.store.table next) to leads)

  -- its successor is added
  pub step_added :
      (between : CacheView) (from : ℕ) (state : Powerset) → IsStoreOf new.store m
      → HasAddedNext mid between id state from next → new ≡ with_store between (with_next between.store from class next)
      → state ≡ key → Lacks mid.store.table key → events.made m (Step q unit) (known_of old) ≡ Some (known_of new)
  step_added between from state after added e same lacks =
      ap
      (λ b. option_map (events.with_step q (unit_class m unit)) (cond b (Some (known_of old))
      (events.with_new_row m (known.cleared_saving q (known_of old)) row (known_of old))))
      (state_lacks old.store old.count target
      (subst (λ (c : Stored). Lacks c.table target) before (subst (Lacks mid.store.table) to lacks)))
      ∙ ap (option_map (events.with_step q (unit_class m unit)))
      (recounted m (known.cleared_saving q (known_with old.store (old.count + 1))) row
      (known_with old.store (old.count + 1)) (known_of between) old.count effect)
      ∙ ap Some
      (written_known between.store old.count from (unit_class m unit) next q places
      (added.saved q start)
      (subst (λ (d : Machine). HasSteps d (unit_class m unit)) (sym of) (unit_steps m unit machine is clean below))
      (Leads-known between.store.table next state (λ k p n. (named_row between.store.table k p places n).low)
      places.small (LeadsToNamed added.named))
      ∙ known_last old mid between new (with_next between.store from (unit_class m unit) next) was added.counted
      written)
    where
      written : new ≡ with_store between (with_next between.store from (unit_class m unit) next)
      written = e ∙ (λ i. with_store between (with_next between.store from (at i) next))

      of : between.store.table.of ≡ m
      of = added.of ∙ ap (λ (v : CacheView). v.store.table.of) was ∙ sound.of

      places : HasPlaces between.store.table
      places =
          places_unwritten between.store.table from (unit_class m unit) next
          (subst (λ (v : CacheView). HasPlaces v.store.table) written (store_places m new.store machine after))

      start : Names mid.store.table id q
      start = subst (λ (c : Stored). Names c.table id q) (sym before) named

      effect :
          events.with_new_row m (known.cleared_saving q (known_with old.store (old.count + 1))) row
          (known_with old.store (old.count + 1))
          ≡ Some (known_of between)
      effect =
          subst
          (λ (d : Machine). events.with_new_row d (known.cleared_saving q (known_with old.store (old.count + 1))) row
          (known_with old.store (old.count + 1)) ≡ Some (known_of between))
          sound.of
          (subst
          (λ (v : CacheView). events.with_new_row (dfa_of v) (known.cleared_saving q (known_of v)) row (known_of v)
          ≡ Some (known_of between))
          was
          (subst
          (λ (p : Powerset). events.with_new_row (dfa_of mid) (known.cleared_saving q (known_of mid))
          (record { state = p; started = false }) (known_of mid)
          ≡ Some (known_of between))
          (same ∙ to) (added.effect q start)))

-- a start state is computed
module _ (m : Machine) (mode : Anchored) (behind : Option ℕ) (old mid new : CacheView) (slot id : ℕ)
    (machine : IsMachine m) (sound : IsStoreOf old.store m) (at : slot ≡ slot_behind m mode behind)
    (was : mid ≡ with_count old (old.count + 1)) where
  same : mid.store ≡ old.store
  same = ap (λ (v : CacheView). v.store) was

  -- it is there
  pub start_there :
      new ≡ with_store mid (with_slot mid.store slot id) → Leads mid.store.table id (start_state_of m.nfa mode behind)
      → events.made m (Start mode behind) (known_of old) ≡ Some (known_of new)
  start_there e leads =
      ap
      (λ b. option_map (events.with_start (slot_behind m mode behind) (start_state_of m.nfa mode behind))
      (cond b (Some (known_of old))
      (events.with_new_row m (known.cleared (known_of old)) (start_row m mode behind) (known_of old))))
      (state_there old.store old.count id (start_state_of m.nfa mode behind) there)
      ∙ ap Some
      (begun_known old.store old.count (slot_behind m mode behind) id (start_state_of m.nfa mode behind)
      (store_places m old.store machine sound) there
      ∙ known_last old mid mid new (with_slot old.store (slot_behind m mode behind) id) was refl
      (e ∙ (λ i. with_store mid (with_slot (same i) (at i) id))))
    where
      there : Leads old.store.table id (start_state_of m.nfa mode behind)
      there = subst (λ (c : Stored). Leads c.table id (start_state_of m.nfa mode behind)) same leads

  -- it is added
  pub start_added :
      (between : CacheView) (r : Row) → IsStoreOf new.store m → HasAdded mid between r id
      → new ≡ with_store between (with_slot between.store slot id) → r ≡ start_row m mode behind
      → Lacks mid.store.table (start_state_of m.nfa mode behind)
      → events.made m (Start mode behind) (known_of old) ≡ Some (known_of new)
  start_added between r after added e row lacks =
      ap
      (λ b. option_map (events.with_start (slot_behind m mode behind) (start_state_of m.nfa mode behind))
      (cond b (Some (known_of old))
      (events.with_new_row m (known.cleared (known_of old)) (start_row m mode behind) (known_of old))))
      (state_lacks old.store old.count (start_state_of m.nfa mode behind)
      (subst (λ (c : Stored). Lacks c.table (start_state_of m.nfa mode behind)) same lacks))
      ∙ ap (option_map (events.with_start (slot_behind m mode behind) (start_state_of m.nfa mode behind)))
      (recounted m (known.cleared (known_with old.store (old.count + 1))) (start_row m mode behind)
      (known_with old.store (old.count + 1)) (known_of between) old.count effect)
      ∙ ap Some
      (begun_known between.store old.count (slot_behind m mode behind) id (start_state_of m.nfa mode behind)
      (subst (λ (v : CacheView). HasPlaces v.store.table) e (store_places m new.store machine after))
      (LeadsToNamed (subst (λ (x : Row). Names between.store.table id x.state) row added.named))
      ∙ known_last old mid between new (with_slot between.store (slot_behind m mode behind) id) was added.counted
      (e ∙ (λ i. with_store between (with_slot between.store (at i) id))))
    where
      effect :
          events.with_new_row m (known.cleared (known_with old.store (old.count + 1))) (start_row m mode behind)
          (known_with old.store (old.count + 1))
          ≡ Some (known_of between)
      effect =
          subst
          (λ (d : Machine). events.with_new_row d (known.cleared (known_with old.store (old.count + 1)))
          (start_row m mode behind) (known_with old.store (old.count + 1)) ≡ Some (known_of between))
          sound.of
          (subst
          (λ (v : CacheView). events.with_new_row (dfa_of v) (known.cleared (known_of v)) (start_row m mode behind)
          (known_of v)
          ≡ Some (known_of between))
          was
          (subst
          (λ (x : Row). events.with_new_row (dfa_of mid) (known.cleared (known_of mid)) x (known_of mid)
          ≡ Some (known_of between))
          row added.effect))

-- a call gives up exactly if no row can be added
pub gives_up_if :
    (m : Machine) (c : Stored) (n : ℕ) (emptied : Known) (r : Row) (f : Known → Known) → Lacks c.table r.state
    → MustGiveUp m (known_with c n) (row_cost r)
    → option_map f (events.with_state m emptied r (known_with c n)) ≡ None
gives_up_if m c n emptied r f lacks (full, refuses) =
    ap (λ b. option_map f (cond b (Some (known_with c n)) (events.with_new_row m emptied r (known_with c n))))
    (state_lacks c n r.state lacks)
    ∙ ap
    (λ b. option_map f (cond b (Some (known.with_row r (known_with c n)))
    (cond (events.refuses_to_clear m (known_with c n)) None (Some (known.with_row r emptied)))))
    full
    ∙ ap (λ b. option_map f (cond b None (Some (known.with_row r emptied)))) refuses

pub gives_up_so :
    (m : Machine) (c emptied : Known) (r : Row) → events.with_state m emptied r c ≡ None → MustGiveUp m c (row_cost r)
gives_up_so m c emptied r h =
    go (has_state c r.state) (events.fits m c (row_cost r)) (events.refuses_to_clear m c) refl refl h
  where
    go :
        (there fits refuses : Bool) → events.fits m c (row_cost r) ≡ fits → events.refuses_to_clear m c ≡ refuses
        → ◌≡◌ {A = Option Known}
        (cond there (Some c)
        (cond fits (Some (known.with_row r c)) (cond refuses None (Some (known.with_row r emptied)))))
        None
        → MustGiveUp m c (row_cost r)
    go true fits refuses b d h = cc
    go false true refuses b d h = cc
    go false false false b d h = cc
    go false false true b d h = (b, d)

pub gives_up_known :
    (m : Machine) (e : Event) (c : CacheView) → Lacks c.store.table (asked_state m e)
    → MustGiveUp m (known_of c) (cost (asked_state m e)) → events.made m e (known_of c) ≡ None
gives_up_known m (Start mode behind) c lacks must =
    gives_up_if m c.store c.count (known.cleared (known_of c)) (start_row m mode behind) _ lacks must
gives_up_known m (Step q unit) c lacks must =
    gives_up_if m c.store c.count (known.cleared_saving q (known_of c))
    (record { state = asked_state m (Step q unit); started = false }) _ lacks must

-- this holds of a state that was determinized, looked up and not found, by the cache before that
pub must_give_up :
    (m : Machine) (old mid : CacheView) (n : ℕ) (state key q : Powerset) → IsCacheOf old m → mid ≡ with_count old n
    → state ≡ key → key ≡ q → Lacks mid.store.table key → MustGiveUp (dfa_of mid) (known_of mid) (cost state)
    → Lacks old.store.table q × MustGiveUp m (known_of old) (cost q)
must_give_up m old mid n state key q of same is to lacks must = (
  subst (λ (v : CacheView). Lacks v.store.table q) same (subst (Lacks mid.store.table) to lacks),
  subst (λ (d : Machine). MustGiveUp d (known_of old) (cost q)) of
      (subst (λ (v : CacheView). MustGiveUp (dfa_of v) (known_of v) (cost q)) same
      (subst (λ p. MustGiveUp (dfa_of mid) (known_of mid) (cost p)) (is ∙ to) must)),
)
