-- The current state of a walk: whether a cache has its row, and the effect of putting it back on what the cache knows.
use Rattle.std.proofs.Common.{◌≡◌, ◌∙◌, ℕ, ◌*◌, true, false, Option, None, Some, cond, refl, sym, ap, subst}
use Rattle.automata_hybrid.proofs.Words.{CacheView, cleared, id_of, is_some, IsStoreOf, Known, known_of}
use Rattle.automata_hybrid.proofs.Words.{Lacks, LeadsToNamed, Machine, Names, option_map, Powerset, Row, row_in}
use Rattle.automata_hybrid.proofs.Words.{StepError, Stored, with_new_row}
use Rattle.automata_config.specs.declared.error.StepError.TheVariants as step
use Rattle.automata_hybrid.specs.Known.Walks.{GivesUpOnIt, IsNotRestored, RunsOutOnIt, with_restored_row}
use Rattle.automata_hybrid.specs.Private.Cache.Growth.{AddFails, HasAdded}
use Rattle.automata_hybrid.specs.Private.Searches.PassState.{step_error}
use Rattle.automata_hybrid.proofs.Known.Events.{gives_up_if, gives_up_so}
use Rattle.automata_hybrid.proofs.Known.Rooms.{state_lacks, state_there}
use Rattle.automata_hybrid.proofs.Known.Rows.{row_in-is}

-- a state that an ID names has a row
pub row_named :
    (c : Stored) (q : Powerset) (id : ℕ) → Names c.table id q → is_some (row_in c.table.rows q) ≡ true
row_named c q id named =
    sym (row_in-is c.table.of.stride (3 * c.table.of.stride) q c.table.rows) ∙ ap is_some named

-- a state that no ID names has no row
no_row : (c : Stored) (q : Powerset) → id_of c.table q ≡ None → row_in c.table.rows q ≡ None
no_row c q none = go (row_in c.table.rows q) refl where
  go : (o : Option Row) → row_in c.table.rows q ≡ o → row_in c.table.rows q ≡ None
  go None e = e
  go (Some r) e =
      let x : false ≡ true =
      ap is_some (sym none) ∙ row_in-is c.table.of.stride (3 * c.table.of.stride) q c.table.rows ∙ ap is_some e in
      absurd (cc)

-- a state that is there is not restored
pub row_there :
    (m : Machine) (q : Powerset) (id : ℕ) (c : CacheView) → Names c.store.table id q
    → with_restored_row m q (known_of c) ≡ Some (known_of c)
row_there m q id c named =
    ap
    (λ b. cond b (Some (known_of c))
    (with_new_row m (cleared (known_of c)) (record { state = q; started = false }) (known_of c)))
    (state_there c.store c.count id q (LeadsToNamed named))

-- a state that was not there is restored
pub restored_row :
    (m : Machine) (q : Powerset) (old new : CacheView) → IsStoreOf old.store m → Lacks old.store.table q → (id : ℕ)
    → HasAdded old new (record { state = q; started = false }) id
    → with_restored_row m q (known_of old) ≡ Some (known_of new)
restored_row m q old new sound lacks id adds =
    ap
    (λ b. cond b (Some (known_of old))
    (with_new_row m (cleared (known_of old)) (record { state = q; started = false }) (known_of old)))
    (state_lacks old.store old.count q lacks)
    ∙ subst
    (λ (d : Machine). with_new_row d (cleared (known_of old)) (record { state = q; started = false }) (known_of old)
    ≡ Some (known_of new))
    sound.of adds.effect

-- a state that was not there could not be added
none_of : (o : Option Known) → option_map (λ c. c) o ≡ None → o ≡ None
none_of None e = refl
none_of (Some c) e = cc

fails_here :
    (q : Powerset) (old new : CacheView) (e : StepError) (at : ℕ) → Lacks old.store.table q → AddFails old new q e
    → IsNotRestored old.store.table.of q at (known_of old) (known_of new) (step_error e at)
fails_here q old new (step.Cache err) at lacks fails =
    GivesUpOnIt
    (none_of (with_restored_row old.store.table.of q (known_of old))
    (gives_up_if old.store.table.of old.store old.count (cleared (known_of old))
    (record { state = q; started = false }) (λ k. k) lacks (fails.gives_up.0 tt)))
    refl (ap known_of fails.kept)
fails_here q old new step.OutOfMemory at lacks fails =
    RunsOutOnIt (no_row old.store q lacks.0)
    (λ gives. fails.gives_up.1
    (gives_up_so old.store.table.of (known_of old) (cleared (known_of old)) (record { state = q; started = false })
    gives))
    refl (ap known_of fails.kept)

pub row_fails :
    (m : Machine) (q : Powerset) (old new : CacheView) (e : StepError) → IsStoreOf old.store m
    → Lacks old.store.table q → AddFails old new q e → (at : ℕ)
    → IsNotRestored m q at (known_of old) (known_of new) (step_error e at)
row_fails m q old new e sound lacks fails at =
    subst
    (λ (d : Machine). IsNotRestored d q at (known_of old) (known_of new) (step_error e at))
    sound.of (fails_here q old new e at lacks fails)
