-- The effect of steps and of calls for a start state on what a cache knows.
use Rattle.std.proofs.Common.{ℕ, ◌≡◌, ◌∙◌, ◌+◌, ◌*◌, ◌<◌, ◌≤◌, Option, Some, true, false, cond, refl, sym, ap}
use Rattle.std.proofs.Common.{subst, arith}
use Rattle.automata_hybrid.proofs.Words.{after_event, Anchored, CacheView, cost, Event, EventFails, find_id}
use Rattle.automata_hybrid.proofs.Words.{fixed_from, GivesUp, is_cached, IsKnownStart, IsMachine, Lacks, MustGiveUp}
use Rattle.automata_hybrid.proofs.Words.{IsStoreOf, IsUnit, Known, known_of, KnowsStep, LacksMemory, Machine, made}
use Rattle.automata_hybrid.proofs.Words.{match_kind_of, MayStart, moved, Names, Powerset, quits_on, slot_behind, Start}
use Rattle.automata_hybrid.proofs.Words.{start_state_of, Step, StepError, successor, unit_class, with_count}
use Rattle.automata_config.specs.declared.error.StepError.TheVariants as step
use Rattle.automata_hybrid.specs.Cache.Stores.{IsCacheError}
use Rattle.automata_hybrid.specs.Known.Steps.{FailsFrom, GivesUpOnStart, IsStartRun, IsStepRun, RunsOutOnStart}
use Rattle.automata_hybrid.specs.Known.Steps.{StartFails, StepFails, id_in}
use Rattle.automata_hybrid.specs.Private.Searches.PassState.{step_error}
use Rattle.automata_hybrid.specs.Private.Searches.Units.{StepMakes}
use Rattle.automata_hybrid.specs.Private.Steps.Starts.{IsStartSlot, start_error}
use Rattle.automata_hybrid.proofs.Known.Events.{cached_known, gives_up_known, uncached_known}
use Rattle.automata_hybrid.proofs.Searches.PassState.{false_true}
use Rattle.automata_hybrid.proofs.Steps.Steps.{step_unknown}

-- an event that asks for something cached changes nothing
pub after_cached :
    (m : Machine) (e : Event) (come c : Known) → is_cached m e c ≡ true → after_event m e come c ≡ Some c
after_cached m e come c known = ap (λ b. cond b (Some c) (made m e come)) known

-- any other event makes what it asks for
after_made :
    (m : Machine) (e : Event) (come c new : Known) → is_cached m e c ≡ false → made m e come ≡ Some new
    → after_event m e come c ≡ Some new
after_made m e come c new unknown makes = ap (λ b. cond b (Some c) (made m e come)) unknown ∙ makes

-- the IDs in what a cache knows are the IDs of its rows
named_in :
    (m : Machine) (c : CacheView) (q : Powerset) (id : ℕ) → IsStoreOf c.store m → id_in m (known_of c) q ≡ Some id
    → Names c.store.table id q
named_in m c q id sound named =
    ap (λ (d : Machine). find_id d.stride (3 * d.stride) q c.store.table.rows) sound.of ∙ named

pub names_in :
    (m : Machine) (c : CacheView) (q : Powerset) (id : ℕ) → IsStoreOf c.store m → Names c.store.table id q
    → id_in m (known_of c) q ≡ Some id
names_in m c q id sound named =
    ap (λ (d : Machine). find_id d.stride (3 * d.stride) q c.store.table.rows) (sym sound.of) ∙ named

-- a step from dead or quit
pub fixed_run :
    (m : Machine) (id : ℕ) (unit : Option ℕ) (c : CacheView) → IsStoreOf c.store m → fixed_from ≤ id
    → ((q : Powerset) → Names c.store.table id q → id < fixed_from) → IsStepRun m id unit (known_of c) (known_of c)
fixed_run m id unit c sound high low = record {
  fixed = λ _. refl;
  quit = λ _. refl;
  does = λ clean q named. (
      let below : id < fixed_from = low q (named_in m c q id sound named) in absurd (omega (arith, below, high)));
}

-- a transition in a cell is cached
pub cached_step :
    (m : Machine) (id : ℕ) (unit : Option ℕ) (c : CacheView) → IsMachine m → IsUnit unit → IsStoreOf c.store m
    → unit_class m unit < m.stride → KnowsStep m c.store id unit → quits_on m unit ≡ false → (q : Powerset)
    → Names c.store.table id q → is_cached m (Step q unit) (known_of c) ≡ true
cached_step m id unit c machine is sound below knows clean q named =
    (cached_known m (Step q unit) c machine (clean, below) is sound).0 (id, named, knows)

-- a step on a cached transition
pub cached_run :
    (m : Machine) (id : ℕ) (unit : Option ℕ) (c : CacheView) → IsMachine m → IsUnit unit → IsStoreOf c.store m
    → unit_class m unit < m.stride → KnowsStep m c.store id unit → IsStepRun m id unit (known_of c) (known_of c)
cached_run m id unit c machine is sound below knows = record {
  fixed = λ _. refl;
  quit = λ _. refl;
  does = λ clean q named. after_cached m (Step q unit) (known_of c) (known_of c)
      (cached_step m id unit c machine is sound below knows clean q (named_in m c q id sound named));
}

-- a step on a transition that is not cached
module _ (m : Machine) (id : ℕ) (unit : Option ℕ) (old new : CacheView) (machine : IsMachine m) (is : IsUnit unit)
    (sound : IsStoreOf old.store m) (low : id < fixed_from) (clean : quits_on m unit ≡ false)
    (below : unit_class m unit < m.stride) (unknown : KnowsStep m old.store id unit → ⊥) where
  uncached : (q : Powerset) → id_in m (known_of old) q ≡ Some id → is_cached m (Step q unit) (known_of old) ≡ false
  uncached q named =
      uncached_known m (Step q unit) old machine (clean, below) is sound
      (step_unknown m id unit old unknown q (named_in m old q id sound named))

  pub made_run :
      ((q : Powerset) → Names old.store.table id q → made m (Step q unit) (known_of old) ≡ Some (known_of new))
      → IsStepRun m id unit (known_of old) (known_of new)
  made_run makes = record {
    fixed = λ high. absurd (omega (arith, low, high));
    quit = λ quits. absurd (false_true (sym clean ∙ quits));
    does = λ _ q named. after_made m (Step q unit) (known_of old) (known_of old) (known_of new) (uncached q named)
        (makes q (named_in m old q id sound named));
  }

  pub failed_run :
      (e : StepError) → new ≡ with_count old (old.count + 1)
      → (IsCacheError e → (q : Powerset) → Names old.store.table id q
      → Lacks old.store.table (successor m.nfa (match_kind_of m.config) q unit)
      × MustGiveUp m (known_of old) (cost (successor m.nfa (match_kind_of m.config) q unit)))
      → StepFails m id unit (known_of old) (known_of new) e
  failed_run e unchanged gives_up = record {
    low = low;
    clean = clean;
    fails = λ q named. (record {
      unknown = uncached q named;
      unchanged = ap known_of unchanged;
      gives_up = λ room.
          (let must = gives_up room q (named_in m old q id sound named) in
          gives_up_known m (Step q unit) old must.0 must.1);
    });
  }

-- a step on a transition that is not cached, once a search has reached it
pub stepped :
    (m : Machine) (id : ℕ) (q : Powerset) (unit : Option ℕ) (at : ℕ) (old new : CacheView) → IsMachine m → IsUnit unit
    → IsStoreOf old.store m → quits_on m unit ≡ false → unit_class m unit < m.stride
    → (KnowsStep m old.store id unit → ⊥) → Names old.store.table id q
    → IsStepRun m id unit (moved at (known_of old)) (known_of new) → StepMakes m q unit at old new
stepped m id q unit at old new machine is sound clean below unknown named run =
    let none : is_cached m (Step q unit) (known_of old) ≡ false =
    uncached_known m (Step q unit) old machine (clean, below) is sound (step_unknown m id unit old unknown q named) in
    after_made m (Step q unit) (moved at (known_of old)) (known_of old) (known_of new) none
    (ap (λ b. cond b (Some (moved at (known_of old))) (made m (Step q unit) (moved at (known_of old)))) (sym none)
    ∙ run.does clean q (names_in m old q id sound named))

-- a failed step, as a search reports it
pub reported_failure :
    (m : Machine) (q : Powerset) (unit : Option ℕ) (at : ℕ) (come new : Known) (e : StepError)
    → FailsFrom m q unit come new e → EventFails m (Step q unit) at come new (step_error e at)
reported_failure m q unit at come new (step.Cache err) f =
    record { unknown = f.unknown; unchanged = f.unchanged; why = GivesUp (f.gives_up tt) refl }
reported_failure m q unit at come new step.OutOfMemory f =
    record { unknown = f.unknown; unchanged = f.unchanged; why = LacksMemory refl }

-- a start state whose slot is filled
pub cached_start_run :
    (m : Machine) (mode : Anchored) (behind : Option ℕ) (slot : ℕ) (c : CacheView) → IsMachine m → IsStoreOf c.store m
    → IsStartSlot m mode behind slot → IsKnownStart c.store slot → IsStartRun m mode behind (known_of c) (known_of c)
cached_start_run m mode behind slot c machine sound at known = record {
  may = at.may;
  does = after_cached m (Start mode behind) (known_of c) (known_of c)
      ((cached_known m (Start mode behind) c machine at.may tt sound).0
      (λ _. subst (IsKnownStart c.store) at.at known));
}

-- the start state of a pattern that is out of range has no slot, and nothing changes
pub past_start_run :
    (m : Machine) (mode : Anchored) (behind : Option ℕ) (c : CacheView) → IsMachine m → IsStoreOf c.store m
    → MayStart m mode behind → m.slots ≤ slot_behind m mode behind
    → IsStartRun m mode behind (known_of c) (known_of c)
past_start_run m mode behind c machine sound may past = record {
  may = may;
  does = after_cached m (Start mode behind) (known_of c) (known_of c)
      ((cached_known m (Start mode behind) c machine may tt sound).0 (λ within. absurd (omega (arith, past, within))));
}

-- a start state whose slot is empty
pub unknown_start :
    (m : Machine) (mode : Anchored) (behind : Option ℕ) (slot : ℕ) (c : CacheView) → IsMachine m → IsStoreOf c.store m
    → IsStartSlot m mode behind slot → (IsKnownStart c.store slot → ⊥)
    → is_cached m (Start mode behind) (known_of c) ≡ false
unknown_start m mode behind slot c machine sound at unknown =
    uncached_known m (Start mode behind) c machine at.may tt sound
    (λ cached. unknown (subst (IsKnownStart c.store) (sym at.at)
    (cached (omega (arith, at.at, at.within)))))

-- a start state that is not cached
module _ (m : Machine) (mode : Anchored) (behind : Option ℕ) (old new : CacheView)
    (may : MayStart m mode behind)
    (unknown : is_cached m (Start mode behind) (known_of old) ≡ false) where
  pub made_start_run :
      made m (Start mode behind) (known_of old) ≡ Some (known_of new)
      → IsStartRun m mode behind (known_of old) (known_of new)
  made_start_run makes = record {
    may = may;
    does = after_made m (Start mode behind) (known_of old) (known_of old) (known_of new) unknown makes;
  }

  pub failed_start_run :
      (e : StepError) → new ≡ with_count old (old.count + 1)
      → (IsCacheError e → Lacks old.store.table (start_state_of m.nfa mode behind)
      × MustGiveUp m (known_of old) (cost (start_state_of m.nfa mode behind)))
      → StartFails m mode behind (known_of old) (known_of new) (start_error e)
  failed_start_run (step.Cache err) unchanged gives_up =
      GivesUpOnStart may unknown
      (let must = gives_up tt in gives_up_known m (Start mode behind) old must.0 must.1) err refl
      (ap known_of unchanged)
  failed_start_run step.OutOfMemory unchanged gives_up =
      RunsOutOnStart may unknown refl (ap known_of unchanged)
