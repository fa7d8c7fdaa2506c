use Rattle.std.proofs.Common.{ℕ, ◌≡◌, ◌<◌, ◌≤◌, ◌^◌, ◌∙◌, ◌⊎◌, Option, false, ap, inl, inr, refl, sym, subst, arith}
use Rattle.std.proofs.lemmas.Bool.{cases_lt}
use Rattle.automata_hybrid.proofs.Words.{CacheView, cell_of, EventFails, IsRowId, IsStepAnswer, known_of, known_step}
use Rattle.automata_hybrid.proofs.Words.{KnowsStep, Machine, moved, quits_on, Rows, Step}
use Rattle.std.proofs.lemmas.Grind.{common_steps}
use Rattle.automata_hybrid.specs.Cache.Progress.{progress_updated}
use Rattle.automata_hybrid.specs.Known.Steps.{IsStepRun, StepFails}
use Rattle.automata_hybrid.proofs.Known.Calls.{after_cached, cached_step, names_in, reported_failure, stepped}
use Rattle.automata_hybrid.proofs.Searches.PassState.{false_true}
use Rattle.automata_hybrid.proofs.Steps.Steps.{known_answer, moved_answer, unknown_clean}
use Rattle.automata_hybrid.proofs.Storage.Sound.{sound_searched, sound_still}
use Rattle.automata_hybrid.proofs.search.step.Goals as goal

-- the cell of a transition that is not cached is empty
unread :
    (m : Machine) (id : ℕ) (unit : Option ℕ) (c : CacheView) (cell : ℕ) → cell ≡ known_step m c.store id unit
    → (KnowsStep m c.store id unit → ⊥)
    → 2 ^ 31 ≤ cell
unread m id unit c cell same unknown = go (cases_lt cell (2 ^ 31)) where
  go : (cell < 2 ^ 31) ⊎ (2 ^ 31 ≤ cell) → 2 ^ 31 ≤ cell
  go (inl low) = absurd (unknown (subst (λ n. n < 2 ^ 31) same low))
  go (inr free) = free

pub returns-then-not-is_unknown-clause-step : goal.returns-then-not-is_unknown-clause-step
returns-then-not-is_unknown-clause-step c =
    let known : c.args.cell < 2 ^ 31 = grind (arith, common_steps, c.if-not-is_unknown.ensures.size) in
    let same : c.cell-cell.result ≡ c.args.cell =
    c.cell-cell.ensures.value
    ∙ (ap (cell_of c.args.cache.now.store c.args.id) c.unit_class.ensures.value ∙ sym (c.requires.cell.0 known)) in
    record {
      answer =
          subst (IsStepAnswer c.args.dfa.now c.args.id c.args.unit c.args.cache.now c.args.cache.now) same
          (known_answer c.args.dfa.now c.args.id c.args.unit c.args.cache.now c.unit_class.result c.cell-cell.result
          c.requires.sound.of c.requires.valid
          c.unit_class.ensures.value c.unit_class.ensures.small c.unit_class.ensures.quit c.unit_class.ensures.free
          c.cell-cell.ensures.value c.cell-cell.ensures.named
          (c.requires.sound.table.low c.args.id c.requires.valid.0 c.requires.valid.1) (omega (arith, known, same))
          c.cell-cell.ensures.tag
          c.unit_class.ensures.unit);
      quit = λ on. refl;
      taken = λ clean q n.
          after_cached c.args.dfa.now (Step q c.args.unit) (moved c.args.at (known_of c.args.cache.now))
          (known_of c.args.cache.now)
          (cached_step c.args.dfa.now c.args.id c.args.unit c.args.cache.now c.requires.sound.machine
          c.unit_class.ensures.unit
          c.requires.sound.store
          (subst (λ k. k < c.args.dfa.now.stride) c.unit_class.ensures.value c.unit_class.ensures.below)
          (subst (λ n. n < 2 ^ 31) (c.requires.cell.0 known) known) clean q n);
    }

pub compute_next-requires-clause-unknown : goal.compute_next-requires-clause-unknown
compute_next-requires-clause-unknown c =
    let free : 2 ^ 31 ≤ c.args.cell = grind (arith, common_steps, c.if-not-is_unknown.ensures.size) in
    subst (λ (v : CacheView). KnowsStep c.args.dfa.now v.store c.args.id c.args.unit → ⊥)
    (sym c.move_search.ensures.value) (c.requires.cell.1 free)

pub compute_next-requires-clause-clean : goal.compute_next-requires-clause-clean
compute_next-requires-clause-clean c =
    let free : 2 ^ 31 ≤ c.args.cell = grind (arith, common_steps, c.if-not-is_unknown.ensures.size) in
    unknown_clean c.args.dfa.now c.args.id c.args.unit c.args.cache.now c.unit_class.result c.cell-cell.result
    c.requires.sound.of c.requires.valid
    c.unit_class.ensures.value c.unit_class.ensures.small c.unit_class.ensures.quit c.unit_class.ensures.free
    c.cell-cell.ensures.value c.cell-cell.ensures.named
    (unread c.args.dfa.now c.args.id c.args.unit c.args.cache.now c.cell-cell.result
    (c.cell-cell.ensures.value ∙ ap (cell_of c.args.cache.now.store c.args.id) c.unit_class.ensures.value)
    (c.requires.cell.1 free))

pub compute_next-requires-clause-valid : goal.compute_next-requires-clause-valid
compute_next-requires-clause-valid c =
    subst (λ (t : Rows). IsRowId t c.args.id) (sym c.move_search.ensures.table) c.requires.valid

pub returns-in-Ok-clause-step : goal.returns-in-Ok-clause-step
returns-in-Ok-clause-step c =
    let free : 2 ^ 31 ≤ c.args.cell = grind (arith, common_steps, c.if-not-is_unknown.ensures.size) in
    let clean : quits_on c.args.dfa.now c.args.unit ≡ false =
    unknown_clean c.args.dfa.now c.args.id c.args.unit c.args.cache.now c.unit_class.result c.cell-cell.result
    c.requires.sound.of c.requires.valid c.unit_class.ensures.value c.unit_class.ensures.small c.unit_class.ensures.quit
    c.unit_class.ensures.free c.cell-cell.ensures.value c.cell-cell.ensures.named
    (unread c.args.dfa.now c.args.id c.args.unit c.args.cache.now c.cell-cell.result
    (c.cell-cell.ensures.value ∙ ap (cell_of c.args.cache.now.store c.args.id) c.unit_class.ensures.value)
    (c.requires.cell.1 free)) in
    record {
      answer =
          moved_answer c.args.dfa.now c.args.id c.args.unit
          (progress_updated c.args.cache.now.store.searched c.args.at) c.args.cache.now c.compute_next.new.self
          c.in-Ok.next
          (subst (λ (v : CacheView). IsStepAnswer c.args.dfa.now c.args.id c.args.unit v c.compute_next.new.self
          c.in-Ok.next)
          c.move_search.ensures.value c.in-Ok.ensures.taken.answer);
      quit = λ quits. absurd (false_true (sym clean ∙ quits));
      taken = λ _ q named.
          stepped c.args.dfa.now c.args.id q c.args.unit c.args.at c.args.cache.now c.compute_next.new.self
          c.requires.sound.machine c.unit_class.ensures.unit
          c.requires.sound.store clean
          (subst (λ k. k < c.args.dfa.now.stride) c.unit_class.ensures.value c.unit_class.ensures.below)
          (c.requires.cell.1 free) named
          (subst (λ (v : CacheView). IsStepRun c.args.dfa.now c.args.id c.args.unit (known_of v)
          (known_of c.compute_next.new.self))
          c.move_search.ensures.value c.in-Ok.ensures.taken.run);
    }

pub returns-in-Err-clause-step : goal.returns-in-Err-clause-step
returns-in-Err-clause-step c =
    let fails : StepFails c.args.dfa.now c.args.id c.args.unit
    (moved c.args.at (known_of c.args.cache.now)) (known_of c.compute_next.new.self) c.in-Err.error =
    subst (λ (v : CacheView). StepFails c.args.dfa.now c.args.id c.args.unit (known_of v)
    (known_of c.compute_next.new.self) c.in-Err.error)
    c.move_search.ensures.value c.in-Err.ensures.refusal in
    record {
      clean = fails.clean;
      fails = λ q named.
          subst (EventFails c.args.dfa.now (Step q c.args.unit) c.args.at
          (moved c.args.at (known_of c.args.cache.now)) (known_of c.compute_next.new.self))
          (sym c.step_error.ensures)
          (reported_failure c.args.dfa.now q c.args.unit c.args.at (moved c.args.at (known_of c.args.cache.now))
          (known_of c.compute_next.new.self) c.in-Err.error
          (fails.fails q (names_in c.args.dfa.now c.args.cache.now q c.args.id
          c.requires.sound.store named)));
    }

pub compute_next-requires-clause-sound : goal.compute_next-requires-clause-sound
compute_next-requires-clause-sound c =
    sound_still c.move_search.ensures.value (sound_searched _ c.requires.sound)
