use Rattle.std.proofs.Common.{◌≡◌, ◌∙◌, ◌+◌, ◌<◌, ◌^◌, ap, sym, subst}
use Rattle.automata_hybrid.proofs.Words.{CacheView, IsNewState, Leads, LeadsToNamed, with_count}
use Rattle.automata_hybrid.proofs.Words.{Names, Powerset}
use Rattle.automata_hybrid.specs.Private.Cache.LookUps.{IsLookedUp}
use Rattle.automata_hybrid.specs.declared.cache.add.Found.TheVariants.{Known, New}
use Rattle.automata_config.specs.declared.error.StepError.TheVariants as step
use Rattle.automata_hybrid.proofs.Storage.Additions.{looked_up, new_state}
use Rattle.automata_hybrid.proofs.Storage.Sound.{sound_counted, sound_of, sound_still}
use Rattle.automata_hybrid.proofs.Known.Events.{must_give_up, step_added, step_there}
use Rattle.automata_hybrid.proofs.Known.Calls.{failed_run, made_run}
use Rattle.automata_hybrid.proofs.Steps.Steps.{ComputesStep, computed_answer, computes_known}
use Rattle.automata_hybrid.proofs.Steps.Steps.{computes_new, key_leads}
use Rattle.automata_hybrid.proofs.Searches.Contracts.{is_store}
use Rattle.automata_hybrid.proofs.Searches.PassState.{if_err}
use Rattle.automata_hybrid.proofs.cache.Cache.compute_next.Goals.{After-set_next, After-set_next-in-New}
use Rattle.automata_hybrid.proofs.cache.Cache.compute_next.Goals as goal

found_known : (c : After-set_next) → Leads c.resolve.new.self.store.table c.in-Known.to c.in_ok-key.key
found_known c =
    looked_up c.determinize.new.self c.resolve.new.self c.in_ok-key.key _ (Known c.in-Known.to) c.resolve.ensures.same
    c.in-Known.is c.in_ok-to.ensures.found

known :
    (c : After-set_next)
    → ComputesStep c.args.dfa.now c.args.id c.args.unit c.args.self.now c.set_next.new.self c.unit_class-class.result
    c.in-Known.to
known c =
    computes_known c.args.dfa.now c.args.id c.args.unit c.args.self.now c.resolve.new.self c.set_next.new.self
    c.unit_class-class.result c.in-Known.to c.in_ok-key.key
    (c.resolve.ensures.same ∙ c.determinize.ensures.counted) c.set_next.ensures.value (found_known c)
    c.in_ok-key.ensures.value

new :
    (c : After-set_next-in-New)
    → ComputesStep c.args.dfa.now c.args.id c.args.unit c.args.self.now c.set_next-in-New.new.self
    c.unit_class-class.result c.in_ok-from-in-New.to
new c =
    let found : IsLookedUp c.resolve.new.self.store.table c.in_ok-key.key (New c.in-New.state) =
    looked_up c.determinize.new.self c.resolve.new.self c.in_ok-key.key _ (New c.in-New.state) c.resolve.ensures.same
    c.in-New.is c.in_ok-to.ensures.found in
    computes_new c.args.dfa.now c.args.id c.args.unit c.args.self.now c.resolve.new.self c.add_next.new.self
    c.set_next-in-New.new.self c.unit_class-class.result c.in_ok-from-in-New.from c.in_ok-from-in-New.to c.in-New.state
    c.in_ok-key.key
    (c.resolve.ensures.same ∙ c.determinize.ensures.counted) c.in_ok-from-in-New.ensures.added
    c.set_next-in-New.ensures.value found.0 c.in_ok-key.ensures.value

after_known : (c : After-set_next) → c.set_next.new.self.store.table.of ≡ c.args.dfa.now
after_known c =
    ap (λ (v : CacheView). v.store.table.of) c.set_next.ensures.value
    ∙ (ap (λ (v : CacheView). v.store.table.of) (c.resolve.ensures.same ∙ c.determinize.ensures.counted)
    ∙ c.requires.sound.of)

after_new : (c : After-set_next-in-New) → c.set_next-in-New.new.self.store.table.of ≡ c.args.dfa.now
after_new c =
    ap (λ (v : CacheView). v.store.table.of) c.set_next-in-New.ensures.value
    ∙ (c.in_ok-from-in-New.ensures.added.of
    ∙ (ap (λ (v : CacheView). v.store.table.of) (c.resolve.ensures.same ∙ c.determinize.ensures.counted)
    ∙ c.requires.sound.of))

pub set_next-requires-clause-next : goal.set_next-requires-clause-next
set_next-requires-clause-next c =
    let same : c.resolve.new.self ≡ with_count c.args.self.now (c.args.self.now.count + 1) =
    c.resolve.ensures.same ∙ c.determinize.ensures.counted in
    let leads : Leads c.resolve.new.self.store.table c.in-Known.to c.in_ok-key.key =
    looked_up c.determinize.new.self c.resolve.new.self c.in_ok-key.key _ (Known c.in-Known.to) c.resolve.ensures.same
    c.in-Known.is c.in_ok-to.ensures.found in (
      c.requires.valid.0,
      subst (λ (v : CacheView). Names v.store.table c.args.id c.requires.valid.0) (sym same) c.requires.valid.1,
      key_leads c.args.dfa.now c.resolve.new.self.store.table c.requires.valid.0 c.in_ok-key.key c.args.unit
          c.unit_class-class.result c.in-Known.to
          (ap (λ (v : CacheView). v.store.table.of) same ∙ c.requires.sound.of) c.unit_class-class.ensures.value
          (c.in_ok-key.ensures.alike c.requires.valid.0 c.requires.valid.1) leads,
    )

pub set_next-requires-in-New-clause-next : goal.set_next-requires-in-New-clause-next
set_next-requires-in-New-clause-next c =
    let same : c.resolve.new.self ≡ with_count c.args.self.now (c.args.self.now.count + 1) =
    c.resolve.ensures.same ∙ c.determinize.ensures.counted in
    let found : IsLookedUp c.resolve.new.self.store.table c.in_ok-key.key (New c.in-New.state) =
    looked_up c.determinize.new.self c.resolve.new.self c.in_ok-key.key _ (New c.in-New.state) c.resolve.ensures.same
    c.in-New.is c.in_ok-to.ensures.found in
    let answer = c.in_ok-from-in-New.ensures.added in (
      c.requires.valid.0,
      answer.saved c.requires.valid.0
          (subst (λ (v : CacheView). Names v.store.table c.args.id c.requires.valid.0) (sym same) c.requires.valid.1),
      key_leads c.args.dfa.now c.add_next.new.self.store.table c.requires.valid.0 c.in_ok-key.key c.args.unit
          c.unit_class-class.result c.in_ok-from-in-New.to
          (answer.of ∙ (ap (λ (v : CacheView). v.store.table.of) same ∙ c.requires.sound.of))
          c.unit_class-class.ensures.value
          (c.in_ok-key.ensures.alike c.requires.valid.0 c.requires.valid.1)
          (LeadsToNamed
          (subst (Names c.add_next.new.self.store.table c.in_ok-from-in-New.to) found.0 answer.named)),
    )

pub add_next-requires-clause-new : goal.add_next-requires-clause-new
add_next-requires-clause-new c =
    let found : IsLookedUp c.resolve.new.self.store.table c.in_ok-key.key (New c.in-New.state) =
    looked_up c.determinize.new.self c.resolve.new.self c.in_ok-key.key _ (New c.in-New.state) c.resolve.ensures.same
    c.in-New.is c.in_ok-to.ensures.found in
    let of : c.resolve.new.self.store.table.of ≡ c.args.dfa.now =
    ap (λ (v : CacheView). v.store.table.of) (c.resolve.ensures.same ∙ c.determinize.ensures.counted)
    ∙ c.requires.sound.of in
    let key : IsNewState c.resolve.new.self.store.table c.in_ok-key.key =
    new_state c.args.dfa.now c.resolve.new.self.store.table c.in_ok-key.key of found.1 c.in_ok-key.ensures.cost
    c.in_ok-key.ensures.is_of in
    subst (λ (q : Powerset). IsNewState c.resolve.new.self.store.table q) (sym found.0) key

pub returns-in_err-from-in-New-clause-refusal : goal.returns-in_err-from-in-New-clause-refusal
returns-in_err-from-in-New-clause-refusal c =
    let same : c.resolve.new.self ≡ with_count c.args.self.now (c.args.self.now.count + 1) =
    c.resolve.ensures.same ∙ c.determinize.ensures.counted in
    let found : IsLookedUp c.resolve.new.self.store.table c.in_ok-key.key (New c.in-New.state) =
    looked_up c.determinize.new.self c.resolve.new.self c.in_ok-key.key _ (New c.in-New.state) c.resolve.ensures.same
    c.in-New.is c.in_ok-to.ensures.found in
    if_err c.from_residual-in_err-from-in-New.result _ _ c.from_residual-in_err-from-in-New.ensures.1
    (failed_run c.args.dfa.now c.args.id c.args.unit c.args.self.now c.add_next.new.self
    c.requires.sound.machine c.unit_class-class.ensures.unit
    c.requires.sound.store
    (c.requires.sound.table.low c.args.id c.requires.valid.0 c.requires.valid.1) c.requires.clean
    (subst (λ k. k < c.args.dfa.now.stride) c.unit_class-class.ensures.value c.unit_class-class.ensures.below)
    c.requires.unknown c.in_err-from-in-New.field-0.0 (c.in_err-from-in-New.ensures.refused.kept ∙ same)
    (λ cache q named. must_give_up c.args.dfa.now c.args.self.now c.resolve.new.self _ c.in-New.state c.in_ok-key.key _
    c.requires.sound.of same found.0 (c.in_ok-key.ensures.value q named) found.1
    (c.in_err-from-in-New.ensures.refused.gives_up.0 cache)))

pub returns-in-Known-clause-taken : goal.returns-in-Known-clause-taken
returns-in-Known-clause-taken c =
    let low : c.args.id < 2 ^ 29 = c.requires.sound.table.low c.args.id c.requires.valid.0 c.requires.valid.1 in
    record {
      answer =
          computed_answer c.args.dfa.now c.args.id c.args.unit c.args.self.now c.set_next.new.self
          c.unit_class-class.result
          c.in-Known.to (known c)
          c.requires.valid low c.requires.clean c.unit_class-class.ensures.value c.unit_class-class.ensures.below
          (after_known c) c.set_next.ensures.table.cells
          (c.set_next.ensures.table.tagged c.in-Known.to);
      run =
          made_run c.args.dfa.now c.args.id c.args.unit c.args.self.now c.set_next.new.self
          c.requires.sound.machine c.unit_class-class.ensures.unit
          c.requires.sound.store low c.requires.clean
          (subst (λ k. k < c.args.dfa.now.stride) c.unit_class-class.ensures.value c.unit_class-class.ensures.below)
          c.requires.unknown
          (λ q n. step_there c.args.dfa.now q c.args.unit c.args.self.now c.resolve.new.self c.set_next.new.self
          c.args.id c.unit_class-class.result c.in-Known.to c.in_ok-key.key c.requires.sound.machine
          c.unit_class-class.ensures.unit c.requires.sound.store c.requires.clean
          (subst (λ k. k < c.args.dfa.now.stride) c.unit_class-class.ensures.value c.unit_class-class.ensures.below)
          c.unit_class-class.ensures.value n (c.resolve.ensures.same ∙ c.determinize.ensures.counted)
          (c.in_ok-key.ensures.value q n) c.set_next.ensures.value (found_known c));
    }

pub returns-in_ok-from-in-New-clause-taken : goal.returns-in_ok-from-in-New-clause-taken
returns-in_ok-from-in-New-clause-taken c =
    let found : IsLookedUp c.resolve.new.self.store.table c.in_ok-key.key (New c.in-New.state) =
    looked_up c.determinize.new.self c.resolve.new.self c.in_ok-key.key _ (New c.in-New.state) c.resolve.ensures.same
    c.in-New.is c.in_ok-to.ensures.found in
    let low : c.args.id < 2 ^ 29 = c.requires.sound.table.low c.args.id c.requires.valid.0 c.requires.valid.1 in
    record {
      answer =
          computed_answer c.args.dfa.now c.args.id c.args.unit c.args.self.now c.set_next-in-New.new.self
          c.unit_class-class.result c.in_ok-from-in-New.to (new c)
          c.requires.valid low c.requires.clean c.unit_class-class.ensures.value c.unit_class-class.ensures.below
          (after_new c) c.set_next-in-New.ensures.table.cells
          (c.set_next-in-New.ensures.table.tagged c.in_ok-from-in-New.to);
      run =
          made_run c.args.dfa.now c.args.id c.args.unit c.args.self.now c.set_next-in-New.new.self
          c.requires.sound.machine c.unit_class-class.ensures.unit
          c.requires.sound.store low c.requires.clean
          (subst (λ k. k < c.args.dfa.now.stride) c.unit_class-class.ensures.value c.unit_class-class.ensures.below)
          c.requires.unknown
          (λ q n. step_added c.args.dfa.now q c.args.unit c.args.self.now c.resolve.new.self c.set_next-in-New.new.self
          c.args.id c.unit_class-class.result c.in_ok-from-in-New.to c.in_ok-key.key c.requires.sound.machine
          c.unit_class-class.ensures.unit c.requires.sound.store c.requires.clean
          (subst (λ k. k < c.args.dfa.now.stride) c.unit_class-class.ensures.value c.unit_class-class.ensures.below)
          c.unit_class-class.ensures.value n (c.resolve.ensures.same ∙ c.determinize.ensures.counted)
          (c.in_ok-key.ensures.value q n) c.add_next.new.self c.in_ok-from-in-New.from c.in-New.state
          (is_store c.set_next-in-New.new.self.store c.args.dfa.now (after_new c) c.set_next-in-New.ensures.store)
          c.in_ok-from-in-New.ensures.added c.set_next-in-New.ensures.value found.0 found.1);
    }

pub returns-in_err-to-clause-refusal : goal.returns-in_err-to-clause-refusal
returns-in_err-to-clause-refusal c =
    if_err c.from_residual-in_err-to.result step.OutOfMemory _ c.from_residual-in_err-to.ensures.1
    (failed_run c.args.dfa.now c.args.id c.args.unit c.args.self.now c.resolve.new.self c.requires.sound.machine
    c.unit_class-class.ensures.unit
    c.requires.sound.store
    (c.requires.sound.table.low c.args.id c.requires.valid.0 c.requires.valid.1) c.requires.clean
    (subst (λ k. k < c.args.dfa.now.stride) c.unit_class-class.ensures.value c.unit_class-class.ensures.below)
    c.requires.unknown step.OutOfMemory (c.resolve.ensures.same ∙ c.determinize.ensures.counted)
    (λ never. absurd never))

pub returns-in-Known-clause-sound : goal.returns-in-Known-clause-sound
returns-in-Known-clause-sound c =
    sound_of c.requires.sound (after_known c) c.set_next.ensures.store c.set_next.ensures.table

pub returns-in_ok-from-in-New-clause-sound : goal.returns-in_ok-from-in-New-clause-sound
returns-in_ok-from-in-New-clause-sound c =
    sound_of c.requires.sound (after_new c) c.set_next-in-New.ensures.store c.set_next-in-New.ensures.table

pub returns-in_err-key-clause-sound : goal.returns-in_err-key-clause-sound
returns-in_err-key-clause-sound c = sound_still c.determinize.ensures.counted (sound_counted c.requires.sound)

pub returns-in_err-to-clause-sound : goal.returns-in_err-to-clause-sound
returns-in_err-to-clause-sound c =
    sound_still (c.resolve.ensures.same ∙ c.determinize.ensures.counted) (sound_counted c.requires.sound)

pub returns-in_err-from-in-New-clause-sound : goal.returns-in_err-from-in-New-clause-sound
returns-in_err-from-in-New-clause-sound c =
    sound_still
    (c.in_err-from-in-New.ensures.refused.kept ∙ (c.resolve.ensures.same ∙ c.determinize.ensures.counted))
    (sound_counted c.requires.sound)

pub add_next-requires-clause-sound : goal.add_next-requires-clause-sound
add_next-requires-clause-sound c =
    sound_still (c.resolve.ensures.same ∙ c.determinize.ensures.counted) (sound_counted c.requires.sound)

pub set_next-requires-in-New-clause-row : goal.set_next-requires-in-New-clause-row
set_next-requires-in-New-clause-row c =
    let same : c.resolve.new.self ≡ with_count c.args.self.now (c.args.self.now.count + 1) =
    c.resolve.ensures.same ∙ c.determinize.ensures.counted in (
      c.requires.valid.0,
      c.in_ok-from-in-New.ensures.added.saved c.requires.valid.0
          (subst (λ (v : CacheView). Names v.store.table c.args.id c.requires.valid.0) (sym same) c.requires.valid.1),
    )
