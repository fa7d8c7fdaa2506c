use Rattle.std.proofs.Common.{◌≡◌, ◌∙◌, ◌+◌, ap, sym, subst}
use Rattle.automata_hybrid.proofs.Words.{CacheView, IsNewState, Lacks, Leads, LeadsToNamed, Names, Powerset, start_row}
use Rattle.automata_hybrid.proofs.Words.{start_state_of, with_count}
use Rattle.automata_hybrid.specs.Private.Cache.LookUps.{IsLookedUp}
use Rattle.automata_hybrid.specs.declared.cache.add.Found.TheVariants.{Known, New}
use Rattle.automata_hybrid.proofs.Storage.Additions.{looked_up, new_state}
use Rattle.automata_hybrid.proofs.Storage.Sound.{sound_counted, sound_of, sound_still}
use Rattle.automata_hybrid.proofs.Known.Events.{must_give_up, start_added, start_there}
use Rattle.automata_hybrid.proofs.Known.Calls.{failed_start_run, made_start_run}
use Rattle.automata_hybrid.proofs.Steps.Starts.{computed_answer, slot_leads}
use Rattle.automata_hybrid.proofs.Searches.Contracts.{is_store}
use Rattle.automata_hybrid.proofs.Searches.PassState.{if_err}
use Rattle.automata_hybrid.proofs.cache.Cache.compute_start.Goals.{After-set_start, After-set_start-in-New}
use Rattle.automata_config.specs.Options.{Options, specialize_start_states_of}
use Rattle.automata_hybrid.proofs.cache.Cache.compute_start.Goals as goal

-- the start state is there
known :
    (c : After-set_start)
    → Leads c.resolve.new.self.store.table c.in-Known.id (start_state_of c.args.dfa.now.nfa c.args.mode c.args.prev)
known c =
    subst (Leads c.resolve.new.self.store.table c.in-Known.id) c.in_ok-key.ensures.value
    (looked_up c.determinize_start.new.self c.resolve.new.self c.in_ok-key.key _ (Known c.in-Known.id)
    c.resolve.ensures.same c.in-Known.is c.in_ok-id.ensures.found)

-- no row has it
lacks :
    (c : After-set_start-in-New)
    → (c.in-New.state ≡ start_state_of c.args.dfa.now.nfa c.args.mode c.args.prev)
    × Lacks c.resolve.new.self.store.table (start_state_of c.args.dfa.now.nfa c.args.mode c.args.prev)
lacks c =
    let found : IsLookedUp c.resolve.new.self.store.table c.in_ok-key.key (New c.in-New.state) =
    looked_up c.determinize_start.new.self c.resolve.new.self c.in_ok-key.key _ (New c.in-New.state)
    c.resolve.ensures.same c.in-New.is c.in_ok-id.ensures.found in (
      found.0 ∙ c.in_ok-key.ensures.value,
      subst (Lacks c.resolve.new.self.store.table) c.in_ok-key.ensures.value found.1,
    )

-- its row has the start tag if the settings say so
tags :
    (c : After-set_start-in-New)
    → record { state = c.in-New.state; started = c.get_specialize_start_states-started.result }
    ≡ start_row c.args.dfa.now c.args.mode c.args.prev
tags c =
    let started : c.get_specialize_start_states-started.result ≡ specialize_start_states_of c.args.dfa.now.config =
    c.get_specialize_start_states-started.ensures
    ∙ ap (λ (o : Options). specialize_start_states_of o) c.get_config.ensures in
    λ i. record { state = (lacks c).0 i; started = started i }

after_known : (c : After-set_start) → c.set_start.new.self.store.table.of ≡ c.args.dfa.now
after_known c =
    ap (λ (v : CacheView). v.store.table.of) c.set_start.ensures.value
    ∙ (ap (λ (v : CacheView). v.store.table.of) (c.resolve.ensures.same ∙ c.determinize_start.ensures.counted)
    ∙ c.requires.sound.of)

after_new : (c : After-set_start-in-New) → c.set_start-in-New.new.self.store.table.of ≡ c.args.dfa.now
after_new c =
    ap (λ (v : CacheView). v.store.table.of) c.set_start-in-New.ensures.value
    ∙ (c.in_ok-id-in-New.ensures.added.of
    ∙ (ap (λ (v : CacheView). v.store.table.of) (c.resolve.ensures.same ∙ c.determinize_start.ensures.counted)
    ∙ c.requires.sound.of))

pub determinize_start-requires-clause-slot : goal.determinize_start-requires-clause-slot
determinize_start-requires-clause-slot c = (c.args.slot, c.requires.slot)

pub set_start-requires-clause-leads : goal.set_start-requires-clause-leads
set_start-requires-clause-leads c =
    let leads : Leads c.resolve.new.self.store.table c.in-Known.id c.in_ok-key.key =
    looked_up c.determinize_start.new.self c.resolve.new.self c.in_ok-key.key _ (Known c.in-Known.id)
    c.resolve.ensures.same c.in-Known.is c.in_ok-id.ensures.found in
    let of : c.resolve.new.self.store.table.of ≡ c.args.dfa.now =
    ap (λ (v : CacheView). v.store.table.of) (c.resolve.ensures.same ∙ c.determinize_start.ensures.counted)
    ∙ c.requires.sound.of in
    slot_leads c.args.dfa.now c.args.mode c.args.prev c.args.slot c.resolve.new.self.store.table c.in-Known.id
    c.in_ok-key.key c.requires.slot of c.in_ok-key.ensures.value leads

pub set_start-requires-in-New-clause-leads : goal.set_start-requires-in-New-clause-leads
set_start-requires-in-New-clause-leads c =
    let found : IsLookedUp c.resolve.new.self.store.table c.in_ok-key.key (New c.in-New.state) =
    looked_up c.determinize_start.new.self c.resolve.new.self c.in_ok-key.key _ (New c.in-New.state)
    c.resolve.ensures.same c.in-New.is c.in_ok-id.ensures.found in
    let of : c.resolve.new.self.store.table.of ≡ c.args.dfa.now =
    ap (λ (v : CacheView). v.store.table.of) (c.resolve.ensures.same ∙ c.determinize_start.ensures.counted)
    ∙ c.requires.sound.of in
    slot_leads c.args.dfa.now c.args.mode c.args.prev c.args.slot c.add_start.new.self.store.table c.in_ok-id-in-New.id
    c.in-New.state c.requires.slot (c.in_ok-id-in-New.ensures.added.of ∙ of) (found.0 ∙ c.in_ok-key.ensures.value)
    (LeadsToNamed c.in_ok-id-in-New.ensures.added.named)

pub add_start-requires-clause-new : goal.add_start-requires-clause-new
add_start-requires-clause-new c =
    let found : IsLookedUp c.resolve.new.self.store.table c.in_ok-key.key (New c.in-New.state) =
    looked_up c.determinize_start.new.self c.resolve.new.self c.in_ok-key.key _ (New c.in-New.state)
    c.resolve.ensures.same c.in-New.is c.in_ok-id.ensures.found in
    let of : c.resolve.new.self.store.table.of ≡ c.args.dfa.now =
    ap (λ (v : CacheView). v.store.table.of) (c.resolve.ensures.same ∙ c.determinize_start.ensures.counted)
    ∙ c.requires.sound.of in
    let key : IsNewState c.resolve.new.self.store.table c.in_ok-key.key =
    new_state c.args.dfa.now c.resolve.new.self.store.table c.in_ok-key.key of found.1 c.in_ok-key.ensures.cost
    c.in_ok-key.ensures.is_of in
    subst (λ (q : Powerset). IsNewState c.resolve.new.self.store.table q) (sym found.0) key

pub returns-in-Known-clause-started : goal.returns-in-Known-clause-started
returns-in-Known-clause-started c =
    record {
      answer =
          computed_answer c.args.dfa.now c.args.mode c.args.prev c.args.self.now c.set_start.new.self c.args.slot
          c.in-Known.id
          (subst
          (λ (v : CacheView). Leads v.store.table c.in-Known.id
          (start_state_of c.args.dfa.now.nfa c.args.mode c.args.prev)) (sym c.set_start.ensures.value) (known c))
          c.set_start.ensures.written c.requires.slot (c.set_start.ensures.table.tagged c.in-Known.id);
      run =
          made_start_run c.args.dfa.now c.args.mode c.args.prev c.args.self.now c.set_start.new.self
          c.requires.slot.may c.requires.unknown
          (start_there c.args.dfa.now c.args.mode c.args.prev c.args.self.now c.resolve.new.self c.set_start.new.self
          c.args.slot c.in-Known.id c.requires.sound.machine c.requires.sound.store c.requires.slot.at
          (c.resolve.ensures.same ∙ c.determinize_start.ensures.counted) c.set_start.ensures.value (known c));
    }

pub returns-in_ok-id-in-New-clause-started : goal.returns-in_ok-id-in-New-clause-started
returns-in_ok-id-in-New-clause-started c =
    record {
      answer =
          computed_answer c.args.dfa.now c.args.mode c.args.prev c.args.self.now c.set_start-in-New.new.self c.args.slot
          c.in_ok-id-in-New.id
          (subst
          (λ (v : CacheView). Leads v.store.table c.in_ok-id-in-New.id
          (start_state_of c.args.dfa.now.nfa c.args.mode c.args.prev)) (sym c.set_start-in-New.ensures.value)
          (LeadsToNamed
          (subst (Names c.add_start.new.self.store.table c.in_ok-id-in-New.id) (lacks c).0
          c.in_ok-id-in-New.ensures.added.named)))
          c.set_start-in-New.ensures.written c.requires.slot
          (c.set_start-in-New.ensures.table.tagged c.in_ok-id-in-New.id);
      run =
          made_start_run c.args.dfa.now c.args.mode c.args.prev c.args.self.now c.set_start-in-New.new.self
          c.requires.slot.may c.requires.unknown
          (start_added c.args.dfa.now c.args.mode c.args.prev c.args.self.now c.resolve.new.self
          c.set_start-in-New.new.self c.args.slot c.in_ok-id-in-New.id c.requires.sound.machine c.requires.sound.store
          c.requires.slot.at (c.resolve.ensures.same ∙ c.determinize_start.ensures.counted) c.add_start.new.self
          (record { state = c.in-New.state; started = c.get_specialize_start_states-started.result })
          (is_store c.set_start-in-New.new.self.store c.args.dfa.now (after_new c) c.set_start-in-New.ensures.store)
          c.in_ok-id-in-New.ensures.added c.set_start-in-New.ensures.value (tags c) (lacks c).1);
    }

pub returns-in_err-id-in-New-clause-refusal : goal.returns-in_err-id-in-New-clause-refusal
returns-in_err-id-in-New-clause-refusal c =
    let same : c.resolve.new.self ≡ with_count c.args.self.now (c.args.self.now.count + 1) =
    c.resolve.ensures.same ∙ c.determinize_start.ensures.counted in
    let found : IsLookedUp c.resolve.new.self.store.table c.in_ok-key.key (New c.in-New.state) =
    looked_up c.determinize_start.new.self c.resolve.new.self c.in_ok-key.key _ (New c.in-New.state)
    c.resolve.ensures.same c.in-New.is c.in_ok-id.ensures.found in
    if_err c.from_residual-in_err-id-in-New.result _ _ c.from_residual-in_err-id-in-New.ensures.1
    (failed_start_run c.args.dfa.now c.args.mode c.args.prev c.args.self.now c.add_start.new.self
    c.requires.slot.may c.requires.unknown c.in_err-id-in-New.field-0.0 (c.in_err-id-in-New.ensures.refused.kept ∙ same)
    (λ cache. must_give_up c.args.dfa.now c.args.self.now c.resolve.new.self _ c.in-New.state c.in_ok-key.key _
    c.requires.sound.of same found.0 c.in_ok-key.ensures.value found.1
    (c.in_err-id-in-New.ensures.refused.gives_up.0 cache)))

pub returns-in-Known-clause-sound : goal.returns-in-Known-clause-sound
returns-in-Known-clause-sound c =
    sound_of c.requires.sound (after_known c) c.set_start.ensures.store c.set_start.ensures.table

pub returns-in_ok-id-in-New-clause-sound : goal.returns-in_ok-id-in-New-clause-sound
returns-in_ok-id-in-New-clause-sound c =
    sound_of c.requires.sound (after_new c) c.set_start-in-New.ensures.store c.set_start-in-New.ensures.table

pub returns-in_err-key-clause-sound : goal.returns-in_err-key-clause-sound
returns-in_err-key-clause-sound c = sound_still c.determinize_start.ensures.counted (sound_counted c.requires.sound)

pub returns-in_err-id-clause-sound : goal.returns-in_err-id-clause-sound
returns-in_err-id-clause-sound c =
    sound_still (c.resolve.ensures.same ∙ c.determinize_start.ensures.counted) (sound_counted c.requires.sound)

pub returns-in_err-id-in-New-clause-sound : goal.returns-in_err-id-in-New-clause-sound
returns-in_err-id-in-New-clause-sound c =
    sound_still
    (c.in_err-id-in-New.ensures.refused.kept ∙ (c.resolve.ensures.same ∙ c.determinize_start.ensures.counted))
    (sound_counted c.requires.sound)

pub add_start-requires-clause-sound : goal.add_start-requires-clause-sound
add_start-requires-clause-sound c =
    sound_still (c.resolve.ensures.same ∙ c.determinize_start.ensures.counted) (sound_counted c.requires.sound)
