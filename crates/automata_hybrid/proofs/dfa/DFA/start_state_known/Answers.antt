use Rattle.std.proofs.Common.{ℕ, Bool, ◌≡◌, ◌∙◌, ◌^◌, ◌<◌, Option, None, subst, sym, refl, false, true}
use Rattle.automata_hybrid.proofs.Words.{Anchored, Err, IfSome, Ok, quit_behind, Result, slot_behind, StartError}
use Rattle.automata_hybrid.proofs.Words.{supports}
use Rattle.automata_config.specs.declared.error.StartError.TheVariants.{UnsupportedAnchored}
use Rattle.automata_hybrid.specs.Private.Steps.Starts.{IsStartSlot}
use Rattle.automata_hybrid.proofs.Known.Calls.{cached_start_run}
use Rattle.automata_hybrid.proofs.Steps.Starts.{known_answer}
use Rattle.automata_hybrid.proofs.Searches.PassState.{none_is}
use Rattle.automata_hybrid.proofs.dfa.DFA.start_state_known.Goals as goal

supported :
    (o : Option ℕ) (mode : Anchored) (b : Bool)
    → (b ≡ false → ◌≡◌ {A = Result (Option ℕ) StartError} (Ok o) (Err (UnsupportedAnchored mode))) → b ≡ true
supported o mode true refused = refl
supported o mode false refused =
    let bad : ◌≡◌ {A = Result (Option ℕ) StartError} (Ok o) (Err (UnsupportedAnchored mode)) = refused refl in cc

slot_here : (c : goal.After-start_slot) → IsStartSlot c.args.self.now c.args.mode c.args.prev c.in-Ok-Some.slot
slot_here c =
    let none : quit_behind c.args.self.now c.args.prev ≡ None =
    sym c.quits_behind.ensures ∙ none_is c.quits_behind.result (sym c.is_some.ensures ∙ c.if-is_some.false) in
    record {
      may = (
        none,
        supported c.in-Ok-Some.field-0 c.args.mode (supports c.args.self.now c.args.mode)
            c.in-Ok-Some.ensures.refused.1,
      );
      at =
          subst (λ (o : Option ℕ). IfSome o (λ n. n ≡ slot_behind c.args.self.now c.args.mode c.args.prev))
          c.in-Ok-Some.field-0-is c.in-Ok-Some.ensures.slot;
      within =
          subst (λ (o : Option ℕ). IfSome o (λ n. n < c.args.self.now.slots)) c.in-Ok-Some.field-0-is
          c.in-Ok-Some.ensures.within;
    }

pub returns-clause-answer : goal.returns-clause-answer
returns-clause-answer c = λ low.
    known_answer c.args.self.now c.args.mode c.args.prev c.args.cache.now c.in-Ok-Some.slot c.start_slot.result
    c.requires.of (slot_here c) c.start_slot.ensures.value low c.start_slot.ensures.leads
    (c.requires.table.tagged c.start_slot.result)

pub returns-clause-run : goal.returns-clause-run
returns-clause-run c = λ low.
    cached_start_run c.args.self.now c.args.mode c.args.prev c.in-Ok-Some.slot c.args.cache.now
    c.requires.machine
    c.requires.store (slot_here c)
    (subst (λ n. n < 2 ^ 31) c.start_slot.ensures.value low)
