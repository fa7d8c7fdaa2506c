use Rattle.std.proofs.Common.{ℕ, ◌≡◌, ◌-◌, ◌∙◌, ap, subst}
use Rattle.automata_base.specs.Haystacks.StartConfig.{StartConfig}
use Rattle.automata_hybrid.specs.Known.Steps.{IsStartRun, StartFails}
use Rattle.automata_hybrid.proofs.Words.{IsStartAnswer, known_of, start_search_error}
use Rattle.automata_hybrid.proofs.Steps.BySteps.{stands_first, tagged_of}
use Rattle.automata_hybrid.proofs.dfa.DFA.start_state_forward.Goals as goal

pub returns-in-Ok-clause-answer : goal.returns-in-Ok-clause-answer
returns-in-Ok-clause-answer c =
    subst (λ (s : StartConfig). IsStartAnswer c.args.self.now s.anchored s.look_behind c.args.cache.now
    c.start_state.new.cache c.in-Ok.id)
    c.from_input_forward-config.ensures c.in-Ok.ensures.answer

pub returns-in-Ok-clause-run : goal.returns-in-Ok-clause-run
returns-in-Ok-clause-run c =
    subst (λ (s : StartConfig). IsStartRun c.args.self.now s.anchored s.look_behind (known_of c.args.cache.now)
    (known_of c.start_state.new.cache))
    c.from_input_forward-config.ensures c.in-Ok.ensures.run

pub returns-in-Err-clause-refusal : goal.returns-in-Err-clause-refusal
returns-in-Err-clause-refusal c =
    let e = c.in-Err.error in
    let behind : c.saturating_sub.result ≡ c.args.input.now.start - 1 =
    c.saturating_sub.ensures ∙ ap (λ (n : ℕ). n - 1) c.start-at.ensures.start in
    record {
      error = e;
      fails =
          subst (λ (s : StartConfig). StartFails c.args.self.now s.anchored s.look_behind (known_of c.args.cache.now)
          (known_of c.start_state.new.cache) e)
          c.from_input_forward-config.ensures c.in-Err.ensures.refusal;
      reported =
          c.start_search_error.ensures
          ∙ (ap (λ (n : ℕ). start_search_error e n c.start-at.result) behind
          ∙ ap (start_search_error e (c.args.input.now.start - 1)) c.start-at.ensures.start);
    }

pub returns-in-Ok-clause-stands : goal.returns-in-Ok-clause-stands
returns-in-Ok-clause-stands c = λ early undone.
    stands_first c.args.self.now c.args.input.now c.args.cache.now c.start_state.new.cache c.in-Ok.id
    (tagged_of c.reveal_invariant_of.ensures)
    early undone c.start-at.ensures.valid.within.1
    (subst (λ (s : StartConfig). IsStartAnswer c.args.self.now s.anchored s.look_behind c.args.cache.now
    c.start_state.new.cache c.in-Ok.id)
    c.from_input_forward-config.ensures c.in-Ok.ensures.answer)
