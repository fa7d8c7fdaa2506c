use Rattle.std.proofs.Common.{ap, ◌∙◌}
use Rattle.automata_base.specs.Nfas.Drafts.{Draft}
use Rattle.automata_base.proofs.Nfas.Building.Refusals.{states_built, ok_unrefused, err_refused, err_memory, err_either}
use Rattle.automata_base.proofs.nfa.thompson.builder.Builder.build.Goals as goal

pub returns-in-Ok-nfa-clause-refused : goal.returns-in-Ok-nfa-clause-refused
returns-in-Ok-nfa-clause-refused c = λ error none refusal.
    absurd
    (ok_unrefused c.args.self.now.states c.push_states.new.states.items c.args.start_anchored c.args.start_unanchored
    c.in-Ok-from_slice.starts.items c.args.self.now.starts
    (states_built c.in-Ok.states.items c.push_states.new.states.items c.self.inside.states.items c.as_slice.result.now
    c.args.self.now.states
    c.in-Ok.ensures.items c.in-Ok-push_states.ensures c.as_slice.ensures.value
    (ap (λ (d : Draft). d.states) c.self.view_is))
    (c.in-Ok-from_slice.ensures.items ∙ (c.as_slice-2.ensures.value ∙ ap (λ (d : Draft). d.starts) c.self.view_is))
    c.from_states-nfa.result c.in-Ok-nfa.nfa c.in-Ok-nfa.is c.from_states-nfa.ensures.refused error refusal)

pub returns-in-Err-clause-refused : goal.returns-in-Err-clause-refused
returns-in-Err-clause-refused c = λ error none refusal.
    err_either c.from.result error
    (err_refused c.args.self.now.states c.push_states.new.states.items c.args.start_anchored c.args.start_unanchored
    c.in-Ok-from_slice.starts.items c.args.self.now.starts
    (states_built c.in-Ok.states.items c.push_states.new.states.items c.self.inside.states.items c.as_slice.result.now
    c.args.self.now.states
    c.in-Ok.ensures.items c.in-Ok-push_states.ensures c.as_slice.ensures.value
    (ap (λ (d : Draft). d.states) c.self.view_is))
    (c.in-Ok-from_slice.ensures.items ∙ (c.as_slice-2.ensures.value ∙ ap (λ (d : Draft). d.starts) c.self.view_is))
    c.from_states-nfa.result c.in-Err.error c.from.result c.from.ensures c.in-Err.is c.from_states-nfa.ensures.refused
    error refusal)

pub returns-in-Err-clause-memory : goal.returns-in-Err-clause-memory
returns-in-Err-clause-memory c = λ none refusal.
    err_memory c.args.self.now.states c.push_states.new.states.items c.args.start_anchored c.args.start_unanchored
    c.in-Ok-from_slice.starts.items c.args.self.now.starts
    (states_built c.in-Ok.states.items c.push_states.new.states.items c.self.inside.states.items c.as_slice.result.now
    c.args.self.now.states
    c.in-Ok.ensures.items c.in-Ok-push_states.ensures c.as_slice.ensures.value
    (ap (λ (d : Draft). d.states) c.self.view_is))
    (c.in-Ok-from_slice.ensures.items ∙ (c.as_slice-2.ensures.value ∙ ap (λ (d : Draft). d.starts) c.self.view_is))
    c.from_states-nfa.result c.in-Err.error c.from.result c.from.ensures c.in-Err.is c.from_states-nfa.ensures.memory
    refusal
