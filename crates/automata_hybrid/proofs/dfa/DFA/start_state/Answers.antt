use Rattle.std.proofs.Common.{rules, ◌≡◌, ◌≤◌, Some, refl}
use Rattle.automata_hybrid.specs.Known.Steps.{IsQuitBehind}
use Rattle.automata_hybrid.proofs.Words.{MayStart, quit_behind, slot_behind}
use Rattle.automata_hybrid.proofs.Known.Calls.{past_start_run}
use Rattle.automata_hybrid.proofs.dfa.DFA.start_state.Goals as goal

pub returns-in-Some-clause-refusal : goal.returns-in-Some-clause-refusal
returns-in-Some-clause-refusal c =
    let quits : quit_behind c.args.self.now c.args.config.now.look_behind ≡ Some c.in-Some.byte = search rules in
    IsQuitBehind c.in-Some.byte quits refl refl

pub returns-in-None-clause-run : goal.returns-in-None-clause-run
returns-in-None-clause-run c =
    let may : MayStart c.args.self.now c.args.config.now.anchored c.args.config.now.look_behind = search rules in
    let past : c.args.self.now.slots
    ≤ slot_behind c.args.self.now c.args.config.now.anchored c.args.config.now.look_behind = search rules in
    past_start_run c.args.self.now c.args.config.now.anchored c.args.config.now.look_behind c.args.cache.now
    c.reveal_invariant_of.ensures.machine
    c.reveal_invariant_of.ensures.store may past
