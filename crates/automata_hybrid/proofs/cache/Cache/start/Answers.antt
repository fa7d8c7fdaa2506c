use Rattle.std.proofs.Common.{◌^◌, ◌<◌, ◌≤◌, arith, subst, sym}
use Rattle.std.proofs.lemmas.Grind.{common_steps}
use Rattle.automata_hybrid.specs.Known.Steps.{StartFails}
use Rattle.automata_hybrid.proofs.Words.{IsKnownStart, known_of}
use Rattle.automata_hybrid.proofs.Known.Calls.{cached_start_run, unknown_start}
use Rattle.automata_hybrid.proofs.Steps.Starts.{known_answer}
use Rattle.automata_hybrid.proofs.cache.Cache.start.Goals as goal

pub returns-then-not-is_unknown-clause-answer : goal.returns-then-not-is_unknown-clause-answer
returns-then-not-is_unknown-clause-answer c =
    let low : c.start_slot-found.result < 2 ^ 31 = grind (arith, common_steps, c.if-not-is_unknown.ensures.size) in
    known_answer c.args.dfa.now c.args.mode c.args.prev c.args.self.now c.args.slot c.start_slot-found.result
    c.requires.sound.of c.requires.slot c.start_slot-found.ensures.value low c.start_slot-found.ensures.leads
    (c.requires.sound.table.tagged c.start_slot-found.result)

pub returns-then-not-is_unknown-clause-run : goal.returns-then-not-is_unknown-clause-run
returns-then-not-is_unknown-clause-run c =
    let low : c.start_slot-found.result < 2 ^ 31 = grind (arith, common_steps, c.if-not-is_unknown.ensures.size) in
    cached_start_run c.args.dfa.now c.args.mode c.args.prev c.args.slot c.args.self.now c.requires.sound.machine
    c.requires.sound.store c.requires.slot
    (subst (λ n. n < 2 ^ 31) c.start_slot-found.ensures.value low)

pub compute_start-requires-clause-unknown : goal.compute_start-requires-clause-unknown
compute_start-requires-clause-unknown c =
    let l : 2 ^ 31 ≤ c.start_slot-found.result = grind (arith, common_steps, c.if-not-is_unknown.ensures.size) in
    unknown_start c.args.dfa.now c.args.mode c.args.prev c.args.slot c.args.self.now c.requires.sound.machine
    c.requires.sound.store c.requires.slot
    (λ known. (let k : IsKnownStart c.args.self.now.store c.args.slot = known in
    absurd (omega (arith, k, l, c.start_slot-found.ensures.value))))

pub returns-in-Err-clause-refusal : goal.returns-in-Err-clause-refusal
returns-in-Err-clause-refusal c =
    subst (StartFails c.args.dfa.now c.args.mode c.args.prev (known_of c.args.self.now)
    (known_of c.compute_start.new.self))
    (sym c.start_error.ensures) c.in-Err.ensures.refusal
