use Rattle.std.proofs.Common.{◌≡◌, ◌∙◌, ℕ, suc, ◌+◌, ◌*◌, ◌≤◌, length, ap, sym, subst, arith}
use Rattle.automata_hybrid.proofs.Words.{Anchored, behind_of, dead, start_state_of}
use Rattle.automata_hybrid.specs.Machines.StartSlots.{slot_of}
use Rattle.automata_hybrid.proofs.Machines.StartSlots.{past_patterns, few_slots}
use Rattle.automata_hybrid.proofs.dfa.DFA.mode_slot.Goals as goal
use Rattle.automata_config.specs.Options.{starts_for_each_pattern_of}

pub returns-then-pattern-pattern_len-clause-past : goal.returns-then-pattern-pattern_len-clause-past
returns-then-pattern-pattern_len-clause-past c =
    let l : length c.args.self.now.nfa.start_pattern ≤ c.in-Pattern.pattern =
    omega (arith, c.if-pattern-pattern_len.true, c.pattern_len.ensures, c.as_usize-pattern.ensures.value) in
    subst (λ (m : Anchored). start_state_of c.args.self.now.nfa m c.args.prev ≡ dead) (sym c.in-Pattern.is)
    (past_patterns c.args.self.now.nfa c.in-Pattern.pattern c.args.prev l)

pub returns-in-No-clause-slot : goal.returns-in-No-clause-slot
returns-in-No-clause-slot c =
    let k : ℕ = behind_of c.args.self.now.nfa.flags.line_terminator c.args.prev in
    let e : c.slot.result ≡ 0 * 6 + k = omega (arith, c.slot.ensures.value, c.behind-kind.ensures.value) in
    e ∙ ap (λ (m : Anchored). slot_of m k) (sym c.in-No.is)

pub returns-in-Yes-clause-slot : goal.returns-in-Yes-clause-slot
returns-in-Yes-clause-slot c =
    let k : ℕ = behind_of c.args.self.now.nfa.flags.line_terminator c.args.prev in
    let e : c.slot-in-Yes.result ≡ 1 * 6 + k =
    omega (arith, c.slot-in-Yes.ensures.value, c.behind-kind.ensures.value) in
    e ∙ ap (λ (m : Anchored). slot_of m k) (sym c.in-Yes.is)

pub returns-else-pattern-pattern_len-clause-slot : goal.returns-else-pattern-pattern_len-clause-slot
returns-else-pattern-pattern_len-clause-slot c =
    let k : ℕ = behind_of c.args.self.now.nfa.flags.line_terminator c.args.prev in
    let e : c.slot-in-Pattern.result ≡ suc (suc c.in-Pattern.pattern) * 6 + k =
    omega (arith, c.slot-in-Pattern.ensures.value, c.behind-kind.ensures.value, c.as_usize-pattern.ensures.value) in
    e ∙ ap (λ (m : Anchored). slot_of m k) (sym c.in-Pattern.is)

pub returns-then-pattern-pattern_len-clause-behind : goal.returns-then-pattern-pattern_len-clause-behind
returns-then-pattern-pattern_len-clause-behind c =
    let k : ℕ = behind_of c.args.self.now.nfa.flags.line_terminator c.args.prev in
    let few : c.args.self.now.slots ≤ 12 + 6 * length c.args.self.now.nfa.start_pattern =
    few_slots c.args.self.now.nfa (starts_for_each_pattern_of c.args.self.now.config) c.args.self.now.slots
    c.requires.sizes.slots in
    let past : c.args.self.now.slots ≤ suc (suc c.in-Pattern.pattern) * 6 + k =
    omega (arith, few, c.if-pattern-pattern_len.true, c.pattern_len.ensures, c.as_usize-pattern.ensures.value) in
    subst (λ (m : Anchored). c.args.self.now.slots ≤ slot_of m k) (sym c.in-Pattern.is) past
