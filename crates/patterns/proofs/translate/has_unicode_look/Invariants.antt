use Rattle.std.proofs.Common.{ℕ, ◌≡◌, ◌<◌, false}
use Rattle.regex_hir.specs.declared.look.Look as kit_look
use Rattle.regex_nfa.specs.Run.{state_of}
use Rattle.regex_nfa.specs.Sides.{is_unicode_look}
use Rattle.regex_nfa.specs.declared.state.State.TheVariants as kit
use Rattle.patterns.proofs.translate.has_unicode_look.Given as goal

abbrev pub invariant-loop-state : goal.invariant-loop-state
invariant-loop-state l =
    (q r : ℕ) (look : kit_look.Look) → q < l.state-index → state_of l.nfa q ≡ kit.Look look r
    → is_unicode_look look ≡ false
