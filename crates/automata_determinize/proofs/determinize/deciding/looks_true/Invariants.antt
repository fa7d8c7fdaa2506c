use Rattle.automata_determinize.specs.Powersets.Passes.{decided}
use Rattle.automata_base.specs.Haystacks.LookSets.{truth_of}
use Rattle.automata_determinize.proofs.Powersets.LookBits.{Sofar}
use Rattle.automata_determinize.proofs.determinize.deciding.looks_true.Given as goal

abbrev pub invariant-loop-index : goal.invariant-loop-index
invariant-loop-index l =
    Sofar (truth_of l.fn.known)
    (λ look. decided l.nfa.flags.line_terminator l.nfa.flags.reverse l.word l.half look l.unit) l.set l.index
