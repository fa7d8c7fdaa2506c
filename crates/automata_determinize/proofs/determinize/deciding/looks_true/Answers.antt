use Rattle.std.proofs.Common.{ap, ◌∙◌}
use Rattle.automata_base.specs.declared.nfa.thompson.state.Flags.{Flags}
use Rattle.automata_determinize.specs.Powersets.Passes.{decided}
use Rattle.automata_base.specs.Haystacks.LookSets.{truth_of}
use Rattle.automata_determinize.proofs.Powersets.LookBits.{sofar_next}
use Rattle.automata_determinize.proofs.determinize.deciding.looks_true.Goals as goal

pub loop-index-preserved : goal.loop-index-preserved
loop-index-preserved c =
    sofar_next (truth_of c.args.known)
    (λ look. decided c.args.nfa.now.flags.line_terminator c.args.nfa.now.flags.reverse c.args.word c.args.half look
    c.args.unit)
    c.loop-index.set c.insert_if-set.result c.loop-index.index c.from_index-look.result c.is_decided-passes.result
    c.loop-index-test.true c.from_index-look.ensures c.insert_if-set.ensures
    (c.is_decided-passes.ensures
    ∙ ap (λ (f : Flags). decided f.line_terminator f.reverse c.args.word c.args.half c.from_index-look.result
    c.args.unit) c.flags-flags.ensures) c.loop-index.invariant
