use Rattle.std.proofs.Common.{true, false, sym, ap, ◌∙◌, arith, replicate}
use Rattle.std.proofs.lemmas.List.{get_or-replicate}
use Rattle.automata_base.specs.ByteClasses.Classes.{states_bound}
use Rattle.automata_base.specs.Retraced.Boundaries.{Adds}
use Rattle.automata_base.proofs.ByteClasses.Marking.{adds_like, bounded_off, bounded_on}
use Rattle.automata_base.proofs.util.alphabet.boundaries.Goals as goal

pub returns-then-not-on : goal.returns-then-not-on
returns-then-not-on c = λ byte h.
    get_or-replicate 257 byte true false (omega (arith, h))
    ∙ sym (bounded_off c.args.nfa.now c.args.quits.now c.args.on c.if-not-on.true byte)

pub returns : goal.returns
returns c =
    let read : Adds (replicate 257 false) c.mark_states.new.marks
    (states_bound c.args.nfa.now.flags.line_terminator c.args.nfa.now.states) =
    adds_like (replicate 257 false) c.mark_states.new.marks
    (states_bound c.flags.result.line_terminator c.states.result.now) _
    (λ b. ap (λ f. states_bound f.line_terminator c.args.nfa.now.states b) (sym c.flags.ensures)
    ∙ ap (λ s. states_bound c.flags.result.line_terminator s b) (sym c.states.ensures.same))
    c.mark_states.ensures
    in
    bounded_on c.args.nfa.now c.args.quits.now c.args.on (replicate 257 false) c.mark_states.new.marks
    c.mark_quits.new.marks
    c.if-not-on.false (λ b h. get_or-replicate 257 b false false (omega (arith, h))) read c.mark_quits.ensures
