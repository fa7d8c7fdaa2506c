use Rattle.std.proofs.Common.{sym, ap, ◌∙◌, arith}
use Rattle.automata_base.specs.Retraced.Boundaries.{is_marked}
use Rattle.automata_base.specs.ByteClasses.Classes.{is_boundary, class_of}
use Rattle.automata_base.proofs.Powersets.AlikeClasses.{class_quits, class_off}
use Rattle.automata_base.proofs.ByteClasses.Boundaries.{are_classes, count-same}
use Rattle.automata_base.proofs.util.alphabet.ByteClasses.of.Goals as goal

pub invariant_of-result : goal.invariant_of-result
invariant_of-result c =
    are_classes (is_marked c.boundaries.result) c.counts.result c.counts.ensures.whole c.counts.ensures.same

pub returns-clause-same : goal.returns-clause-same
returns-clause-same c = λ byte h.
    c.counts.ensures.same byte h
    ∙ count-same (is_marked c.boundaries.result) (is_boundary c.args.nfa.now c.args.quits.now c.args.on) byte
    (λ b l. c.boundaries.ensures b (omega (arith, l, h)))

pub returns-clause-quits : goal.returns-clause-quits
returns-clause-quits c = λ u v hu hv e.
    class_quits c.args.nfa.now c.args.quits.now c.args.on u v
    (sym (returns-clause-same c u hu) ∙ (e ∙ returns-clause-same c v hv))

pub returns-clause-off : goal.returns-clause-off
returns-clause-off c = λ off byte h.
    returns-clause-same c byte h
    ∙ (ap (λ on. class_of c.args.nfa.now c.args.quits.now on byte) off ∙ class_off c.args.nfa.now c.args.quits.now byte)
