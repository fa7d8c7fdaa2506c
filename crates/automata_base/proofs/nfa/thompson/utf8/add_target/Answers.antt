use Rattle.std.proofs.Common.{ap, ◌∙◌, sym}
use Rattle.automata_base.specs.Retraced.Once.{once_from}
use Rattle.automata_base.proofs.Nfas.Utf8.Adding.{no_target, one_target}
use Rattle.automata_base.proofs.nfa.thompson.utf8.add_target.Goals as goal

pub returns-then-as_usize-eq0-clause-items : goal.returns-then-as_usize-eq0-clause-items
returns-then-as_usize-eq0-clause-items c =
    ap (once_from c.args.set.now.items)
    (sym (no_target c.args.classes.now c.args.decoder c.args.byte c.args.target
    (sym c.as_usize.ensures.value ∙ c.if-as_usize-eq0.true)))

pub returns-clause-items : goal.returns-clause-items
returns-clause-items c =
    c.add_range.ensures.items
    ∙ ap (once_from c.args.set.now.items)
    (sym (one_target c.args.classes.now c.args.decoder c.args.byte c.args.target
    (λ e. c.if-as_usize-eq0.false (c.as_usize.ensures.value ∙ e))))
