use Rattle.automata_transform.proofs.Nfas.Mirrors.Lists.{err_is}
use Rattle.automata_transform.proofs.Nfas.Folds.Alike.{patterns_turned, reversed_true}
use Rattle.automata_transform.proofs.reverse.reversed.Goals as goal

pub returns-clause-pair : goal.returns-clause-pair
returns-clause-pair c = λ skips kind.
    reversed_true c.args.nfa.now c.in_ok-reversed.reversed kind c.in_ok-reversed.ensures.checked
    c.in_ok-reversed.ensures.turned.reads
    c.in_ok-reversed.ensures.alike skips

pub returns-clause-patterns : goal.returns-clause-patterns
returns-clause-patterns c =
    patterns_turned c.args.nfa.now c.in_ok-reversed.reversed c.in_ok-reversed.ensures.checked
    c.in_ok-reversed.ensures.turned.reads

pub returns-in_err-reversed-clause-tested : goal.returns-in_err-reversed-clause-tested
returns-in_err-reversed-clause-tested c = λ e.
    c.in_err-reversed.ensures.tested
    (err_is c.from_residual-in_err-reversed.result _ _ c.from_residual-in_err-reversed.ensures.1 e)
