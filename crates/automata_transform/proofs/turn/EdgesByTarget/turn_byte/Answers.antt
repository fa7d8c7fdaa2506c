use Rattle.std.proofs.Common.{◌<◌, length, get_or, ap, subst, arith}
use Rattle.automata_transform.specs.Retraced.ReversedEdges.{turns_of}
use Rattle.automata_transform.proofs.Nfas.Mirrors.Byte.{at_default, run_next, run_stays, run_large}
use Rattle.automata_transform.proofs.Nfas.Mirrors.Lists.{err_is}
use Rattle.automata_base.proofs.Nfas.Reach.Adding.{id_below}
use Rattle.automata_transform.proofs.turn.EdgesByTarget.turn_byte.Goals as goal

pub turn_run-requires : goal.turn_run-requires
turn_run-requires c =
    subst (λ z. z < length c.args.self.now.lists.items) c.index-targets-byte.is
    (id_below (length c.args.self.now.lists.items) c.args.targets.now c.args.byte c.index-targets-byte.result
    c.requires.range
    (omega (arith, c.requires.inside, c.told-targets)) c.index-targets-byte.is)

pub returns-in_err-turn_run-clause-large : goal.returns-in_err-turn_run-clause-large
returns-in_err-turn_run-clause-large c = λ e.
    run_large c.args.targets.now c.args.lo c.args.byte
    (get_or c.args.targets.now c.args.byte c.index-targets-byte.result)
    (omega (arith, c.requires.inside, c.told-targets))
    (ap (λ z. get_or c.args.targets.now c.args.byte z) c.index-targets-byte.is) (turns_of c.args.self.now) c.args.from
    c.goes_on.result c.goes_on.ensures c.if-goes_on.false
    (c.in_err-turn_run.ensures.large (err_is c.from_residual.result _ _ c.from_residual.ensures.1 e))

pub returns-clause-turned : goal.returns-clause-turned
returns-clause-turned c =
    run_next c.args.targets.now c.args.lo c.args.byte
    (get_or c.args.targets.now c.args.byte c.index-targets-byte.result)
    (omega (arith, c.requires.inside, c.told-targets))
    (ap (λ z. get_or c.args.targets.now c.args.byte z) c.index-targets-byte.is) (turns_of c.args.self.now)
    (turns_of c.turn_run.new.self) c.args.from c.goes_on.result c.goes_on.ensures
    c.if-goes_on.false c.in_ok-turn_run.ensures.turned

pub returns-then-goes_on-clause-turned : goal.returns-then-goes_on-clause-turned
returns-then-goes_on-clause-turned c =
    run_stays c.args.targets.now c.args.lo c.args.byte (get_or c.args.targets.now c.args.byte 0)
    (omega (arith, c.requires.inside, c.told-targets))
    (at_default c.args.targets.now c.args.byte (omega (arith, c.requires.inside, c.told-targets)))
    (turns_of c.args.self.now) c.args.from c.goes_on.result c.goes_on.ensures c.if-goes_on.true
