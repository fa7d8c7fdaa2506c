use Rattle.std.proofs.Common.{◌++◌, sym, subst}
use Rattle.automata_base.specs.Nfas.Nodes.{nodes_of}
use Rattle.automata_transform.specs.Retraced.Folds.{AreTargetsOf, StandsFor}
use Rattle.automata_transform.proofs.Nfas.Folds.Heads.{joined_targets}
use Rattle.automata_transform.proofs.folding.head.Goals as goal

pub returns-clause-stands : goal.returns-clause-stands
returns-clause-stands c = λ ts h.
    let made = nodes_of c.args.made.now.items in
    let k = joined_targets c.args.free.now made c.args.list.now c.args.above ts c.requires.kept h in
    c.in_ok-head.ensures.stands k.0 (c.args.list.now ++ ts)
    (subst (λ v. AreTargetsOf (StandsFor c.args.free.now made k.0) v (c.args.list.now ++ ts)) (sym c.in_ok-ids.ensures)
    k.1)
