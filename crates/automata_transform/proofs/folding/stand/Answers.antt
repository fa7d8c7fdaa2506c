use Rattle.std.proofs.Common.{refl}
use Rattle.automata_base.specs.Nfas.Nfa.{Split}
use Rattle.automata_base.specs.Nfas.Nodes.{nodes_of}
use Rattle.automata_transform.proofs.Nfas.Folds.Heads.{union_stands}
use Rattle.automata_transform.proofs.folding.stand.Goals as goal

pub returns-in_ok-id-in_default-clause-stands : goal.returns-in_ok-id-in_default-clause-stands
returns-in_ok-id-in_default-clause-stands c = λ d ts h.
    union_stands c.args.free.now (nodes_of c.args.made.now.items) (nodes_of c.make.new.made.items)
    (Split c.args.ids.items) d
    c.in_ok-id-in_default.id c.args.ids.items ts c.in_ok-id-in_default.ensures.more refl
    c.in_ok-id-in_default.ensures.made h
