use Rattle.std.specs.Cmp.{booleans_Decides}
use Rattle.automata_transform.proofs.Nfas.Flattens.Tests.{flattened_of}
use Rattle.automata_transform.proofs.flattening.if_flattened.Goals as goal

pub returns-then-keeps_captures-clause-flattened :
    goal.returns-then-keeps_captures-clause-flattened
returns-then-keeps_captures-clause-flattened c =
    flattened_of c.args.nfa.now c.args.made c.args.links.now c.requires.begins c.requires.flat
    (c.begins_at_no_link.ensures c.if-begins_at_no_link.true) c.has_empty.result c.has_empty-2.result
    c.has_empty.ensures c.has_empty-2.ensures
    ((booleans_Decides c.has_empty.result c.has_empty-2.result).0 c.if-has_same_empty.true)
