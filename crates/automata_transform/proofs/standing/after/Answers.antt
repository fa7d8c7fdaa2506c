use Rattle.std.proofs.lemmas.Slice.Eq.{strip_prefix_is}
use Rattle.automata_transform.proofs.Nfas.Standing.{same_id, some_of}
use Rattle.automata_transform.proofs.standing.after.Goals as goal

pub returns : goal.returns
returns c =
    some_of _ _ c.strip_prefix.result
    (strip_prefix_is same_id c.args.list.now c.args.part.now c.strip_prefix.result c.strip_prefix.ensures.cases)
