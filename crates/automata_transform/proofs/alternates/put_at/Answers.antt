use Rattle.std.proofs.Math.ListN.{length-set}
use Rattle.automata_transform.proofs.Nfas.Mirrors.Lists.{alternates_put}
use Rattle.automata_transform.proofs.alternates.put_at.Goals as goal

pub returns-clause-put : goal.returns-clause-put
returns-clause-put c =
    alternates_put c.args.lists.now.items c.args.at c.index_mut.result.now c.put.new.self c.index_mut.result.now
    c.args.id c.requires c.index_mut.ensures.value c.in_ok-put.ensures

pub returns-clause-few : goal.returns-clause-few
returns-clause-few c = length-set c.args.lists.now.items c.args.at c.put.new.self
