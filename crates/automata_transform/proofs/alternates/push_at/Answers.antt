use Rattle.std.proofs.Math.ListN.{length-set}
use Rattle.automata_transform.proofs.Nfas.Mirrors.Lists.{alternates_push}
use Rattle.automata_transform.proofs.alternates.push_at.Goals as goal

pub returns-clause-pushed : goal.returns-clause-pushed
returns-clause-pushed c =
    alternates_push c.args.lists.now.items c.args.at c.index_mut.result.now c.push.new.self c.index_mut.result.now
    c.args.id c.requires c.index_mut.ensures.value c.in_ok-push.ensures

pub returns-clause-few : goal.returns-clause-few
returns-clause-few c = length-set c.args.lists.now.items c.args.at c.push.new.self
