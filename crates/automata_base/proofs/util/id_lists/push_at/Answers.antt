use Rattle.std.proofs.Math.ListN.{length-set}
use Rattle.automata_base.proofs.Nfas.Mirrors.Lists.{lists_push}
use Rattle.automata_base.proofs.util.id_lists.push_at.Goals as goal

pub returns-clause-pushed : goal.returns-clause-pushed
returns-clause-pushed c =
    lists_push c.args.lists.now.items c.args.at c.index_mut.result.now c.push.new.self c.index_mut.result.now c.args.id
    c.requires c.index_mut.ensures.value c.in_ok-push.ensures.items

pub returns-clause-few : goal.returns-clause-few
returns-clause-few c = length-set c.args.lists.now.items c.args.at c.push.new.self
