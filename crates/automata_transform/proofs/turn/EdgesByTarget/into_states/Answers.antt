use Rattle.std.proofs.Common.{◌≡◌, sym, ◌∙◌}
use Rattle.std.proofs.lemmas.List.{map-id}
use Rattle.std.proofs.lemmas.Iterator.Adapters.{YieldsList-from_vec}
use Rattle.std.proofs.lemmas.Iterator.Consumers.{YieldsList-end}
use Rattle.automata_transform.proofs.Nfas.Mirrors.Lists.{heads_step, made_is}
use Rattle.automata_transform.proofs.turn.EdgesByTarget.into_states.Goals as goal

pub loop-alternates-preserved : goal.loop-alternates-preserved
loop-alternates-preserved c =
    heads_step _ _ _ c.loop-alternates.yielded c.in-Some.alternates c.loop-alternates.states.items c.push.new.self.items
    c.in_ok-head.head
    c.loop-alternates.invariant c.in_ok-head.ensures c.deref.ensures.value c.in_ok-push.ensures.items

pub returns : goal.returns
returns c =
    let given = c.into_iter-alternates-iterator.ensures.into_iter_gives in
    let all =
    YieldsList-end (YieldsList-from_vec c.args.self.lists.items given.0 (given.1 ∙ c.args.self.lists.ok.0))
    c.loop-alternates.yielded _
    c.loop-alternates.yielded_by c.next.result c.next.new.self c.in-None.is c.next.ensures.steps in
    let whole : c.loop-alternates.yielded ≡ c.args.self.lists.items = sym (map-id c.loop-alternates.yielded) ∙ all.0 in
    made_is c.len-first.result c.args.self.lists.len c.args.self.helpers.items c.args.self.lists.items
    c.loop-alternates.yielded
    c.loop-alternates.states.items c.append.new.self.items c.loop-alternates.invariant whole c.len-first.ensures
    c.args.self.lists.ok.0
    c.in_ok-append.ensures.items
