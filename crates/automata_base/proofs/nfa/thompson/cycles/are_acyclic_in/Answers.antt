use Rattle.std.proofs.Common.{sym, subst}
use Rattle.automata_base.specs.Lists.{In}
use Rattle.automata_base.proofs.Powersets.Distinct.{In-get_or}
use Rattle.automata_base.proofs.Nfas.Reach.Cycles.{none_tried, one_tried, one_back, all_tried}
use Rattle.automata_base.proofs.nfa.thompson.cycles.are_acyclic_in.Goals as goal

pub loop-q-init : goal.loop-q-init
loop-q-init c = record {
  tried = none_tried c.args.states.now c.args.order.now c.args.set.now.items c.requires.empty;
  capacity = c.requires.capacity;
}

pub reaches_look-requires-clause-within : goal.reaches_look-requires-clause-within
reaches_look-requires-clause-within c =
    c.requires.order.below c.q-item.result
    (subst (λ z. In z c.args.order.now) (sym c.q-item.is)
    (In-get_or c.args.order.now c.loop-q.q-index c.q-item.result c.loop-q-test.true))

pub reaches_look-requires-clause-walked : goal.reaches_look-requires-clause-walked
reaches_look-requires-clause-walked c = c.loop-q.invariant.tried.closed

pub returns-then-reaches_look : goal.returns-then-reaches_look
returns-then-reaches_look c =
    one_back c.args.states.now c.args.order.now c.loop-q.q-index c.q-item.result c.loop-q.set.items
    c.reaches_look.new.set.items
    c.reaches_look.result c.loop-q-test.true c.q-item.is c.requires.order c.loop-q.invariant.tried
    c.reaches_look.ensures.found c.reaches_look.ensures.reached c.if-reaches_look.true

pub loop-q-preserved : goal.loop-q-preserved
loop-q-preserved c = record {
  tried =
      one_tried c.args.states.now c.args.order.now c.loop-q.q-index c.q-item.result c.loop-q.set.items
      c.reaches_look.new.set.items
      c.reaches_look.result c.loop-q-test.true c.q-item.is c.requires.order c.loop-q.invariant.tried
      c.reaches_look.ensures.found c.reaches_look.ensures.reached c.if-reaches_look.false;
  capacity = c.reaches_look.ensures.capacity;
}

pub returns : goal.returns
returns c =
    all_tried c.args.states.now c.args.order.now c.loop-q.q-index c.loop-q.set.items c.loop-q-test.false
    c.requires.order
    c.loop-q.invariant.tried
