use Rattle.std.proofs.Common.{◌<◌, length, sym, ap, ◌∙◌, subst}
use Rattle.automata_base.specs.declared.nfa.thompson.reach.Edges.TheVariants.{Epsilon}
use Rattle.automata_base.specs.Retraced.Reach.{targets_of}
use Rattle.automata_base.proofs.Nfas.Reach.Cycles.{look_here, target_below, none_reached, more_reached, none_found}
use Rattle.automata_base.proofs.Nfas.Reach.Cycles.{one_found, added_walked}
use Rattle.automata_base.proofs.Nfas.Reach.DepthFirst.{read_at}
use Rattle.automata_base.proofs.nfa.thompson.cycles.reaches_look.Goals as goal

pub returns-in_default-clause-found : goal.returns-in_default-clause-found
returns-in_default-clause-found c =
    none_found c.args.states.now c.args.q c.args.set.now.items c.args.set.now.items
    (look_here c.args.states.now c.as_usize.result c.args.q c.index-states-as_usize.result c.requires.within
    c.as_usize.ensures.value c.index-states-as_usize.is
    ∙ sym c.look_target.ensures ∙ c.in_default.is)

pub returns-in_default-clause-reached : goal.returns-in_default-clause-reached
returns-in_default-clause-reached c =
    none_reached c.args.states.now c.args.q c.args.set.now.items
    (look_here c.args.states.now c.as_usize.result c.args.q c.index-states-as_usize.result c.requires.within
    c.as_usize.ensures.value c.index-states-as_usize.is
    ∙ sym c.look_target.ensures ∙ c.in_default.is) c.requires.walked

pub add-requires : goal.add-requires
add-requires c =
    subst (λ z. c.in-Some.next < z) (sym c.requires.capacity)
    (target_below c.args.states.now c.args.q c.index-states-as_usize.result c.requires.within
    (read_at c.args.states.now c.as_usize.result c.args.q c.index-states-as_usize.result c.as_usize.ensures.value
    c.index-states-as_usize.is) c.in-Some.next c.requires.range
    (sym c.look_target.ensures ∙ c.in-Some.is))

pub walk_on-requires-clause-walked : goal.walk_on-requires-clause-walked
walk_on-requires-clause-walked c = λ p r i j.
    added_walked (targets_of Epsilon c.args.states.now) c.args.set.now.items c.add.new.set.items c.in-Some.next
    (length c.as_slice-done.result.now)
    (ap length c.as_slice-done.ensures.items) c.add.ensures.items c.requires.walked p r i j

pub returns-clause-found : goal.returns-clause-found
returns-clause-found c =
    one_found c.args.states.now c.args.q c.args.set.now.items c.in-Some.next c.walk_on.new.set.items c.contains.result
    (look_here c.args.states.now c.as_usize.result c.args.q c.index-states-as_usize.result c.requires.within
    c.as_usize.ensures.value c.index-states-as_usize.is
    ∙ sym c.look_target.ensures ∙ c.in-Some.is) c.contains.ensures.had c.contains.ensures.new

pub returns-clause-reached : goal.returns-clause-reached
returns-clause-reached c =
    more_reached c.args.states.now c.args.q c.args.set.now.items c.in-Some.next c.add.new.set.items
    c.walk_on.new.set.items
    (look_here c.args.states.now c.as_usize.result c.args.q c.index-states-as_usize.result c.requires.within
    c.as_usize.ensures.value c.index-states-as_usize.is
    ∙ sym c.look_target.ensures ∙ c.in-Some.is) c.add.ensures.items c.walk_on.ensures.reached
