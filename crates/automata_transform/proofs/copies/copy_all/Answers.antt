use Rattle.std.proofs.Common.{◌≡◌, ◌<◌, ◌++◌, length, get_or, ap, sym, subst, ◌∙◌, arith}
use Rattle.automata_base.specs.declared.nfa.thompson.reach.Edges.TheVariants.{Every}
use Rattle.automata_base.specs.Lists.{In}
use Rattle.automata_base.specs.Nfas.Nodes.{node_of, nodes_of}
use Rattle.automata_base.specs.Retraced.Reach.{node_in, targets_at}
use Rattle.automata_transform.specs.Retraced.ReversedEdges.{copy_of, copies}
use Rattle.automata_base.proofs.Powersets.Walking.{node_at}
use Rattle.automata_transform.proofs.Nfas.Mirrors.Copies.{in_slice, copies_next, copies_done}
use Rattle.automata_transform.proofs.copies.copy_all.Goals as goal

pub bounds-turned-as_usize : goal.bounds-turned-as_usize
bounds-turned-as_usize c =
    let member : In c.id-item.result c.args.set.now.items =
    subst (λ z. In c.id-item.result z) c.as_slice-members.ensures.items
    (in_slice c.as_slice-members.result.now c.loop-id.id-index c.id-item.result c.loop-id-test.true c.id-item.is) in
    let below = c.as_slice-members.ensures.below c.id-item.result member in
    omega (arith, below, c.requires.whole, c.as_usize.ensures.value)

pub copy_state-requires-clause-members : goal.copy_state-requires-clause-members
copy_state-requires-clause-members c = λ q i.
    let member : In c.id-item.result c.args.set.now.items =
    subst (λ z. In c.id-item.result z) c.as_slice-members.ensures.items
    (in_slice c.as_slice-members.result.now c.loop-id.id-index c.id-item.result c.loop-id-test.true c.id-item.is) in
    let below = c.as_slice-members.ensures.below c.id-item.result member in
    let inside : c.id-item.result < length c.args.turned.now = omega (arith, below, c.requires.whole) in
    let here : node_in c.args.turned.now c.id-item.result ≡ node_of c.index-turned-as_usize.result =
    node_at c.args.turned.now c.id-item.result c.index-turned-as_usize.result c.index-turned-as_usize.result inside
    (c.index-turned-as_usize.is
    ∙ ap (λ z. get_or c.args.turned.now z c.index-turned-as_usize.result) c.as_usize.ensures.value) in
    c.requires.closed c.id-item.result q member (subst (λ z. In q (targets_at Every z)) (sym here) i)

pub loop-id-preserved : goal.loop-id-preserved
loop-id-preserved c =
    let member : In c.id-item.result c.args.set.now.items =
    subst (λ z. In c.id-item.result z) c.as_slice-members.ensures.items
    (in_slice c.as_slice-members.result.now c.loop-id.id-index c.id-item.result c.loop-id-test.true c.id-item.is) in
    let below = c.as_slice-members.ensures.below c.id-item.result member in
    copies_next (copy_of c.args.base c.args.set.now.items) c.args.pattern c.args.turned.now
    c.as_slice-members.result.now
    (nodes_of c.loop-id.out.items) (nodes_of c.push_state.new.states.items)
    (nodes_of c.args.out.now.items
    ++ copies (copy_of c.args.base c.args.set.now.items) c.args.pattern c.args.turned.now c.as_slice-members.result.now)
    c.loop-id.id-index c.id-item.result c.as_usize.result c.index-turned-as_usize.result (node_of c.in_ok-copy.copy)
    c.loop-id-test.true c.id-item.is (omega (arith, below, c.requires.whole, c.as_usize.ensures.value))
    c.as_usize.ensures.value
    c.index-turned-as_usize.is c.in_ok-copy.ensures c.in_ok-push_state.ensures.nodes c.loop-id.invariant

pub returns : goal.returns
returns c =
    copies_done (copy_of c.args.base c.args.set.now.items) c.args.pattern c.args.turned.now
    c.as_slice-members.result.now
    (nodes_of c.loop-id.out.items)
    (nodes_of c.args.out.now.items
    ++ copies (copy_of c.args.base c.args.set.now.items) c.args.pattern c.args.turned.now c.as_slice-members.result.now)
    c.loop-id.id-index c.loop-id-test.false c.loop-id.invariant
    ∙ ap (λ z. nodes_of c.args.out.now.items
    ++ copies (copy_of c.args.base c.args.set.now.items) c.args.pattern c.args.turned.now z)
    c.as_slice-members.ensures.items
