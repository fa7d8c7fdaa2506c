use Rattle.std.proofs.Common.{◌≡◌, ◌++◌, drop, get_or, ap, refl, sym, subst, ◌∙◌, arith}
use Rattle.std.proofs.lemmas.List.{get_or_default}
use Rattle.automata_base.specs.declared.nfa.thompson.state.State.TheVariants.{Fail}
use Rattle.automata_base.specs.Lists.{In, Distinct}
use Rattle.automata_base.specs.Nfas.Nodes.{node_of, nodes_of}
use Rattle.automata_transform.specs.Retraced.ReversedEdges.{copied, copy_of, copies}
use Rattle.automata_transform.proofs.Nfas.Mirrors.Copies.{in_slice, copies_next, copies_done, after_member, next_member}
use Rattle.automata_transform.proofs.Nfas.Mirrors.Copies.{closed_at}
use Rattle.automata_transform.proofs.copies.take_all.Goals as goal

pub take_copy-copy-requires-clause-inside : goal.take_copy-copy-requires-clause-inside
take_copy-copy-requires-clause-inside c =
    let member : In c.id-item.result c.args.set.now.items =
    subst (λ z. In c.id-item.result z) c.as_slice-members.ensures.items
    (in_slice c.as_slice-members.result.now c.loop-id.id-index c.id-item.result c.loop-id-test.true c.id-item.is) in
    let below = c.as_slice-members.ensures.below c.id-item.result member in
    omega (arith, below, c.requires.whole, c.as_usize.ensures.value, c.loop-id.invariant.same)

pub take_copy-copy-requires-clause-members : goal.take_copy-copy-requires-clause-members
take_copy-copy-requires-clause-members c = λ q i.
    let member : In c.id-item.result c.args.set.now.items =
    subst (λ z. In c.id-item.result z) c.as_slice-members.ensures.items
    (in_slice c.as_slice-members.result.now c.loop-id.id-index c.id-item.result c.loop-id-test.true c.id-item.is) in
    let below = c.as_slice-members.ensures.below c.id-item.result member in
    let at = c.as_usize.ensures.value in
    closed_at c.args.turned.now.items c.loop-id.turned.items c.args.set.now.items c.as_usize.result q
    (omega (arith, below, c.requires.whole, at))
    (c.loop-id.invariant.rest c.as_usize.result
    (subst (λ z. In z (drop c.loop-id.id-index c.as_slice-members.result.now)) (sym at)
    (next_member c.as_slice-members.result.now c.loop-id.id-index c.id-item.result c.loop-id-test.true c.id-item.is)))
    c.requires.closed
    (subst (λ z. In z c.args.set.now.items) (sym at) member) i

pub loop-id-preserved : goal.loop-id-preserved
loop-id-preserved c =
    let f = copy_of c.args.base c.args.set.now.items in
    let members = c.as_slice-members.result.now in
    let old = c.args.turned.now.items in
    let member : In c.id-item.result c.args.set.now.items =
    subst (λ z. In c.id-item.result z) c.as_slice-members.ensures.items
    (in_slice members c.loop-id.id-index c.id-item.result c.loop-id-test.true c.id-item.is) in
    let below = c.as_slice-members.ensures.below c.id-item.result member in
    let at = c.as_usize.ensures.value in
    let distinct : Distinct members =
    subst (λ z. Distinct z) (sym c.as_slice-members.ensures.items) c.as_slice-members.ensures.distinct in
    let still : get_or c.loop-id.turned.items c.as_usize.result Fail ≡ get_or old c.as_usize.result Fail =
    c.loop-id.invariant.rest c.as_usize.result
    (subst (λ z. In z (drop c.loop-id.id-index members)) (sym at)
    (next_member members c.loop-id.id-index c.id-item.result c.loop-id-test.true c.id-item.is)) in
    record {
      copied =
          copies_next f c.args.pattern old members (nodes_of c.loop-id.out.items)
          (nodes_of c.push_state.new.states.items)
          (nodes_of c.args.out.now.items ++ copies f c.args.pattern old members)
          c.loop-id.id-index c.id-item.result c.as_usize.result (get_or old c.as_usize.result Fail)
          (node_of c.take_copy-copy.result) c.loop-id-test.true c.id-item.is
          (omega (arith, below, c.requires.whole, at)) at
          (get_or_default old c.as_usize.result Fail (get_or old c.as_usize.result Fail)
          (omega (arith, below, c.requires.whole, at)))
          (c.take_copy-copy.ensures.copy ∙ ap (copied f c.args.pattern) still) c.in_ok-push_state.ensures.nodes
          c.loop-id.invariant.copied;
      rest = λ q i.
          let other =
          after_member members c.loop-id.id-index c.id-item.result distinct c.loop-id-test.true c.id-item.is q i in
          c.take_copy-copy.ensures.others q (λ e. other.1 (e ∙ at)) ∙ c.loop-id.invariant.rest q other.0;
      same = c.take_copy-copy.ensures.same ∙ c.loop-id.invariant.same;
    }

pub returns : goal.returns
returns c =
    let f = copy_of c.args.base c.args.set.now.items in
    copies_done f c.args.pattern c.args.turned.now.items c.as_slice-members.result.now (nodes_of c.loop-id.out.items)
    (nodes_of c.args.out.now.items ++ copies f c.args.pattern c.args.turned.now.items c.as_slice-members.result.now)
    c.loop-id.id-index c.loop-id-test.false c.loop-id.invariant.copied
    ∙ ap (λ z. nodes_of c.args.out.now.items ++ copies f c.args.pattern c.args.turned.now.items z)
    c.as_slice-members.ensures.items
