use Rattle.std.proofs.Common.{◌≡◌, length, get_or, ap, sym, ◌∙◌, subst, arith, add-one, slice_set}
use Rattle.automata_base.specs.Lists.{In}
use Rattle.automata_transform.specs.Retraced.ReversedEdges.{copy_of}
use Rattle.automata_transform.proofs.Nfas.Mirrors.Copies.{replaced, none_replaced, all_replaced, replaced_next}
use Rattle.automata_transform.proofs.Nfas.Mirrors.Copies.{replaced_at}
use Rattle.automata_transform.proofs.copies.renumber.Goals as goal

pub loop-id-init : goal.loop-id-init
loop-id-init c = sym (none_replaced (copy_of c.args.base c.args.set.now.items) c.args.ids.now)

pub copy_id-requires-clause-member : goal.copy_id-requires-clause-member
copy_id-requires-clause-member c =
    c.requires.members _
    (subst (λ z. In (get_or z c.loop-id.id-index c.id-item.result) c.args.ids.now) (sym c.loop-id.invariant)
    (replaced_at (copy_of c.args.base c.args.set.now.items) c.args.ids.now c.loop-id.id-index c.id-item.result
    c.loop-id-test.true))

pub loop-id-preserved : goal.loop-id-preserved
loop-id-preserved c =
    let f = copy_of c.args.base c.args.set.now.items in
    let i = c.loop-id.id-index in
    ap (λ z. slice_set z i c.copy_id.result) c.loop-id.invariant
    ∙ (replaced_next f c.args.ids.now i c.id-item.result c.copy_id.result c.loop-id-test.true
    (c.copy_id.ensures ∙ ap (λ z. f (get_or z i c.id-item.result)) c.loop-id.invariant)
    ∙ ap (λ n. replaced f n c.args.ids.now) (sym (add-one i)))

pub returns : goal.returns
returns c =
    let f = copy_of c.args.base c.args.set.now.items in
    let all : c.loop-id.id-index ≡ length c.args.ids.now =
    omega (arith, c.loop-id-test.false, c.loop-id.auto.id-index-end) in
    c.loop-id.invariant ∙ (ap (λ n. replaced f n c.args.ids.now) all ∙ all_replaced f c.args.ids.now)
