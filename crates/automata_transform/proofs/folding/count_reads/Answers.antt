use Rattle.std.proofs.Common.{◌<◌, length, sym, subst}
use Rattle.automata_transform.proofs.Nfas.Mirrors.Copies.{in_slice}
use Rattle.automata_transform.proofs.folding.count_reads.Goals as goal

pub bounds-states-as_usize : goal.bounds-states-as_usize
bounds-states-as_usize c =
    subst (λ v. v < length c.args.states.now) (sym c.as_usize.ensures.value)
    (c.requires c.id-item.result
    (in_slice c.args.ids.now c.loop-id.id-index c.id-item.result c.loop-id-test.true c.id-item.is))
