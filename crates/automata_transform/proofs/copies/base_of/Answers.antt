use Rattle.std.proofs.Common.{◌≡◌, length, ap, arith}
use Rattle.automata_transform.proofs.copies.base_of.Goals as goal

pub overflow_sub-members : goal.overflow_sub-members
overflow_sub-members c =
    let e : length c.as_slice-members.result.now ≡ length c.args.set.now.items =
    ap (λ z. length z) c.as_slice-members.ensures.items in
    omega (arith, e, c.as_slice-members.ensures.few, c.requires)
