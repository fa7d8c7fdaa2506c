use Rattle.std.proofs.Common.{length, ap, arith}
use Rattle.automata_transform.proofs.Nfas.Standing.{merged_of, ok_of}
use Rattle.automata_transform.proofs.standing.is_merged.Goals as goal

pub returns : goal.returns
returns c =
    let same = c.if-states-lists.false in
    let new = ap length c.states.ensures.same in
    let old = ap length c.states-2.ensures.same in
    ok_of _ _ _ c.are_further.result (λ b further t.
    merged_of c.args.nfa.now c.args.merged.now c.args.lists.now c.requires.terminator c.requires.reverse
    (omega (arith, same, new, old)) (c.in_ok-are_old.ensures c.if-not-branch.false) (further t))
    c.are_further.ensures
