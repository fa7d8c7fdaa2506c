use Rattle.std.proofs.Common.{◌≡◌, false, replicate}
use Rattle.automata_base.proofs.ByteClasses.PatternsInSets.{empty_counted, members_from-replicate}
use Rattle.automata_base.proofs.util.pattern_set.PatternSet.new.Goals as goal

pub invariant_of-result : goal.invariant_of-result
invariant_of-result c =
    let same : c.in_ok-which.which.items ≡ replicate c.args.capacity false =
    c.in_ok-which.ensures.items_if_clones_equal (λ y e. e)
    in
    rw same (empty_counted c.args.capacity)

pub returns-clause-empty : goal.returns-clause-empty
returns-clause-empty c =
    let same : c.in_ok-which.which.items ≡ replicate c.args.capacity false =
    c.in_ok-which.ensures.items_if_clones_equal (λ y e. e)
    in
    rw same (members_from-replicate c.args.capacity 0)
