use Rattle.std.proofs.Common.{◌≤◌, length, arith, ap, ◌∙◌}
use Rattle.std.proofs.lemmas.Bool.{le-leb}
use Rattle.automata_base.specs.Nfas.Nodes.{node_of}
use Rattle.automata_transform.specs.Retraced.Folds.{is_large}
use Rattle.automata_transform.proofs.folding.large.Goals as goal

pub returns-else-len-lt-FEWEST-clause-some : goal.returns-else-len-lt-FEWEST-clause-some
returns-else-len-lt-FEWEST-clause-some c =
    let some : 64 ≤ length c.in-Union.alternates.items = omega (arith, c.len.ensures) in (
      (c.in-Union.alternates, c.in-Union.is, c.as_slice.ensures.value),
      ap (λ s. is_large (node_of s)) c.in-Union.is ∙ le-leb 64 (length c.in-Union.alternates.items) some,
    )
