use Rattle.std.proofs.Common.{◌∙◌}
use Rattle.automata_transform.proofs.Nfas.Standing.{node_found}
use Rattle.automata_transform.proofs.standing.is_old_or_reads.Goals as goal

pub returns-then-at-states : goal.returns-then-at-states
returns-then-at-states c = λ t _.
    let w = c.reads.ensures t in (
      w.0,
      node_found c.args.merged.now c.states-states.result.now c.as_usize-at.result c.args.id c.index-states-at.result
          c.states-states.ensures.same c.as_usize-at.ensures.value c.if-at-states.true c.index-states-at.is ∙ w.1,
    )
