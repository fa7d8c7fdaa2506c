use Rattle.std.proofs.Common.{◌∙◌}
use Rattle.automata_transform.proofs.Nfas.Standing.{node_found}
use Rattle.automata_transform.proofs.standing.is_plain.Goals as goal

pub returns-then-at-states-clause-reads : goal.returns-then-at-states-clause-reads
returns-then-at-states-clause-reads c = λ t.
    let w = c.reads.ensures t in (
      w.0,
      node_found c.args.nfa.now c.states-states.result.now c.as_usize-at.result c.args.id c.index-states-at.result
          c.states-states.ensures.same c.as_usize-at.ensures.value c.if-at-states.true.1 c.index-states-at.is ∙ w.1,
    )
