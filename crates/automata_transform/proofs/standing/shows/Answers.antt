use Rattle.std.proofs.Common.{ℕ, List, ap, length, sym, ◌∙◌}
use Rattle.automata_base.specs.Nfas.Nfa.{Split}
use Rattle.automata_base.specs.Nfas.Nodes.{node_of}
use Rattle.automata_base.specs.Retraced.ReversedEdges.{lists_of}
use Rattle.automata_transform.proofs.Nfas.Standing.{shows_union}
use Rattle.automata_transform.proofs.standing.shows.Goals as goal

pub returns-then-stand_for : goal.returns-then-stand_for
returns-then-stand_for c = λ t.
    shows_union c.args.nfa.now c.args.merged.now (lists_of c.args.lists.now) (length c.states-count.result.now)
    (node_of c.args.state.now) c.as_slice-ids.result.now c.args.list.now (ap length c.states-count.ensures.same)
    (ap node_of c.in-Union.is ∙ ap (λ (xs : List ℕ). Split xs) (sym c.as_slice-ids.ensures.value))
    (c.stand_for.ensures c.if-stand_for.true) (c.further_read.ensures t)
