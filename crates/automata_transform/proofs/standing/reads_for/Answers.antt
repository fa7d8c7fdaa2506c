use Rattle.std.proofs.Common.{ap, sym, length, subst}
use Rattle.automata_base.specs.Nfas.Nodes.{node_of, nfa_of}
use Rattle.automata_base.specs.Nfas.KeptClosure.{AreRows}
use Rattle.automata_base.specs.Retraced.ReversedEdges.{lists_of}
use Rattle.automata_transform.proofs.Nfas.Standing.{reads_all, reads_each}
use Rattle.automata_transform.proofs.standing.reads_for.Goals as goal

pub rows_of-requires-clause-below : goal.rows_of-requires-clause-below
rows_of-requires-clause-below c = c.are_plain.ensures.below c.if-not-are_plain.false

pub returns : goal.returns
returns c = λ t ranges reads.
    reads_all c.args.nfa.now c.args.lists.now c.as_slice.result.now (length c.states.result.now)
    (node_of c.args.state.now)
    c.args.list.now ranges (ap length c.states.ensures.same) (c.are_plain.ensures.plain c.if-not-are_plain.false)
    (c.leads_to_rows.ensures t)
    (subst (λ rows. AreRows (nfa_of c.args.nfa.now) c.args.list.now rows) (sym c.as_slice.ensures.value)
    c.in_ok-rows.ensures) reads

pub leads_for-requires : goal.leads_for-requires
leads_for-requires c = record { below = c.are_plain.ensures.below c.if-not-are_plain.false }

pub returns-then-list-le-SHORT : goal.returns-then-list-le-SHORT
returns-then-list-le-SHORT c = λ t ranges reads.
    reads_each c.args.nfa.now (lists_of c.args.lists.now) (node_of c.args.state.now) c.args.list.now ranges
    (c.are_plain.ensures.plain c.if-not-are_plain.false) (c.leads_for.ensures t) reads
