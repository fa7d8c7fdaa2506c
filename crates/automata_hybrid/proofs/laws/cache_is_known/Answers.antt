use Rattle.automata_hybrid.proofs.Known.Bounds.{cache_is_known}
use Rattle.automata_hybrid.proofs.Known.Rows.{distinct_states, places_of}
use Rattle.automata_hybrid.proofs.Known.Stores.{ids_are_known}
use Rattle.automata_hybrid.proofs.laws.cache_is_known.Goals as goal

pub returns-clause-known : goal.returns-clause-known
returns-clause-known c = cache_is_known c.args.dfa.now c.args.cache.now c.reveal_invariant_of.ensures.store

pub returns-clause-ids : goal.returns-clause-ids
returns-clause-ids c = ids_are_known c.args.dfa.now c.args.cache.now c.requires

pub returns-clause-distinct : goal.returns-clause-distinct
returns-clause-distinct c =
    let table = c.reveal_invariant_of.ensures.table in
    let template = table.template in
    distinct_states c.args.cache.now.store.table
    (places_of c.args.cache.now.store.table template.positive template.small template.whole table.rows)
