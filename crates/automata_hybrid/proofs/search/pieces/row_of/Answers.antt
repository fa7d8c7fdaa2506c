use Rattle.std.proofs.Common.{◌≡◌, ◌∙◌, rules, subst, sym}
use Rattle.automata_hybrid.proofs.Words.{IsRowId, Names, Rows}
use Rattle.automata_hybrid.proofs.Known.Walks.{row_there}
use Rattle.automata_hybrid.proofs.search.pieces.row_of.Goals as goal

pub returns-then-eq-clause-back : goal.returns-then-eq-clause-back
returns-then-eq-clause-back c =
    let there : IsRowId c.table-table.result.now c.args.row = search rules in
    let same : c.state.result.now ≡ c.args.handle.now.state = search rules in
    let table : c.table-table.result.now ≡ c.args.cache.now.store.table = search rules in
    let named : Names c.args.cache.now.store.table c.args.row c.args.handle.now.state =
    subst (λ (t : Rows). Names t c.args.row c.args.handle.now.state) table
    (subst (Names c.table-table.result.now c.args.row) (sym (c.state.ensures.named there.0 there.1) ∙ same) there.1) in
    record {
      named = named;
      back = row_there c.args.dfa.now c.args.handle.now.state c.args.row c.args.cache.now named;
    }
