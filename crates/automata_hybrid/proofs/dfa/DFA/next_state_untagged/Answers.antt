use Rattle.std.proofs.Common.{◌∙◌, Some, ap, arith, sym}
use Rattle.automata_hybrid.proofs.Words.{class_in, IsRowId, Machine}
use Rattle.automata_hybrid.proofs.Steps.Ids.{HoldsRow-valid}
use Rattle.automata_hybrid.proofs.Steps.Steps.{cell_row}
use Rattle.automata_hybrid.proofs.dfa.DFA.next_state_untagged.Goals as goal

pub returns-clause-row : goal.returns-clause-row
returns-clause-row c = λ low.
    let valid : IsRowId c.args.cache.now.store.table c.args.id =
    HoldsRow-valid c.args.cache.now c.args.id c.requires.row (omega (arith, c.requires.untagged)) in
    cell_row c.args.cache.now valid.0 c.class_of.result c.cell_in_row.result (Some c.args.byte) (omega arith)
    (ap (λ (d : Machine). class_in d.classes c.args.byte) c.requires.of ∙ sym c.class_of.ensures.value)
    (c.cell_in_row.ensures.named valid.0 valid.1) low
