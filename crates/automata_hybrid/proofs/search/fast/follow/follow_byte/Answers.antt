use Rattle.std.proofs.Common.{◌∙◌, ◌<◌, ◌≡◌, Some, ap, subst, sym, arith}
use Rattle.automata_hybrid.proofs.Words.{cell_at, cell_of, class_in, IsCell, IsRowId, Machine, Names, Powerset, Rows}
use Rattle.automata_hybrid.proofs.Words.{slice_index}
use Rattle.automata_hybrid.specs.Private.Searches.PassState.{IsPeekedAlong}
use Rattle.automata_hybrid.proofs.Fast.Runs.{peeked_at, next_cell}
use Rattle.automata_hybrid.proofs.Steps.Steps.{cell_leads, cell_quits}
use Rattle.automata_hybrid.proofs.search.fast.follow.follow_byte.Goals as goal
use Rattle.automata_hybrid.proofs.search.fast.follow.follow_byte.Given.{Over}
use Rattle.automata_hybrid.proofs.search.fast.follow.follow_byte.Goals.{After-cell_in_row}

pub cell_in_row-requires-clause-row : goal.cell_in_row-requires-clause-row
cell_in_row-requires-clause-row g c =
    subst (λ (t : Rows). IsRowId t c.args.id) (sym c.table.ensures) (_, c.requires.1.0.on.named)

pub cell_in_row-requires-clause-class : goal.cell_in_row-requires-clause-class
cell_in_row-requires-clause-class g c =
    subst (λ (t : Rows). c.class_of-class.result < t.of.stride) (sym c.table.ensures)
    (subst (λ (d : Machine). c.class_of-class.result < d.stride) (sym c.requires.0.of) c.class_of-class.ensures.below)

pub cell_in_row-requires-clause-offset : goal.cell_in_row-requires-clause-offset
cell_in_row-requires-clause-offset g c =
    omega (
      arith,
      c.requires.1.1.0,
      c.requires.1.0.kind.upto,
      c.requires.1.0.kind.whole,
      c.requires.1.0.only.from,
      c.requires.1.0.only.below,
    )

peeked :
    (g : Over) (c : After-cell_in_row g)
    → IsPeekedAlong g.trace c.args.way c.args.dfa.now c.args.cache.now.store c.args.input.now c.args.place c.args.id
    c.cell_in_row.result
peeked g c =
    let m : Machine = c.args.dfa.now in
    let value : c.cell_in_row.result ≡ cell_of c.args.cache.now.store c.args.id c.class_of-class.result =
    c.cell_in_row.ensures.value
    ∙ ap (λ (t : Rows). slice_index t.cells (cell_at c.args.id c.class_of-class.result)) c.table.ensures in
    let cell : (q : Powerset) → Names c.args.cache.now.store.table c.args.id q
    → IsCell c.args.cache.now.store.table q c.class_of-class.result c.cell_in_row.result =
    subst (λ (t : Rows). (q : Powerset) → Names t c.args.id q → IsCell t q c.class_of-class.result c.cell_in_row.result)
    c.table.ensures c.cell_in_row.ensures.named in
    peeked_at c.args.way m c.args.cache.now.store c.args.input.now c.args.place c.args.id c.cell_in_row.result
    c.byte_at.result
    c.requires.1.1.1 c.byte_at.ensures
    (value ∙ ap (cell_of c.args.cache.now.store c.args.id) c.class_of-class.ensures.value)
    (subst (λ (d : Machine). class_in m.classes c.byte_at.result < d.stride) (sym c.requires.0.of)
    (subst (λ n. n < m.stride) c.class_of-class.ensures.value c.class_of-class.ensures.below))
    (cell_quits m c.args.id (Some c.byte_at.result) c.args.cache.now c.class_of-class.result c.cell_in_row.result
    c.requires.0.of (_, c.requires.1.0.on.named)
    c.class_of-class.ensures.value c.class_of-class.ensures.small c.class_of-class.ensures.quit
    c.class_of-class.ensures.free value cell)
    (cell_leads m c.args.id (Some c.byte_at.result) c.args.cache.now c.class_of-class.result c.cell_in_row.result
    c.requires.0.of (_, c.requires.1.0.on.named)
    c.class_of-class.ensures.value c.class_of-class.ensures.small c.class_of-class.ensures.quit
    c.class_of-class.ensures.free value cell
    (omega arith))
    c.requires.1.0.on

pub returns-clause-read : goal.returns-clause-read
returns-clause-read g c =
    let value : c.cell_in_row.result ≡ cell_of c.args.cache.now.store c.args.id c.class_of-class.result =
    c.cell_in_row.ensures.value
    ∙ ap (λ (t : Rows). slice_index t.cells (cell_at c.args.id c.class_of-class.result)) c.table.ensures in
    next_cell c.args.way c.args.dfa.now c.args.cache.now.store c.args.input.now c.args.place c.args.id
    c.cell_in_row.result c.byte_at.result
    c.byte_at.ensures (value ∙ ap (cell_of c.args.cache.now.store c.args.id) c.class_of-class.ensures.value)

pub returns-clause-run : goal.returns-clause-run
returns-clause-run g c =
    λ only. (peeked g c (omega (arith, only.below, c.requires.1.0.kind.upto))).run c.args.tag c.requires.1.0.kind only

pub returns-clause-peeked : goal.returns-clause-peeked
returns-clause-peeked g c = peeked g c
