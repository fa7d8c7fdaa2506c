use Rattle.std.proofs.Common.{arith, ◌+◌, ◌≤◌, length, ◌*◌, sym, ◌∙◌}
use Rattle.automata_determinize.proofs.Powersets.Code.Reading.{whole, ids_from}
use Rattle.automata_determinize.proofs.determinize.read.ids_in.Goals as goal

pub slice_bounds-result-count : goal.slice_bounds-result-count
slice_bounds-result-count c =
    let w = whole c.args.bytes.now c.requires (sym c.lists_patterns.ensures ∙ c.if-lists_patterns.true) in
    omega (arith, w.room, c.u32_at-count.ensures ∙ w.count)

pub slice_bounds-result-start : goal.slice_bounds-result-start
slice_bounds-result-start c =
    let w = whole c.args.bytes.now c.requires (sym c.lists_patterns.ensures ∙ c.if-lists_patterns.true) in
    let l : 13 + 4 * c.u32_at-count.result ≤ length c.args.bytes.now =
    omega (arith, w.room, c.u32_at-count.ensures ∙ w.count) in
    l

pub returns-then-lists_patterns : goal.returns-then-lists_patterns
returns-then-lists_patterns c =
    ids_from c.args.bytes.now c.u32_at-count.result (sym c.lists_patterns.ensures ∙ c.if-lists_patterns.true)
    c.u32_at-count.ensures
