use Rattle.std.proofs.Common.{◌≡◌, ◌∙◌, ◌+◌, ◌*◌, ◌≤◌, ap, refl, arith}
use Rattle.std.proofs.Math.Nat.{one-le-pow}
use Rattle.automata_hybrid.proofs.Fast.Leaps.{row_of_id, row_of_place}
use Rattle.automata_hybrid.proofs.search.fast.leap.leap_from.Goals as goal

pub returns-then-index-leaps-clause-leads : goal.returns-then-index-leaps-clause-leads
returns-then-index-leaps-clause-leads c =
    let begins : c.args.id ≡ (c.row_index-index.result + 3) * c.args.cache.now.store.table.of.stride =
    row_of_id c.args.cache.now.store.table c.args.id c.row_index-index.result c.requires.valid.0
    c.requires.sound.store.rows
    c.requires.valid.1 c.requires.untagged (c.row_index-index.ensures.row c.requires.valid.0 c.requires.valid.1) in
    record {
      row = c.row_index-index.result;
      to = c.row_index-index.result;
      begins = begins;
      ends = begins;
      within = omega arith;
      over = refl;
    }

pub nonzero_div-leapt : goal.nonzero_div-leapt
nonzero_div-leapt c =
    let some : 1 ≤ c.args.leaps.now.shape.classes = omega (arith, c.requires.leaps.of.classes) in
    omega (
      arith,
      c.requires.leaps.of.shape.width,
      one-le-pow c.args.leaps.now.shape.reach
          c.args.leaps.now.shape.classes some,
    )

pub row_at-requires : goal.row_at-requires
row_at-requires c =
    let here = row_of_place c.requires.leaps c.leap-leapt.ensures in
    omega (arith, here, c.leap-leapt.ensures.known, c.requires.leaps.of.rows)

pub returns-clause-leads : goal.returns-clause-leads
returns-clause-leads c =
    let here = row_of_place c.requires.leaps c.leap-leapt.ensures in
    let begins : c.args.id ≡ (c.row_index-index.result + 3) * c.args.cache.now.store.table.of.stride =
    row_of_id c.args.cache.now.store.table c.args.id c.row_index-index.result c.requires.valid.0
    c.requires.sound.store.rows
    c.requires.valid.1 c.requires.untagged (c.row_index-index.ensures.row c.requires.valid.0 c.requires.valid.1) in
    record {
      row = c.row_index-index.result;
      to = c.leap-leapt.ensures.to;
      begins = begins;
      ends = c.row_at.ensures ∙ ap (λ k. (k + 3) * c.args.cache.now.store.table.of.stride) here;
      within = c.leap-leapt.ensures.within;
      over = c.leap-leapt.ensures.over;
    }
