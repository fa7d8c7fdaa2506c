use Rattle.std.proofs.Common.{◌≡◌, [], ◌∷◌, ◌++◌, ◌^◌, ◌<◌, ◌≤◌, length, cond, Some, arith, None, subst}
use Rattle.std.specs.HashMap.{get}
use Rattle.std.proofs.lemmas.Grind.{common_steps}
use Rattle.automata_hybrid.proofs.Words.{cost, id_of, IsStateOf, Names, Powerset, powerset_eq, Row, row_id, Rows}
use Rattle.automata_hybrid.proofs.Storage.Rows.{IsHeld-with_row, IsHeld-map, Names-new, Names-more}
use Rattle.automata_hybrid.specs.Private.Cache.Table.{HasNewRow}
use Rattle.automata_hybrid.proofs.Storage.SoundTables.{sound_table}
use Rattle.automata_hybrid.proofs.cache.table.Table.add.Goals as goal

pub invariant_of-self-in_err-reserve-3 : goal.invariant_of-self-in_err-reserve-3
invariant_of-self-in_err-reserve-3 c =
    let same : (p : Powerset) → get powerset_eq c.reserve-3.new.self p ≡ get powerset_eq c.self.inside.map p =
    λ p. grind (arith, common_steps) in
    rw (c.in_ok-reserve.ensures.items, c.in_ok-reserve-2.ensures.items)
    (IsHeld-map _ _ _ c.self.inside.map _ _ c.self.invariant same)

pub invariant_of-self-in_err-key : goal.invariant_of-self-in_err-key
invariant_of-self-in_err-key c =
    let same : (p : Powerset) → get powerset_eq c.reserve-3.new.self p ≡ get powerset_eq c.self.inside.map p =
    λ p. grind (arith, common_steps, c.in_ok-reserve-3.ensures.entries.2 p) in
    rw (c.in_ok-reserve.ensures.items, c.in_ok-reserve-2.ensures.items)
    (IsHeld-map _ _ _ c.self.inside.map _ _ c.self.invariant same)

pub invariant_of-self-2 : goal.invariant_of-self-2
invariant_of-self-2 c =
    let q = c.args.state in
    let r : Row = record { state = c.args.state; started = c.args.started } in
    let cells : c.extend_from_slice-grown.new.self.items ≡ c.self.inside.cells.items
    ++ c.self.inside.of.value.template = grind (arith, common_steps, c.self.invariant.template) in
    let rows : c.push-pushed.new.self.items ≡ c.self.inside.rows.items ++ r ∷ [] = grind (arith, common_steps) in
    let absent : id_of
    (record { of = c.self.inside.of.value; cells = c.self.inside.cells.items; rows = c.self.inside.rows.items }) q
    ≡ None = rw (← c.self.view_is) at c.requires.new.lacks.0 in
    let fits : length c.self.inside.cells.items < 2 ^ 27 = rw (← c.self.view_is) at c.requires.fits in
    let map : (p : Powerset)
    → get powerset_eq c.insert-inserted.new.self p
    ≡ cond (powerset_eq q p) (Some (row_id (length c.self.inside.cells.items) r))
    (get powerset_eq c.self.inside.map p) =
    λ p. grind (arith, common_steps, c.in_ok-reserve-3.ensures.entries.2 p) in
    let cheap : cost q ≤ c.self.inside.of.value.greatest = rw (← c.self.view_is) at c.requires.new.cheap in
    let of : IsStateOf c.self.inside.of.value q = rw (← c.self.view_is) at c.requires.new.own in
    rw (cells, rows, c.requires.bytes)
    (IsHeld-with_row _ r _ _ c.self.inside.map c.insert-inserted.new.self c.self.inside.costs c.self.invariant absent
    c.requires.new.lacks.1 cheap of fits map)

pub returns-clause-added : goal.returns-clause-added
returns-clause-added c =
    let q = c.args.state in
    let r : Row = record { state = c.args.state; started = c.args.started } in
    let old : Rows =
    record { of = c.self.inside.of.value; cells = c.self.inside.cells.items; rows = c.self.inside.rows.items } in
    let new : Rows =
    record {
      of = c.self.inside.of.value;
      cells = c.extend_from_slice-grown.new.self.items;
      rows = c.push-pushed.new.self.items;
    } in
    let cells : c.extend_from_slice-grown.new.self.items ≡ c.self.inside.cells.items
    ++ c.self.inside.of.value.template = grind (arith, common_steps, c.self.invariant.template) in
    let rows : c.push-pushed.new.self.items ≡ c.self.inside.rows.items ++ r ∷ [] = grind (arith, common_steps) in
    let absent : id_of old q ≡ None = rw (← c.self.view_is) at c.requires.new.lacks.0 in
    let id : c.of_row-id.result ≡ row_id (length c.self.inside.cells.items) r = grind (arith, common_steps) in
    let named : Names new c.of_row-id.result q = rw (rows, id) (Names-new old r c.self.invariant.rows.whole absent) in
    subst (λ (t : Rows). HasNewRow t r new c.of_row-id.result) c.self.view_is
    (record {
      more = λ i. record { of = c.self.inside.of.value; cells = cells i; rows = rows i };
      named = named;
      kept = λ n p there. rw rows (Names-more old r n p there);
    })

pub returns-clause-sound : goal.returns-clause-sound
returns-clause-sound c = sound_table _ (invariant_of-self-2 c).rows (invariant_of-self-2 c).cells
