use Rattle.std.proofs.Common.{◌≡◌, ◌∙◌, ap, sym, subst}
use Rattle.std.specs.List.{each_same}
use Rattle.std.specs.Map.{lookup}
use Rattle.std.proofs.lemmas.Map.Entries.{entries_from_clone}
use Rattle.automata_hybrid.proofs.Words.{powerset_eq, Rows}
use Rattle.automata_hybrid.specs.Private.Cache.Table.{IsHeld}
use Rattle.automata_hybrid.proofs.Storage.Rows.{IsHeld-map}
use Rattle.automata_hybrid.proofs.cache.table.TableClone.clone.Goals as goal

-- the rows and the cells are the same
same :
    (c : goal.After-again)
    → ◌≡◌ {A = Rows}
    (record { of = c.again.result.value; cells = c.in_ok-cells.cells.items; rows = c.in_ok-rows.rows.items })
    (record { of = c.self.inside.of.value; cells = c.self.inside.cells.items; rows = c.self.inside.rows.items })
same c = λ i. record {
  of = c.again.ensures i;
  cells = each_same c.self.inside.cells.items c.in_ok-cells.cells.items c.in_ok-cells.ensures.cases.0 i;
  rows = each_same c.self.inside.rows.items c.in_ok-rows.rows.items c.in_ok-rows.ensures.cases.0 i;
}

pub invariant_of-result : goal.invariant_of-result
invariant_of-result c =
    let t : Rows =
    record { of = c.self.inside.of.value; cells = c.self.inside.cells.items; rows = c.self.inside.rows.items } in
    let template =
    each_same c.self.inside.template.items c.in_ok-template.template.items c.in_ok-template.ensures.cases.0 in
    let map =
    entries_from_clone _ _ (λ x y h. h) (λ x y h. h) c.self.inside.map.entries c.in_ok-map.map.entries
    c.in_ok-map.ensures.cases in
    let held =
    subst (λ row. IsHeld t c.self.inside.stride row c.self.inside.map c.self.inside.costs) (sym template)
    c.self.invariant in
    subst (λ v. IsHeld v c.self.inside.stride c.in_ok-template.template.items c.in_ok-map.map c.self.inside.costs)
    (sym (same c))
    (IsHeld-map t _ _ c.self.inside.map c.in_ok-map.map _ held (λ p. ap (lookup (powerset_eq p)) map))

pub returns : goal.returns
returns c = record { cases = same c ∙ c.self.view_is }
