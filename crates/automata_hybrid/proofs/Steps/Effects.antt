-- The cell that a computed transition is written in.
use Rattle.std.proofs.Common.{◌≡◌, ℕ, ◌<◌, length, sym, ap, ◌∙◌, subst, arith, length-set}
use Rattle.std.proofs.lemmas.List.{get_or-set_same}
use Rattle.automata_hybrid.proofs.Words.{cell_at, cell_of, Names, Powerset, Rows, Stored, with_next}
use Rattle.automata_hybrid.specs.Private.Cache.Table.{HasCells}
use Rattle.automata_base.proofs.Powersets.ListTests.{some_same}

pub one_id : (t : Rows) (a b : ℕ) (q : Powerset) → Names t a q → Names t b q → a ≡ b
one_id t a b q f g = some_same a b (sym f ∙ g)

-- a transition that was written is cached in the row of its state
pub cached-written :
    (between new : Stored) (from class next : ℕ) (q : Powerset) → new ≡ with_next between from class next
    → Names between.table from q → HasCells new.table → class < new.table.of.stride
    → (now : ℕ) × Names new.table now q × (cell_of new now class ≡ next)
cached-written between new from class next q e n has below =
    let here : Names new.table from q = subst (λ (s : Stored). Names s.table from q) (sym e) n in
    let long : length new.table.cells ≡ length between.table.cells =
    ap (λ (s : Stored). length s.table.cells) e ∙ length-set between.table.cells (cell_at from class) next in (
      from,
      here,
      ap (λ (s : Stored). cell_of s from class) e
          ∙ get_or-set_same between.table.cells (cell_at from class) next 0
          (omega (arith, long, has from class (q, here) below)),
    )
