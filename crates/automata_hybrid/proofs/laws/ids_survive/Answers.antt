use Rattle.std.proofs.Common.{◌≡◌, ◌*◌, List, Some, subst, sym}
use Rattle.automata_hybrid.proofs.Storage.Rows.{find_id-more}
use Rattle.automata_hybrid.proofs.Words.{Row, find_id}
use Rattle.automata_hybrid.specs.Machines.Machine.{Machine}
use Rattle.automata_hybrid.proofs.laws.ids_survive.Goals as goal

pub returns : goal.returns
returns c = λ old new id q of keeps named.
    let s = old.store.table.of.stride in
    subst (λ (m : Machine). find_id m.stride (3 * m.stride) q new.store.table.rows ≡ Some id) (sym of)
    (subst (λ (rows : List Row). find_id s (3 * s) q rows ≡ Some id) (sym keeps.rows)
    (find_id-more s (3 * s) q old.store.table.rows keeps.added id named))
