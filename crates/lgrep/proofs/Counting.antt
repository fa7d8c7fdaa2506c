-- A cache holds fewer states than the bytes that it accounts for.
use Rattle.std.proofs.Common.{◌≡◌, ℕ, ◌+◌, ◌*◌, ◌≤◌, List, [], ◌∷◌, length, refl, ap, suc, drop, arith}
use Rattle.automata_hybrid.specs.declared.cache.row.Row.{Row}
use Rattle.automata_hybrid.specs.Cache.States.{held_states, states_from}
use Rattle.automata_hybrid.specs.Cache.Table.{Rows}
use Rattle.automata_hybrid.specs.Known.Events.{usage}
use Rattle.automata_hybrid.specs.Known.Known.{Known}
use Rattle.automata_hybrid.specs.Machines.Machine.{Machine}

-- there is one state for each row
counted : (s at : ℕ) (cells : List ℕ) (rows : List Row) → length (states_from s at cells rows) ≡ length rows
counted s at cells [] = refl
counted s at cells (r ∷ rows) = ap suc (counted s (at + s) (drop s cells) rows)

pub states_counted : (t : Rows) → length (held_states t) ≡ length t.rows
states_counted t = counted t.of.stride (3 * t.of.stride) (drop (3 * t.of.stride) t.cells) t.rows

pub states_few : (m : Machine) (c : Known) → length c.rows ≤ usage m c
states_few m c = omega arith
