use Rattle.std.proofs.Common.{None, ◌≡◌, ◌≤◌, take, length}
use Rattle.std.specs.Prelude.{map}
use Rattle.automata_hybrid.proofs.Words.{AllStarts, id_of, Powerset, rows_of_starts, start_named}
use Rattle.automata_hybrid.specs.Private.Cache.Clears.{IsUnwritten}
use Rattle.automata_hybrid.specs.Private.Cache.Table.{IsSoundTable}
use Rattle.automata_hybrid.proofs.cache.clears.keep_starts.Given as goal

abbrev pub invariant-loop-id : goal.invariant-loop-id
invariant-loop-id l = record {
  rows : l.table.rows ≡ rows_of_starts l.old.rows (map (start_named l.old) (take l.id-index l.starts));
  slots : map (start_named l.table) l.slots.items ≡ map (start_named l.old) (take l.id-index l.starts);
  unwritten : IsUnwritten l.table;
  few : length l.table.rows ≤ l.id-index;
  length : length l.slots.items ≡ l.id-index;
  named : AllStarts l.table l.slots.items;
  absent : (q : Powerset) → id_of l.old q ≡ None → id_of l.table q ≡ None;
  of : l.table.of ≡ l.old.of;
  sound : IsSoundTable l.table;
}
