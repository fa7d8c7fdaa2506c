-- A cache belongs to its DFA whatever the progress of its searches.
use Rattle.automata_hybrid.proofs.Words.{IsStoreOf, Machine, Searched, Stored, with_searched}

-- a cache still belongs to its DFA when the progress of searches changes
pub searched_sound : (m : Machine) (c : Stored) (s : Searched) → IsStoreOf c m → IsStoreOf (with_searched c s) m
searched_sound m c s sound = record {
  of = sound.of;
  rows = sound.rows;
  starts = sound.starts;
  slots = sound.slots;
  within = sound.within;
  small = sound.small;
  wide = sound.wide;
  clears = sound.clears;
}
