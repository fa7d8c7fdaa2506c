use Rattle.std.proofs.Common.{ℕ, ◌≡◌, refl, subst, sym}
use Rattle.automata_hybrid.proofs.Words.{CacheView, IsCache, IsStoreOf, Machine, Searched, Settings}
use Rattle.automata_hybrid.proofs.Words.{Stored, with_count, with_searched, with_store}
use Rattle.automata_hybrid.specs.Private.Cache.Sound.{IsSoundCacheOf}
use Rattle.automata_hybrid.specs.Private.Cache.Table.{IsSoundTable}

-- an equal cache is as sound
pub sound_still : {old new : CacheView} {m : Machine} → new ≡ old → IsSoundCacheOf old m → IsSoundCacheOf new m
sound_still {old} {new} {m} same sound = subst (λ (v : CacheView). IsSoundCacheOf v m) (sym same) sound

-- after a change that keeps the DFA, a cache is sound by its own invariant
pub sound_of :
    {old new : CacheView} {m : Machine} → IsSoundCacheOf old m → new.store.table.of ≡ m
    → IsStoreOf new.store new.store.table.of → IsSoundTable new.store.table → IsSoundCacheOf new m
sound_of {old} {new} {m} sound of store table = record {
  of = of;
  machine = sound.machine;
  rising = sound.rising;
  store = subst (λ (n : Machine). IsStoreOf new.store n) of store;
  table = table;
}

-- the store of a cache whose table is sound
pub store_of :
    (c : Stored) (s : Settings) → IsCache c s → IsSoundTable c.table → IsStoreOf c c.table.of
store_of c s held sound = record {
  of = refl;
  rows = sound.rows;
  starts = held.named;
  slots = held.slots;
  within = held.within;
  small = sound.template.small;
  wide = sound.template.whole;
  clears = held.counted;
}

-- counting a determinization keeps a cache sound
pub sound_counted :
    {c : CacheView} {m : Machine} {n : ℕ} → IsSoundCacheOf c m → IsSoundCacheOf (with_count c n) m
sound_counted sound = record {
  of = sound.of;
  machine = sound.machine;
  rising = sound.rising;
  store = sound.store;
  table = sound.table;
}

-- moving the progress of searches keeps a cache sound
pub sound_searched :
    {c : CacheView} {m : Machine} (s : Searched) → IsSoundCacheOf c m
    → IsSoundCacheOf (with_store c (with_searched c.store s)) m
sound_searched {c} {m} s sound = record {
  of = sound.of;
  machine = sound.machine;
  rising = sound.rising;
  store = record {
    of = sound.store.of;
    rows = sound.store.rows;
    starts = sound.store.starts;
    slots = sound.store.slots;
    within = sound.store.within;
    small = sound.store.small;
    wide = sound.store.wide;
    clears = sound.store.clears;
  };
  table = sound.table;
}
