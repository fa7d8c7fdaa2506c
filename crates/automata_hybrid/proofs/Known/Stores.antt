-- The IDs of a cache's rows are IDs of what it knows.
use Rattle.std.proofs.Common.{ℕ, ◌∙◌, ◌*◌, inl, inr, sym, ap, arith}
use Rattle.automata_hybrid.proofs.Words.{CacheView, find_id, HoldsRow, IsCacheOf, known_of, Machine}
use Rattle.automata_hybrid.specs.Known.Effects.{KnowsId, KnowsFixed, KnowsRow}

pub ids_are_known :
    (m : Machine) (c : CacheView) → IsCacheOf c m → (id : ℕ) → HoldsRow c id → KnowsId m (known_of c) id
ids_are_known m c of id (inl dies) = KnowsFixed (omega (arith, dies))
ids_are_known m c of id (inr (inl quits)) = KnowsFixed (omega (arith, quits))
ids_are_known m c of id (inr (inr (q, named))) =
    KnowsRow q (ap (λ (d : Machine). find_id d.stride (3 * d.stride) q c.store.table.rows) (sym of) ∙ named)
