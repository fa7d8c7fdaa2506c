use Rattle.std.proofs.Common.{◌≤◌, subst, sym}
use Rattle.automata_hybrid.proofs.Words.{IsCache, Rows, unknown_id}
use Rattle.automata_hybrid.specs.Private.Cache.Leaps.{AreCacheParts}
use Rattle.automata_hybrid.specs.declared.cache.Cache.TheInside.{Inside}
use Rattle.automata_hybrid.proofs.Storage.Leaps.{cache_next, parts_written}
use Rattle.automata_hybrid.proofs.Storage.Sound.{store_of}
use Rattle.automata_hybrid.proofs.cache.Cache.set_next.Goals as goal

pub invariant_of-self-inside : goal.invariant_of-self-inside
invariant_of-self-inside c =
    let i = c.self-inside.inside.0.0 in
    subst (λ (t : Rows). IsCache
    (record { table = t; starts = i.starts.items; clears = i.clears; searched = i.searched }) i.settings)
    (sym c.set_cell.ensures.value)
    (cache_next (record { table = i.table; starts = i.starts.items; clears = i.clears; searched = i.searched })
    i.settings c.args.id c.args.class c.args.next c.self-inside.invariant)

pub invariant_of-self : goal.invariant_of-self
invariant_of-self c =
    let i = c.self-inside.inside.0.0 in
    subst (λ (t : Rows). AreCacheParts
    (record { table = t; starts = i.starts.items; clears = i.clears; searched = i.searched })
    c.self-inside.inside.0.1.0.of c.keep_if.new.self.leaps) (sym c.set_cell.ensures.value)
    (parts_written (record { table = i.table; starts = i.starts.items; clears = i.clears; searched = i.searched })
    c.self-inside.inside.0.1.0.of _ c.keep_if.new.self.leaps c.args.id c.args.class c.args.next c.is_unknown.result
    (λ e. subst (λ k. unknown_id ≤ k) c.cell_in_row-old.ensures.value (c.is_unknown.ensures.size.0 e))
    c.keep_if.ensures.kept c.keep_if.ensures.dropped
    (subst (λ (i : Inside). AreCacheParts i.store i.scratch.of i.leaping.leaps) (sym c.self-inside.view_is)
    c.self.invariant))

pub returns-clause-store : goal.returns-clause-store
returns-clause-store c = store_of _ _ (invariant_of-self-inside c) c.set_cell.ensures.sound

pub returns-clause-table : goal.returns-clause-table
returns-clause-table c = c.set_cell.ensures.sound
