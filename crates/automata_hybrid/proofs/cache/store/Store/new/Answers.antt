use Rattle.std.proofs.Common.{◌≡◌, ◌+◌, ◌*◌, replicate, ◌^◌, ◌<◌, ◌≤◌, subst, arith}
use Rattle.std.proofs.lemmas.Grind.{common_steps}
use Rattle.automata_hybrid.proofs.Words.{IsCache, Machine, minimum_capacity, Settings}
use Rattle.automata_hybrid.specs.Cache.Stores.{fresh_store}
use Rattle.automata_hybrid.proofs.Storage.Usage.{IsCache-fresh}
use Rattle.automata_hybrid.proofs.cache.store.Store.new.Goals as goal

pub invariant_of-result : goal.invariant_of-result
invariant_of-result c =
    let starts : c.resize.new.self.items ≡ replicate c.args.slots (2 ^ 31) = grind (arith, common_steps) in
    let m : Machine = c.args.dfa.now in
    let bounded : m.capacity < 2 ^ 64 =
    subst (λ (s : Settings). s.capacity < 2 ^ 64) c.requires.settings (omega arith) in
    let given : minimum_capacity m.stride m.slots m.greatest c.args.settings.fixed ≤ c.args.settings.capacity =
    rw (← c.requires.stride, ← c.requires.slots) c.requires.enough in
    let enough : minimum_capacity m.stride m.slots m.greatest m.fixed ≤ m.capacity =
    subst (λ (s : Settings). minimum_capacity m.stride m.slots m.greatest s.fixed ≤ s.capacity) c.requires.settings
    given in
    let offsets : (m.slots + 4) * m.stride < 2 ^ 27 = rw (← c.requires.stride, ← c.requires.slots) c.requires.offsets in
    let fresh : IsCache (fresh_store m) c.args.settings =
    IsCache-fresh m c.args.settings c.requires.settings enough offsets bounded in
    rw (starts, c.in_ok-table.ensures.empty, c.requires.slots) fresh
