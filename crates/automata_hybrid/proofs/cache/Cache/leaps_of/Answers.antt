use Rattle.std.proofs.Common.{◌≡◌, ◌∙◌, ◌≤◌, ap, subst, sym, arith}
use Rattle.automata_hybrid.proofs.Words.{CacheView, eoi_class, Machine}
use Rattle.automata_hybrid.specs.declared.cache.Cache.TheInside.{Inside}
use Rattle.automata_hybrid.proofs.cache.Cache.leaps_of.Goals as goal

pub of_table-requires-clause-stride : goal.of_table-requires-clause-stride
of_table-requires-clause-stride c =
    let of =
    ap (λ (i : Inside). i.store.table.of) c.self-inside.view_is
    ∙ (ap (λ (v : CacheView). v.store.table.of) c.self.view_is ∙ c.requires.sound.of) in
    let same : c.args.shape.classes ≡ eoi_class c.args.dfa.now.classes =
    c.requires.of.classes ∙ ap (λ (m : Machine). eoi_class m.classes) c.requires.sound.of in
    subst (λ (m : Machine). c.args.shape.classes ≤ m.stride) (sym of)
    (omega (arith, same, c.requires.sound.machine.below))
