use Rattle.std.proofs.Common.{◌≡◌, All, sym, subst, rules}
use Rattle.std.proofs.lemmas.List.Elements.{All-from_recursion}
use Rattle.automata_hybrid.specs.Cache.States.{IsHeldState, held_states}
use Rattle.automata_hybrid.specs.declared.cache.Cache.TheInside.{Inside}
use Rattle.automata_hybrid.proofs.Words.{CacheView, RowsFitCells}
use Rattle.automata_hybrid.proofs.Storage.Places.{Names-own}
use Rattle.automata_hybrid.proofs.Storage.States.{all_held}
use Rattle.automata_hybrid.proofs.cache.Cache.states.Goals as goal

pub returns-clause-held : goal.returns-clause-held
returns-clause-held c =
    let store = c.args.self.now.store in
    let same : c.states.result ≡ held_states c.args.self.now.store.table = search rules in
    let rows : RowsFitCells store.table =
    subst (λ (v : CacheView). RowsFitCells v.store.table) c.self.view_is
    (subst (λ (i : Inside). RowsFitCells i.store.table) c.self-inside.view_is c.states.ensures.rows) in
    subst (All (IsHeldState store)) (sym same)
    (All-from_recursion (IsHeldState store) (held_states store.table)
    (all_held store rows (λ id q named. (Names-own store.table id q rows named).own)))
