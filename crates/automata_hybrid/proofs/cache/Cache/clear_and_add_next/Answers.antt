use Rattle.std.proofs.Common.{◌≡◌, ◌∙◌, false, Some, ap, refl, rules, sym, subst, None}
use Rattle.automata_hybrid.specs.declared.cache.Cache.TheInside.{Inside}
use Rattle.automata_hybrid.proofs.Words.{CacheView, id_of, IsNewState, known_in, Names, Powerset, Row, Rows, Stored}
use Rattle.automata_hybrid.specs.Known.Known.{cleared_saving}
use Rattle.automata_hybrid.specs.Private.Cache.Changes.{HasSavedRow}
use Rattle.automata_hybrid.specs.Private.Cache.Usage.{IsCleared}
use Rattle.automata_hybrid.proofs.Known.Made.{added_clears, saving_known}
use Rattle.automata_hybrid.proofs.Known.Rooms.{known_with}
use Rattle.automata_hybrid.proofs.Storage.Additions.{new_there}
use Rattle.automata_config.specs.declared.error.StepError.TheVariants as step
use Rattle.automata_hybrid.proofs.Searches.PassState.{false_true, if_err}
use Rattle.automata_hybrid.proofs.cache.Cache.clear_and_add_next.Goals as goal

pub replace-requires-clause-new : goal.replace-requires-clause-new
replace-requires-clause-new c =
    let new : IsNewState c.self.inside.store.table c.args.state =
    subst (λ (v : CacheView). IsNewState v.store.table c.args.state) (sym c.self.view_is) c.requires.new in
    let none =
    subst (λ (i : Inside). id_of i.store.table c.args.state ≡ None) (sym c.self-inside.view_is) new.lacks.0 in
    new_there c.self.inside.store.table c.keep_saved.new.self.table c.args.state
    (c.in_ok-from.ensures.of ∙ c.in_ok-fresh.ensures.cleared.kept.of)
    (c.in_ok-from.ensures.saved.absent c.args.state none
    (c.in_ok-fresh.ensures.cleared.kept.absent c.args.state new.lacks.0))
    new

cleared_now :
    (v now : CacheView) (fresh : Stored) → v ≡ now → IsCleared v.store fresh → IsCleared now.store fresh
cleared_now v now fresh same = subst (λ (u : CacheView). IsCleared u.store fresh) same

pub returns-clause-added : goal.returns-clause-added
returns-clause-added c =
    let now : CacheView = c.args.self.now in
    let r : Row = record { state = c.args.state; started = false } in
    let clear = cleared_now _ now c.in_ok-fresh.fresh c.self.view_is c.in_ok-fresh.ensures.cleared in
    let put : HasSavedRow now.store.table c.args.from c.in_ok-fresh.fresh c.keep_saved.new.self c.in_ok-from.from =
    subst
    (λ (v : CacheView). HasSavedRow v.store.table c.args.from c.in_ok-fresh.fresh c.keep_saved.new.self
    c.in_ok-from.from) c.self.view_is
    (subst
    (λ (i : Inside). HasSavedRow i.store.table c.args.from c.in_ok-fresh.fresh c.keep_saved.new.self c.in_ok-from.from)
    c.self-inside.view_is c.in_ok-from.ensures.saved) in
    let grown = c.in_ok-to.ensures.grown in
    let counted =
    ap (λ (i : Inside). i.scratch.count) c.self-inside.view_is ∙ ap (λ (v : CacheView). v.count) c.self.view_is in
    let saves : (p : Powerset) → Names now.store.table c.args.from p
    → known_in c.keep_saved.new.self ≡ cleared_saving p (known_in now.store) =
    λ p n. put.known ∙ saving_known now.store c.in_ok-fresh.fresh c.args.from p c.requires.sound.table n clear.known in
    record {
      effect =
          λ p n. added_clears now.store.table.of now.store c.keep_saved.new.self c.replace.new.self now.count
          (cleared_saving p (known_in now.store)) r c.requires.full clear.allowed (saves p n) grown.known
          ∙ ap (λ k. Some (known_with c.replace.new.self k)) (sym counted);
      named = grown.row.named;
      saved = λ p n. grown.row.kept c.in_ok-from.from p (put.named p n);
      of = ap (λ (t : Rows). t.of) grown.row.more ∙ c.in_ok-from.ensures.of ∙ clear.kept.of;
      counted = counted;
    }

pub returns-in_err-from-clause-refused : goal.returns-in_err-from-clause-refused
returns-in_err-from-clause-refused c =
    let clear =
    cleared_now _ c.args.self.now c.in_ok-fresh.fresh c.self.view_is c.in_ok-fresh.ensures.cleared in
    if_err c.from_residual-in_err-from.result step.OutOfMemory _ c.from_residual-in_err-from.ensures.1
    (record {
      kept = refl;
      gives_up = (λ never. absurd never, λ must. absurd (false_true (sym clear.allowed ∙ must.1)));
    })

pub returns-in_err-to-clause-refused : goal.returns-in_err-to-clause-refused
returns-in_err-to-clause-refused c =
    let clear =
    cleared_now _ c.args.self.now c.in_ok-fresh.fresh c.self.view_is c.in_ok-fresh.ensures.cleared in
    if_err c.from_residual-in_err-to.result step.OutOfMemory _ c.from_residual-in_err-to.ensures.1
    (record {
      kept = search rules;
      gives_up = (λ never. absurd never, λ must. absurd (false_true (sym clear.allowed ∙ must.1)));
    })
