use Rattle.std.proofs.Common.{ℕ, ◌<◌, ◌∙◌, ap, length, refl, subst, sym, Option}
use Rattle.automata_hybrid.proofs.Words.{Names, Powerset}
use Rattle.automata_hybrid.specs.Walks.State.{At, Stage}
use Rattle.automata_hybrid.specs.Private.Walks.State.{Holds, IsHeldAt}
use Rattle.automata_hybrid.specs.declared.search.walk.Held.{Held}
use Rattle.automata_hybrid.specs.declared.search.walk.Held.TheVariants as held
use Rattle.automata_hybrid.proofs.search.walk.overlapping.next_pattern.Goals as goal

pub match_pattern-requires-clause-index : goal.match_pattern-requires-clause-index
match_pattern-requires-clause-index c = λ q n.
    let p = c.if-not-has_more.ensures.yes refl in
    let here = c.in-Row-Some.is ∙ ap (λ (h : Option ℕ). held.Row h) (rw c.in-Row-Some.is at c.in-Row-Some.field-0-is) in
    let there : IsHeldAt c.args.cache.now.store.table (At p.0) c.args.held.now =
    subst (λ (s : Stage). IsHeldAt c.args.cache.now.store.table s c.args.held.now) p.1 c.requires.held in
    let named : Names c.args.cache.now.store.table c.in-Row-Some.id p.0 =
    subst (λ (h : Held). Holds c.args.cache.now.store.table h p.0) here there in
    let same = sym (c.snapshot-state.ensures.state p.0 named) ∙ c.snapshot-state.ensures.state q n in
    subst (λ (x : Powerset). c.reported-reported.result < length x.patterns) same
    (subst (λ m. m < length p.0.patterns) (sym c.reported-reported.ensures) p.2)
