use Rattle.std.proofs.Common.{◌≡◌, ap, refl, sym}
use Rattle.std.specs.Prelude.{IfErr}
use Rattle.automata_config.specs.declared.error.SearchError.TheVariants as search
use Rattle.automata_hybrid.proofs.Words.{dead, Leads, Powerset}
use Rattle.automata_hybrid.proofs.Searches.PassState.{false_true}
use Rattle.automata_hybrid.proofs.Searches.Reads.{at_err}
use Rattle.automata_hybrid.proofs.Steps.Ids.{dead_tagged}
use Rattle.automata_hybrid.proofs.Storage.Places.{Names-alive}
use Rattle.automata_hybrid.proofs.search.pieces.walk.end_at.Goals as goal

pub returns-then-is_dead-clause-patterns : goal.returns-then-is_dead-clause-patterns
returns-then-is_dead-clause-patterns c q l =
    let dies =
    (dead_tagged c.args.cache.now.store.table c.args.id (c.requires.sound.table.low c.args.id)
    c.requires.sound.store.small q l).0
    (c.if-is_dead.ensures.0 refl) in
    sym (ap (λ (p : Powerset). p.patterns) dies)

pub returns-in_err-handle-clause-error : goal.returns-in_err-handle-clause-error
returns-in_err-handle-clause-error c =
    at_err c.from_residual.result _
    (λ r. IfErr r (λ e. (e ≡ search.OutOfMemory)
    × ((q : Powerset) → Leads c.args.cache.now.store.table c.args.id q → q ≡ dead → ⊥)))
    c.from_residual.ensures.1 (
      refl,
      λ q l. Names-alive c.args.cache.now.store.table c.args.id q c.requires.sound.table.rows
          ((dead_tagged c.args.cache.now.store.table c.args.id (c.requires.sound.table.low c.args.id)
          c.requires.sound.store.small q l).1
          (λ b. false_true (c.if-is_dead.ensures.1 b))),
    )

pub returns-clause-patterns : goal.returns-clause-patterns
returns-clause-patterns c q l =
    let named =
    (dead_tagged c.args.cache.now.store.table c.args.id (c.requires.sound.table.low c.args.id)
    c.requires.sound.store.small q l).1
    (λ b. false_true (c.if-is_dead.ensures.1 b)) in
    ap (λ (p : Powerset). p.patterns) (c.in_ok-handle.ensures q named).0
