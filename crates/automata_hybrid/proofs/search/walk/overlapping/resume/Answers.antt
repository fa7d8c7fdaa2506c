use Rattle.std.proofs.Common.{ℕ, ◌∙◌, Option, ap, rules}
use Rattle.automata_hybrid.proofs.Words.{given_up_offset, known_of}
use Rattle.automata_hybrid.specs.Private.Searches.PassState.{step_error}
use Rattle.automata_hybrid.specs.declared.cache.handle.Handle.{Handle}
use Rattle.automata_hybrid.specs.declared.search.walk.Held.TheVariants as held
use Rattle.automata_hybrid.proofs.Walks.Parts.{back_refusal, back_resumed, row_resumed, start_resumes}
use Rattle.automata_hybrid.proofs.search.walk.overlapping.resume.Goals as goal

pub returns-then-is_fresh-clause-resumed : goal.returns-then-is_fresh-clause-resumed
returns-then-is_fresh-clause-resumed c =
    start_resumes c.args.way c.args.dfa.now c.args.input.now c.args.walk.now c.args.cache.now c.walk_start.new.cache
    (c.is_fresh.ensures.yes c.if-is_fresh.true) c.walk_start.result c.requires.walk.reported
    c.walk_start.ensures.started

pub returns-in-Row-Some-clause-resumed : goal.returns-in-Row-Some-clause-resumed
returns-in-Row-Some-clause-resumed c = record {
  leads = search rules;
  may = search rules;
  resumed =
      row_resumed c.args.way c.args.dfa.now c.args.input.now c.args.cache.now c.args.walk.now c.args.held.now
      c.in-Row-Some.id (c.is_fresh.ensures.no c.if-is_fresh.false) c.requires.walk.reads.on c.requires.walk.holds
      (c.in-Row-Some.is ∙ ap (λ (h : Option ℕ). held.Row h) (rw c.in-Row-Some.is at c.in-Row-Some.field-0-is));
}

pub returns-in-Ok-clause-resumed : goal.returns-in-Ok-clause-resumed
returns-in-Ok-clause-resumed c = record {
  leads = search rules;
  may = search rules;
  resumed =
      back_resumed c.args.way c.args.dfa.now c.args.input.now c.args.cache.now.store.table c.args.walk.now
      c.args.held.now c.in-State-Some.handle (known_of c.args.cache.now) (known_of c.restore.new.self)
      (c.is_fresh.ensures.no c.if-is_fresh.false) c.requires.walk.reads.on c.requires.walk.holds
      (c.in-State-Some.is
      ∙ ap (λ (h : Option Handle). held.State h) (rw c.in-State-Some.is at c.in-State-Some.field-0-is))
      c.in-Ok.ensures.back.back;
}

pub returns-in-Err-clause-resumed : goal.returns-in-Err-clause-resumed
returns-in-Err-clause-resumed c =
    back_refusal c.args.way c.args.dfa.now c.args.input.now c.args.cache.now.store.table c.args.walk.now
    c.args.held.now c.in-State-Some.handle (known_of c.args.cache.now) (known_of c.restore.new.self)
    (c.is_fresh.ensures.no c.if-is_fresh.false) c.requires.walk.reads.on c.requires.walk.holds
    (c.in-State-Some.is
    ∙ ap (λ (h : Option Handle). held.State h) (rw c.in-State-Some.is at c.in-State-Some.field-0-is))
    c.in-Err.error c.step_error.result c.in-Err.ensures.back
    (c.step_error.ensures
    ∙ ap (step_error c.in-Err.error)
    (c.span_offset.ensures.value ∙ ap (given_up_offset c.args.way c.args.input.now) c.units.ensures))
