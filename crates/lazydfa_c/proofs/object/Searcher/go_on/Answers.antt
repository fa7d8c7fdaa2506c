use Rattle.std.proofs.Common.{◌≡◌, ◌<◌, rules, refl, ℕ, Option, Some, None, inl, inr, subst, true}
use Rattle.std.specs.Prelude.{Ok, Err}
use Rattle.automata_base.specs.Answers.Spans.{IsSpan}
use Rattle.regex_automata.specs.Promises.{IsSoundPair, forward_engine}
use Rattle.regex_automata.specs.Spans.Iteration.{IsNextMatch}
use Rattle.regex_automata.specs.Spans.Outcomes.{MatchLiesIn}
use Rattle.regex_automata.specs.Spans.Runs.{IsNextRun}
use Rattle.patterns.specs.Searches.{IsAttempt}
use Rattle.patterns.specs.declared.pattern.Pattern.{Pattern}
use Rattle.lazydfa_c.specs.Calls.{last_of, regex_of}
use Rattle.lazydfa_c.specs.Calls.{FindsNoStart, SearchesNarrowed}
use Rattle.lazydfa_c.proofs.Narrowing.{is_next, narrowed, nowhere}
use Rattle.lazydfa_c.proofs.object.Searcher.go_on.Goals as goal

pub returns-in-Some-find_at_once-clause-found : goal.returns-in-Some-find_at_once-clause-found
returns-in-Some-find_at_once-clause-found c =
    let input = c.in-Some.narrowed in let old = c.args.self.now.cache in let new = c.find_at_once.new.cache in
    let item = c.in-Some-find_at_once.it in let regex = regex_of c.args.self.now in
    let span : IsSoundPair regex → IsSpan (forward_engine regex) input (Some item) =
    subst (λ (v : Pattern). IsSoundPair v.regex → IsSpan (forward_engine v.regex) input (Some item)) c.deref.ensures
    c.in-Some-find_at_once.ensures.span in
    let within =
    subst (λ (v : Pattern). MatchLiesIn v.regex input item × (item.start < item.end)) c.deref.ensures
    c.in-Some-find_at_once.ensures.within in
    SearchesNarrowed c.in-Some.narrowed
    (narrowed c.args.self.now.shared.pattern.value c.args.input.now c.in-Some.narrowed c.narrow.result c.in-Some.is
    c.narrow.ensures) (inl (record {
      item = item;
      told = (c.give.ensures.found, c.give.ensures.status);
      allowed = subst (λ (v : Pattern). v.attempts ≡ true) c.deref.ensures c.in-Some-find_at_once.ensures.allowed;
      span = span;
      next =
          λ sound.
          is_next (forward_engine regex) input (last_of c.args.at.now) item within.1 (span sound);
      within = within.0;
      long = within.1;
      effect = subst (λ (v : Pattern). IsAttempt v input old new) c.deref.ensures c.find_at_once.ensures.attempt;
      same = search rules;
      pieces = search rules;
      iterated = c.give.ensures.iterated;
    }))

pub returns-in-Err-clause-found : goal.returns-in-Err-clause-found
returns-in-Err-clause-found c =
    let input = c.in-Some.narrowed in let old = c.args.self.now.cache in let new = c.next_match.new.cache in
    let between = c.find_at_once.new.cache in
    let e = c.in-Err.error in let regex = regex_of c.args.self.now in
    SearchesNarrowed c.in-Some.narrowed
    (narrowed c.args.self.now.shared.pattern.value c.args.input.now c.in-Some.narrowed c.narrow.result c.in-Some.is
    c.narrow.ensures) (inr (record {
      result = Err e;
      told = c.from-in-Err.ensures;
      next = search rules;
      between = between;
      attempt =
          subst (λ (v : Pattern). IsAttempt v input old between) c.deref.ensures c.find_at_once.ensures.attempt;
      effect =
          subst (λ (l : Option ℕ). IsNextRun regex input l between new (Some e)) c.last.ensures
          (subst (λ (v : Pattern). IsNextRun v.regex input c.last.result between new (Some e)) c.deref-2.ensures
          c.in-Err.ensures.effect);
      same = search rules;
      pieces = search rules;
      iterated = search rules;
    }))

pub returns-in-Ok-Some-clause-found : goal.returns-in-Ok-Some-clause-found
returns-in-Ok-Some-clause-found c =
    let input = c.in-Some.narrowed in let old = c.args.self.now.cache in let new = c.next_match.new.cache in
    let between = c.find_at_once.new.cache in let regex = regex_of c.args.self.now in
    SearchesNarrowed c.in-Some.narrowed
    (narrowed c.args.self.now.shared.pattern.value c.args.input.now c.in-Some.narrowed c.narrow.result c.in-Some.is
    c.narrow.ensures) (inr (record {
      result = Ok (Some c.in-Ok-Some.it);
      told = (c.give-in-Ok-Some.ensures.found, c.give-in-Ok-Some.ensures.status);
      next =
          subst (λ (l : Option ℕ). IsNextMatch regex input l (Some c.in-Ok-Some.it)) c.last.ensures
          (subst (λ (v : Pattern). IsNextMatch v.regex input c.last.result (Some c.in-Ok-Some.it)) c.deref-2.ensures
          (subst (IsNextMatch c.deref-2.result.now.regex input c.last.result) c.in-Ok-Some.field-0-is
          c.in-Ok-Some.ensures.next));
      between = between;
      attempt =
          subst (λ (v : Pattern). IsAttempt v input old between) c.deref.ensures c.find_at_once.ensures.attempt;
      effect =
          subst (λ (l : Option ℕ). IsNextRun regex input l between new None) c.last.ensures
          (subst (λ (v : Pattern). IsNextRun v.regex input c.last.result between new None) c.deref-2.ensures
          c.in-Ok-Some.ensures.effect);
      same = search rules;
      pieces = search rules;
      iterated = c.give-in-Ok-Some.ensures.iterated;
    }))

pub returns-in-Ok-None-clause-found : goal.returns-in-Ok-None-clause-found
returns-in-Ok-None-clause-found c =
    let input = c.in-Some.narrowed in let old = c.args.self.now.cache in let new = c.next_match.new.cache in
    let between = c.find_at_once.new.cache in let regex = regex_of c.args.self.now in
    SearchesNarrowed c.in-Some.narrowed
    (narrowed c.args.self.now.shared.pattern.value c.args.input.now c.in-Some.narrowed c.narrow.result c.in-Some.is
    c.narrow.ensures) (inr (record {
      result = Ok None;
      told = search rules;
      next =
          subst (λ (l : Option ℕ). IsNextMatch regex input l None) c.last.ensures
          (subst (λ (v : Pattern). IsNextMatch v.regex input c.last.result None) c.deref-2.ensures
          (subst (IsNextMatch c.deref-2.result.now.regex input c.last.result) c.in-Ok-None.field-0-is
          c.in-Ok-None.ensures.next));
      between = between;
      attempt =
          subst (λ (v : Pattern). IsAttempt v input old between) c.deref.ensures c.find_at_once.ensures.attempt;
      effect =
          subst (λ (l : Option ℕ). IsNextRun regex input l between new None) c.last.ensures
          (subst (λ (v : Pattern). IsNextRun v.regex input c.last.result between new None) c.deref-2.ensures
          c.in-Ok-None.ensures.effect);
      same = search rules;
      pieces = search rules;
      iterated = search rules;
    }))

pub returns-in_default-clause-found : goal.returns-in_default-clause-found
returns-in_default-clause-found c =
    FindsNoStart (nowhere c.args.self.now.shared.pattern.value c.args.input.now c.narrow.result c.in_default.not-Some
    c.narrow.ensures) refl c.from.ensures refl
