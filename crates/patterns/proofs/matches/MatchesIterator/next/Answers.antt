use Rattle.std.proofs.Common.{None, Some, ap, ◌∙◌, refl, subst}
use Rattle.std.specs.Prelude.{Ok, Err}
use Rattle.regex_automata.specs.Spans.Iteration.{GoesPast}
use Rattle.patterns.specs.Iteration.{rest_of}
use Rattle.patterns.specs.Searches.{IsNextSearch}
use Rattle.patterns.proofs.Items.{fails_next, fewer_left, gives_error, gives_match, gives_none, given, item_search}
use Rattle.patterns.proofs.Items.{some_left}
use Rattle.patterns.proofs.matches.MatchesIterator.next.Goals as goal

pub returns-in-Ok-Some-clause-steps : goal.returns-in-Ok-Some-clause-steps
returns-in-Ok-Some-clause-steps c =
    let s = c.args.self.now in
    let p = s.pattern.now in
    let goes =
    given (GoesPast p.regex (rest_of s.haystack.now s.last) s.last) c.in-Ok-Some.field-0-is
    c.in-Ok-Some.ensures.past in (
      gives_match p s.cache.now c.next_match.new.cache s.haystack.now s.last s.ended
          c.in-Ok-Some.found c.end.result c.if-self.false
          c.in-Ok-Some.field-0-is c.in-Ok-Some.ensures.found goes.0 c.end.ensures.end,
      refl,
      refl,
      refl,
      (goes.0.1, goes.0.2),
      item_search p s.cache.now c.next_match.new.cache s.haystack.now s.last s.ended (Ok (Some c.in-Ok-Some.found))
          c.if-self.false
          (subst (IsNextSearch p s.haystack.now s.last s.cache.now c.next_match.new.cache)
          (c.in-Ok-Some.is ∙ ap Ok c.in-Ok-Some.field-0-is) c.next_match.ensures.searched),
    )

pub returns-in-Ok-Some-clause-goes : goal.returns-in-Ok-Some-clause-goes
returns-in-Ok-Some-clause-goes c =
    let s = c.args.self.now in
    let goes =
    given (GoesPast s.pattern.now.regex (rest_of s.haystack.now s.last) s.last) c.in-Ok-Some.field-0-is
    c.in-Ok-Some.ensures.past in
    record {
      on =
          λ _. (
            tt,
            tt,
            fewer_left s.pattern.now.regex s.haystack.now s.last s.ended c.in-Ok-Some.found c.end.result
                c.if-self.false c.end.ensures.end goes,
          );
      keeps = tt;
      rests = λ _. tt;
    }

pub returns-in-Err-clause-steps : goal.returns-in-Err-clause-steps
returns-in-Err-clause-steps c =
    let s = c.args.self.now in
    let p = s.pattern.now in
    let searched =
    subst (IsNextSearch p s.haystack.now s.last s.cache.now c.next_match.new.cache) c.in-Err.is
    c.next_match.ensures.searched in (
      gives_error p s.cache.now c.next_match.new.cache s.haystack.now s.last s.ended c.in-Err.error
          c.if-self.false
          (fails_next p s.cache.now c.next_match.new.cache s.haystack.now s.last c.in-Err.error searched),
      refl,
      refl,
      refl,
      tt,
      item_search p s.cache.now c.next_match.new.cache s.haystack.now s.last s.ended (Err c.in-Err.error)
          c.if-self.false searched,
    )

pub returns-in-Err-clause-goes : goal.returns-in-Err-clause-goes
returns-in-Err-clause-goes c =
    let s = c.args.self.now in
    record {
      on = λ _. (tt, tt, some_left s.haystack.now s.last s.ended c.if-self.false s.within);
      keeps = tt;
      rests = λ _. tt;
    }

pub returns-in-Ok-None-clause-steps : goal.returns-in-Ok-None-clause-steps
returns-in-Ok-None-clause-steps c =
    let s = c.args.self.now in
    let p = s.pattern.now in (
      gives_none p s.cache.now c.next_match.new.cache s.haystack.now s.last s.ended c.if-self.false
          c.in-Ok-None.field-0-is c.in-Ok-None.ensures.found,
      refl,
      refl,
      refl,
      tt,
      item_search p s.cache.now c.next_match.new.cache s.haystack.now s.last s.ended (Ok None)
          c.if-self.false
          (subst (IsNextSearch p s.haystack.now s.last s.cache.now c.next_match.new.cache)
          (c.in-Ok-None.is ∙ ap Ok c.in-Ok-None.field-0-is) c.next_match.ensures.searched),
    )
