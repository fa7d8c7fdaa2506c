use Rattle.std.proofs.Common.{refl}
use Rattle.meta.proofs.Items.{fewer_after, yields_match, yields_none}
use Rattle.meta.proofs.matches.MatchesIterator.next.Goals as goal

pub returns-in-Some-clause-steps : goal.returns-in-Some-clause-steps
returns-in-Some-clause-steps c =
    let s = c.args.self.now in (
      yields_match s.regex.now s.haystack.now s.last s.ended c.in-Some.found c.end.result c.if-self.false
          c.in-Some.ensures.found c.in-Some.ensures.past c.end.ensures.end,
      refl,
      refl,
      refl,
    )

pub returns-in-Some-clause-goes : goal.returns-in-Some-clause-goes
returns-in-Some-clause-goes c =
    let s = c.args.self.now in
    record {
      on =
          λ _. (
            tt,
            tt,
            fewer_after s.haystack.now s.last s.ended c.in-Some.found c.end.result c.if-self.false
                c.end.ensures.end c.in-Some.ensures.past,
          );
      keeps = tt;
      rests = λ _. tt;
    }

pub returns-in-None-clause-steps : goal.returns-in-None-clause-steps
returns-in-None-clause-steps c =
    let s = c.args.self.now in (
      yields_none s.regex.now s.haystack.now s.last s.ended c.if-self.false c.in-None.ensures.found,
      refl,
      refl,
      refl,
    )
