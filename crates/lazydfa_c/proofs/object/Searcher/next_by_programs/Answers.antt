use Rattle.std.proofs.Common.{None, Option, Some, rules, subst, ℕ}
use Rattle.automata_base.specs.Answers.Spans.{IsNextItem}
use Rattle.lazydfa_c.specs.Words.{ByPrograms, IsMeantMatch}
use Rattle.lazydfa_c.proofs.object.Searcher.next_by_programs.Goals as goal

pub returns-in-Some-clause-means : goal.returns-in-Some-clause-means
returns-in-Some-clause-means c =
    let input = c.args.input.now in record {
      result = Some c.in-Some.it;
      told = (c.give.ensures.found, c.give.ensures.status);
      meant =
          subst (λ (last : Option ℕ). ByPrograms c.args.self.now.shared (λ utf8 res.
          IsNextItem (IsMeantMatch utf8 res) input input.start last (Some c.in-Some.it))) c.last.ensures
          c.in-Some.ensures.meant;
      iterated = c.give.ensures.iterated;
    }

pub returns-in-None-clause-means : goal.returns-in-None-clause-means
returns-in-None-clause-means c =
    let input = c.args.input.now in record {
      result = None;
      told = c.from.ensures;
      meant =
          subst (λ (last : Option ℕ). ByPrograms c.args.self.now.shared (λ utf8 res.
          IsNextItem (IsMeantMatch utf8 res) input input.start last None)) c.last.ensures c.in-None.ensures.meant;
      iterated = search rules;
    }
