use Rattle.std.proofs.Common.{◌∙◌, subst, sym}
use Rattle.std.proofs.lemmas.Option.{none-some}
use Rattle.lazydfa_c.specs.Calls.{OfInput}
use Rattle.lazydfa_c.specs.Words.{FindsNextOf}
use Rattle.lazydfa_c.proofs.object.Searcher.next.Goals as goal

pub returns-in-Some-clause-found : goal.returns-in-Some-clause-found
returns-in-Some-clause-found c = record {
  searches =
      λ goes.
      subst (λ i. OfInput (FindsNextOf c.next_of.new.found c.args.at.now c.next_of.new.at) i c.args.self.now
      c.next_of.new.self c.next_of.result) (sym c.in-Some.is ∙ c.input.ensures) c.next_of.ensures.found;
  over = λ ended. absurd (ended c.if-at-ne0.false);
  same = λ goes none. absurd (none-some c.in-Some.input (sym none ∙ (sym c.input.ensures ∙ c.in-Some.is)));
}
