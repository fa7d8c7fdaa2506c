use Rattle.std.proofs.Common.{◌≡◌, false, map, subst, sym}
use Rattle.automata_hybrid.specs.Searches.Passes.{Skips}
use Rattle.patterns.specs.Searches.{HaveNeedlesNear}
use Rattle.patterns.proofs.Beginnings.{begins_near}
use Rattle.patterns.proofs.Items.{given}
use Rattle.patterns.proofs.pattern.Pattern.begin_at_needles.Goals as goal

pub invariant_of-self : goal.invariant_of-self
invariant_of-self c = record {
  begins =
      λ near e.
      let n = c.requires in
      begins_near c.args.self.now.regex near
      (λ skips. c.skips.ensures.no c.if-not-skips.true (subst Skips (sym c.forward.ensures) skips))
      c.args.options.now n.0 n.2
      (given (λ _. c.args.options.now.ascii ≡ false) e c.prefilter_of.ensures.ascii)
      (given (HaveNeedlesNear c.args.options.now (map (λ text. text.now) c.args.texts.now)) e
      c.prefilter_of.ensures.needles n.0 n.1);
  first = λ table e. c.args.self.now.first table e;
}
