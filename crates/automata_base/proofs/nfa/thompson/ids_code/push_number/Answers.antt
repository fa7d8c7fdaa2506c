use Rattle.std.proofs.Common.{ap, sym, ◌∙◌, arith, rules, List, [], ◌++◌, ℕ}
use Rattle.automata_base.proofs.Powersets.Code.Groups.{pushed-step, varint-last}
use Rattle.automata_base.proofs.nfa.thompson.ids_code.push_number.Goals as goal

pub loop-rest-preserved : goal.loop-rest-preserved
loop-rest-preserved c = record {
  bound = omega (arith, c.loop-rest.invariant.bound);
  reported =
      rw c.in_ok-push.ensures.items
      (pushed-step _ _ [] _ _ c.loop-rest.invariant.bound c.loop-rest-test.true (search rules)
      c.loop-rest.invariant.reported);
}

pub returns : goal.returns
returns c = record {
  ok =
      rw c.in_ok-push-2.ensures.items
      (ap (λ (x : List ℕ). c.loop-rest.out.items ++ x) (sym (varint-last c.loop-rest.rest c.loop-rest-test.false))
      ∙ c.loop-rest.invariant.reported);
}
