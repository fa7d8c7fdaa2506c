use Rattle.std.proofs.Common.{arith, ap, ◌∙◌, rules, subst, sym}
use Rattle.std.specs.List.{All}
use Rattle.std.proofs.lemmas.List.Elements.{recursion_from_All}
use Rattle.automata_base.specs.Lists.{Distinct}
use Rattle.automata_determinize.specs.Powersets.Code.{decoded}
use Rattle.automata_base.specs.Powersets.Powerset.{IsPowerset, IsId}
use Rattle.automata_determinize.specs.Powersets.Parts.{powerset_of}
use Rattle.automata_determinize.proofs.Powersets.Code.Inverse.{count_fits, IsCode-code, decoded-code}
use Rattle.automata_determinize.proofs.determinize.state.Parts.write_with.Goals as goal

pub push_state-requires-clause-patterns : goal.push_state-requires-clause-patterns
push_state-requires-clause-patterns c =
    omega (
      arith,
      c.deref-3.ensures.len,
      c.deref.ensures.len,
      count_fits _
          (recursion_from_All IsId _ c.see_patterns.ensures)
          (subst Distinct (sym c.deref.ensures.value) c.requires.distinct),
    )

pub returns-clause-bytes : goal.returns-clause-bytes
returns-clause-bytes c =
    rw (c.clear.ensures.items, c.deref-2.ensures.value, c.deref-3.ensures.value) at c.in_ok-push_state.ensures.ok

is_powerset : (c : goal.In_ok-push_state) → IsPowerset (powerset_of c.args.self.now)
is_powerset c = record {
  nfa =
      recursion_from_All IsId c.args.self.now.nfa.items
      (subst (All IsId) c.deref-2.ensures.value c.in_ok-push_state.ensures.ids);
  patterns =
      recursion_from_All IsId c.args.self.now.patterns.items
      (subst (All IsId) c.deref.ensures.value c.see_patterns.ensures);
  distinct = c.requires.distinct;
  known = search rules;
  needed = search rules;
}

pub returns-clause-code : goal.returns-clause-code
returns-clause-code c = IsCode-code (powerset_of c.args.self.now) _ (is_powerset c) (returns-clause-bytes c)

pub returns-clause-state : goal.returns-clause-state
returns-clause-state c =
    ap decoded (returns-clause-bytes c) ∙ decoded-code (powerset_of c.args.self.now) (is_powerset c)
