use Rattle.std.proofs.Common.{sym, refl, ◌∙◌}
use Rattle.automata_base.proofs.Nfas.Reach.Cycles.{no_look_acyclic}
use Rattle.automata_base.proofs.nfa.thompson.cycles.are_looks_acyclic.Goals as goal

pub returns-then-is_empty : goal.returns-then-is_empty
returns-then-is_empty c = (
  (λ yes. no_look_acyclic c.args.states.now c.args.looks c.requires.looks
      (sym c.is_empty.ensures ∙ c.if-is_empty.true)),
  (λ acyclic. refl),
)
