use Rattle.std.proofs.Common.{[], ◌∷◌, sym, ◌∙◌, true≢false}
use Rattle.automata_base.specs.declared.nfa.thompson.reach.Edges.TheVariants.{Every}
use Rattle.automata_base.specs.Retraced.Reach.{IsReached}
use Rattle.automata_base.proofs.Nfas.Reach.Apart.{apart_never}
use Rattle.automata_base.proofs.Nfas.Reach.Matched.{target_found}
use Rattle.automata_base.proofs.nfa.thompson.skipping.leads_back.Goals as goal

pub returns : goal.returns
returns c =
    target_found (IsReached Every c.args.states.now (c.args.root ∷ []) c.args.target) c.walk.new.set.items c.args.target
    c.contains.result
    c.contains.ensures.had c.contains.ensures.new (c.walk.ensures.reached c.args.target)

pub returns-then-are_apart : goal.returns-then-are_apart
returns-then-are_apart c = (
  (λ yes. absurd (true≢false (sym yes))),
  λ reached. absurd
      (apart_never c.args.states.now c.args.target c.args.through c.args.root (c.are_apart.ensures c.if-are_apart.true)
      (sym c.is_either.ensures ∙ c.if-not-is_either.true) reached),
)
