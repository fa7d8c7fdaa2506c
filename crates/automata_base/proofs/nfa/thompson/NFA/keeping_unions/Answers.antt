use Rattle.std.proofs.Common.{◌↔◌, not, ap, subst, sym}
use Rattle.std.specs.Prelude.{IsTrue, IfSome}
use Rattle.std.specs.Cmp.{booleans_Decides}
use Rattle.automata_base.specs.Nfas.Nodes.{Automaton, nfa_of}
use Rattle.automata_base.specs.Paths.Paths.{IsLookAcyclic}
use Rattle.automata_base.proofs.Powersets.KeepingUnions.{asked, consistent_with, kept_with}
use Rattle.automata_base.specs.Nfas.Automata.{automaton_of}
use Rattle.automata_base.specs.Nfas.KeptClosure.{IsKeptClosure}
use Rattle.automata_base.proofs.nfa.thompson.NFA.keeping_unions.Goals.{then-has_look_cycle-keeps_unions}
use Rattle.automata_base.proofs.nfa.thompson.NFA.keeping_unions.Goals.{else-has_look_cycle-keeps_unions+in-Some-1}
use Rattle.automata_base.proofs.nfa.thompson.NFA.keeping_unions.Goals.{else-has_look_cycle-keeps_unions+in-None-1}
use Rattle.automata_base.proofs.nfa.thompson.NFA.keeping_unions.Goals as goal

pub invariant_of-result : goal.invariant_of-result
invariant_of-result c =
    let d = c.self.inside.data.value in
    let v = c.self.inside.keeps_unions in
    let w = not c.is_look_acyclic-has_look_cycle.result in (
      consistent_with d v w c.self.invariant.0,
      elim c.if-has_look_cycle-keeps_unions.branch [
        | then-has_look_cycle-keeps_unions k ↦ (
            subst (λ o. IfSome o (λ kept. IsKeptClosure (automaton_of d w) kept.value)) (sym k.kept_closure-is)
            (subst (λ b. IfSome c.self.inside.kept_closure (λ kept. IsKeptClosure (automaton_of d b) kept.value))
            (sym ((booleans_Decides w v).0 k.if-has_look_cycle-keeps_unions.true)) c.self.invariant.1))
        | else-has_look_cycle-keeps_unions+in-Some-1 k ↦ subst
            (λ o. IfSome o (λ kept. IsKeptClosure (automaton_of d w) kept.value)) (sym k.kept_closure-is) tt
        | else-has_look_cycle-keeps_unions+in-None-1 k ↦ subst
            (λ o. IfSome o (λ kept. IsKeptClosure (automaton_of d w) kept.value)) (sym k.kept_closure-is) tt
      ],
    )

pub returns-clause-same : goal.returns-clause-same
returns-clause-same c = (
  ap (λ (a : Automaton). record a { keeps_unions = not c.is_look_acyclic-has_look_cycle.result }) c.self.view_is,
  asked c.is_look_acyclic-has_look_cycle.result (IsLookAcyclic (nfa_of c.args.self))
      c.is_look_acyclic-has_look_cycle.ensures,
)

pub returns-clause-keeps : goal.returns-clause-keeps
returns-clause-keeps c =
    kept_with c.self.inside.data.value c.self.inside.keeps_unions c.is_look_acyclic-has_look_cycle.result
    (subst (λ a. IsTrue c.is_look_acyclic-has_look_cycle.result ↔ IsLookAcyclic (nfa_of a)) (sym c.self.view_is)
    c.is_look_acyclic-has_look_cycle.ensures)
