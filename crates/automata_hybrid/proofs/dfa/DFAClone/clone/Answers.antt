use Rattle.std.proofs.Common.{◌∙◌, ap, sym, subst}
use Rattle.automata_hybrid.proofs.Words.{Automaton, IsMachine}
use Rattle.automata_hybrid.specs.Private.Machines.Fields.{machine_of}
use Rattle.automata_hybrid.proofs.dfa.DFAClone.clone.Goals as goal

pub invariant_of-result : goal.invariant_of-result
invariant_of-result c =
    subst (λ (n : Automaton). IsMachine (machine_of (record c.self.inside { nfa = n }))) (sym c.in_ok-nfa.ensures.cases)
    c.self.invariant

pub returns : goal.returns
returns c =
    record {
      cases = ap (λ (n : Automaton). machine_of (record c.self.inside { nfa = n })) c.in_ok-nfa.ensures.cases
          ∙ c.self.view_is;
    }
