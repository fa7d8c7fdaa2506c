use Rattle.automata_base.specs.Nfas.Nodes.{nfa_of}
use Rattle.automata_transform.proofs.Nfas.Flattens.Tests.{IsPrefix}
use Rattle.automata_transform.proofs.flattening.alternates_of.Given as goal

abbrev pub invariant-loop : goal.invariant-loop
invariant-loop l = IsPrefix (nfa_of l.nfa) l.links l.fn.alt1 l.fn.alt2 l.first l.last l.all.items
