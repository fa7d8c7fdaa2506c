use Rattle.std.proofs.Common.{Some, sym, subst}
use Rattle.automata_base.specs.Powersets.Cuts.{cut_for, targets}
use Rattle.automata_base.specs.Nfas.Nodes.{nfa_of}
use Rattle.automata_base.specs.Paths.Paths.{IsClosure}
use Rattle.automata_base.specs.Haystacks.LookSets.{truth_of}
use Rattle.automata_base.proofs.Powersets.Endings.{way_closure}
use Rattle.automata_determinize.proofs.determinize.construct.read_list.Goals as goal

pub returns-in-Some-clause-closure : goal.returns-in-Some-clause-closure
returns-in-Some-clause-closure c =
    let n = nfa_of c.args.nfa.now in
    subst (λ z. IsClosure n (truth_of c.args.known) (targets n z (cut_for c.args.kind n c.args.list.now))
    c.read_byte.new.set.items)
    (sym c.in-Some.is)
    (way_closure n (truth_of c.args.known) (targets n (Some c.in-Some.u) (cut_for c.args.kind n c.args.list.now))
    c.clear.new.self.items c.read_byte.new.set.items
    c.clear.ensures.empty c.read_byte.ensures.way)
