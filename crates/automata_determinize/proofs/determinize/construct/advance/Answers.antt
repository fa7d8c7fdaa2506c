use Rattle.std.proofs.Common.{sym, subst}
use Rattle.automata_base.specs.Powersets.Cuts.{cut_for, targets}
use Rattle.automata_determinize.specs.Powersets.Results.{IsClosureMade}
use Rattle.automata_base.specs.Nfas.Nodes.{nfa_of}
use Rattle.automata_determinize.specs.Powersets.Parts.{powerset_of}
use Rattle.automata_determinize.proofs.Powersets.Made.{closure_made}
use Rattle.automata_determinize.proofs.determinize.construct.advance.Goals as goal

pub returns-clause-made : goal.returns-clause-made
returns-clause-made c =
    let roots =
    targets (nfa_of c.args.nfa.now) c.args.unit (cut_for c.args.kind (nfa_of c.args.nfa.now) c.args.list.now) in
    subst (λ z. IsClosureMade c.args.nfa.now z roots c.args.unit (powerset_of c.fill.new.parts))
    (sym c.fill.ensures.make.patterns)
    (closure_made c.args.nfa.now c.read_list.new.patterns.items roots c.read_list.new.set.items
    c.args.unit c.known_behind-known.result (powerset_of c.fill.new.parts)
    c.known_behind-known.ensures c.read_list.ensures.closure c.fill.ensures.make c.fill.ensures.below
    c.fill.ensures.few)
