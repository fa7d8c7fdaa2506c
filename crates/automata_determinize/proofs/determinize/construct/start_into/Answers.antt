use Rattle.std.proofs.Common.{sym, ◌∙◌}
use Rattle.automata_determinize.specs.Powersets.Parts.{powerset_of}
use Rattle.automata_determinize.proofs.Powersets.Made.{start_dead, start_made}
use Rattle.automata_determinize.proofs.determinize.construct.start_into.Goals as goal

pub returns-in-Some-clause-made : goal.returns-in-Some-clause-made
returns-in-Some-clause-made c =
    start_made c.args.nfa.now c.args.mode c.args.prev c.in-Some.q (powerset_of c.start_at.new.parts)
    c.requires.checked (sym c.in-Some.is ∙ c.start.ensures.same) (c.start.ensures.below c.in-Some.q c.in-Some.is)
    c.start_at.ensures.made

pub returns-in-None-clause-made : goal.returns-in-None-clause-made
returns-in-None-clause-made c =
    start_dead c.args.nfa.now c.args.mode c.args.prev c.clear.new.self.items c.clear-in-None.new.self.items
    c.requires.checked (sym c.in-None.is ∙ c.start.ensures.same) c.clear.ensures.items c.clear-in-None.ensures.items
