use Rattle.std.proofs.Common.{sym, subst}
use Rattle.automata_determinize.specs.Powersets.Results.{IsStepMade}
use Rattle.automata_determinize.proofs.determinize.scratch.next_key_of.Goals as goal

pub returns-clause-made : goal.returns-clause-made
returns-clause-made c =
    subst (IsStepMade c.args.nfa.now c.args.kind c.args.from.now c.args.unit) (sym c.in_ok-key.ensures.key)
    c.next_into.ensures.made
