use Rattle.std.proofs.Common.{sym, subst}
use Rattle.automata_determinize.specs.Powersets.Results.{IsStartMade}
use Rattle.automata_determinize.proofs.determinize.scratch.start_key.Goals as goal

pub returns-clause-made : goal.returns-clause-made
returns-clause-made c =
    subst (IsStartMade c.args.nfa.now c.args.mode c.args.prev) (sym c.in_ok-key.ensures.key) c.start_into.ensures.made
