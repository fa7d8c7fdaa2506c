use Rattle.automata_hybrid.proofs.Steps.Ids.{HoldsRow-matched}
use Rattle.automata_hybrid.proofs.dfa.DFA.match_pattern.Goals as goal

pub match_pattern-requires-clause-valid : goal.match_pattern-requires-clause-valid
match_pattern-requires-clause-valid c =
    HoldsRow-matched c.args.cache.now c.args.id c.reveal_invariant_of.ensures.store.small c.requires.row
    c.requires.tagged

pub returns : goal.returns
returns c = c.match_pattern.ensures
