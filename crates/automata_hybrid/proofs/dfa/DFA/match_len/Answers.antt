use Rattle.std.proofs.Common.{◌<◌, subst, sym}
use Rattle.automata_hybrid.proofs.Steps.Ids.{HoldsRow-matched}
use Rattle.automata_hybrid.proofs.dfa.DFA.match_len.Goals as goal

pub match_len-requires : goal.match_len-requires
match_len-requires c =
    HoldsRow-matched c.args.cache.now c.args.id c.reveal_invariant_of.ensures.store.small c.requires.row
    c.requires.tagged

pub returns-clause-number : goal.returns-clause-number
returns-clause-number c = c.match_len.ensures

pub returns-clause-some : goal.returns-clause-some
returns-clause-some c =
    let row =
    HoldsRow-matched c.args.cache.now c.args.id c.reveal_invariant_of.ensures.store.small c.requires.row
    c.requires.tagged in
    subst (λ n. 0 < n) (sym (c.match_len.ensures row.0 row.1))
    ((c.reveal_invariant_of.ensures.table.tagged c.args.id row.0 row.1).0 c.requires.tagged)
