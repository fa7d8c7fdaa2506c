use Rattle.std.proofs.Common.{◌<◌, sym, subst, arith}
use Rattle.automata_base.proofs.Nfas.Utf8.Adding.{entry_below}
use Rattle.automata_base.proofs.nfa.thompson.utf8.add_class.Goals as goal

pub add_pair-requires-clause-decoder : goal.add_pair-requires-clause-decoder
add_pair-requires-clause-decoder c =
    subst (λ z. z < 11) (sym c.from.ensures)
    (entry_below 11 c.args.class.now.to c.args.decoder (omega arith) c.requires.class)
