use Rattle.std.proofs.Common.{ap, ◌∙◌, sym}
use Rattle.automata_base.specs.Retraced.Decoders.{pairs_at, byte_pairs}
use Rattle.automata_base.specs.Nfas.Nodes.{node_of}
use Rattle.automata_base.specs.Retraced.Once.{once_from}
use Rattle.automata_base.specs.Paths.Paths.{all_true}
use Rattle.automata_base.specs.Powersets.Closure.{children_at}
use Rattle.automata_base.proofs.Nfas.Utf8.Adding.{once_append}
use Rattle.automata_base.proofs.nfa.thompson.utf8.add_state.Goals as goal

pub returns-clause-items : goal.returns-clause-items
returns-clause-items c =
    c.add_byte.ensures.items
    ∙ (ap (λ z. once_from z (byte_pairs c.args.classes.now c.args.decoder (node_of c.args.state.now)))
    c.add_free.ensures.items
    ∙ sym (once_append c.args.set.now.items (pairs_at c.args.decoder (children_at (node_of c.args.state.now) all_true))
    (byte_pairs c.args.classes.now c.args.decoder (node_of c.args.state.now))))
