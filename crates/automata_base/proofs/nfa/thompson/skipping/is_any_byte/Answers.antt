use Rattle.std.proofs.Common.{ap, sym, ◌∙◌, true≢false}
use Rattle.automata_base.specs.Nfas.Nodes.{node_of}
use Rattle.automata_base.proofs.Nfas.Reach.Looped.{dense_partial}
use Rattle.automata_base.proofs.nfa.thompson.skipping.is_any_byte.Goals as goal

pub returns-in-Dense : goal.returns-in-Dense
returns-in-Dense c = (
  λ t. absurd (true≢false (sym t)),
  λ e. absurd (dense_partial c.in-Dense.field-0.value c.args.target (sym (ap node_of c.in-Dense.is) ∙ e)),
)
