use Rattle.std.proofs.Common.{[], ◌∷◌, subst}
use Rattle.automata_determinize.specs.Powersets.Results.{IsClosureMade}
use Rattle.automata_determinize.specs.Powersets.Parts.{powerset_of}
use Rattle.automata_determinize.proofs.Powersets.Made.{closure_made}
use Rattle.automata_determinize.proofs.determinize.construct.start_at.Goals as goal

pub returns-clause-made : goal.returns-clause-made
returns-clause-made c =
    subst (λ ps. IsClosureMade c.args.nfa.now ps (c.args.start ∷ []) c.args.prev (powerset_of c.fill.new.parts))
    c.clear.ensures.items
    (closure_made c.args.nfa.now c.clear.new.self.items (c.args.start ∷ []) c.close.new.set.items
    c.args.prev c.known_behind-known.result (powerset_of c.fill.new.parts)
    c.known_behind-known.ensures c.close.ensures.closure c.fill.ensures.make c.fill.ensures.below c.fill.ensures.few)
