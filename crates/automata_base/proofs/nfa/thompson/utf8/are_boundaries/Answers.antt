use Rattle.std.proofs.Common.{subst, sym, ◌∙◌}
use Rattle.std.proofs.lemmas.Bool.{false≢true}
use Rattle.automata_base.specs.Retraced.Decoders.{IsBoundary}
use Rattle.automata_base.specs.Lists.{In}
use Rattle.automata_base.proofs.Powersets.Distinct.{In-get_or}
use Rattle.automata_base.proofs.Nfas.Utf8.Product.{each_fails, each_next, each_done}
use Rattle.automata_base.proofs.nfa.thompson.utf8.are_boundaries.Goals as goal

pub is_boundary-requires : goal.is_boundary-requires
is_boundary-requires c =
    c.requires c.id-item.result
    (subst (λ z. In z c.args.ids.now) (sym c.id-item.is)
    (In-get_or c.args.ids.now c.loop-id.id-index c.id-item.result c.loop-id-test.true))

pub returns-then-not-is_boundary : goal.returns-then-not-is_boundary
returns-then-not-is_boundary c =
    each_fails (IsBoundary c.args.states.now) c.args.ids.now c.loop-id.id-index c.id-item.result c.loop-id-test.true
    c.id-item.is
    (λ h. false≢true (sym c.if-not-is_boundary.true ∙ c.is_boundary.ensures.1 h))

pub loop-id-preserved : goal.loop-id-preserved
loop-id-preserved c =
    each_next (IsBoundary c.args.states.now) c.args.ids.now c.loop-id.id-index c.id-item.result c.loop-id-test.true
    c.id-item.is
    (c.is_boundary.ensures.0 c.if-not-is_boundary.false) c.loop-id.invariant

pub returns : goal.returns
returns c =
    each_done (IsBoundary c.args.states.now) c.args.ids.now c.loop-id.id-index c.loop-id-test.false c.loop-id.invariant
