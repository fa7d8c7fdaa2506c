use Rattle.std.proofs.Common.{◌≡◌, ◌<◌, ◌*◌, ◌/◌, [], ◌∷◌, length, ap, ◌∙◌, subst, arith}
use Rattle.automata_base.specs.Retraced.Decoders.{pair, pairs_at, pairs_of, IsBoundary}
use Rattle.automata_base.specs.Lists.{In}
use Rattle.automata_base.specs.Retraced.Once.{once_from}
use Rattle.automata_base.proofs.Nfas.Utf8.Product.{test_reached}
use Rattle.automata_base.proofs.nfa.thompson.utf8.ends_at_boundaries.Goals as goal

pub are_boundaries-requires : goal.are_boundaries-requires
are_boundaries-requires c = λ x i.
    let below : x < c.follow.new.set.capacity =
    c.as_slice.ensures.below x (subst (λ z. In x z) c.as_slice.ensures.items i) in
    let whole : c.follow.new.set.capacity ≡ length c.args.states.now * 11 = c.follow.ensures.capacity in
    let inside : x / 11 < length c.args.states.now = omega arith in
    inside

pub returns : goal.returns
returns c =
    test_reached (pairs_of c.args.classes.now c.args.states.now) (IsBoundary c.args.states.now)
    (pair c.args.anchored 0 ∷ pairs_at 0 c.args.patterns.now) c.add_pairs.new.set.items c.follow.new.set.items
    c.as_slice.result.now c.are_boundaries.result
    (c.add_pairs.ensures.items
    ∙ (ap (λ z. once_from z (pairs_at 0 c.args.patterns.now)) c.add_pair.ensures.items
    ∙ ap (λ z. once_from (once_from z (pair c.args.anchored 0 ∷ [])) (pairs_at 0 c.args.patterns.now))
    c.in_ok-set.ensures.empty))
    c.as_slice.ensures.items c.follow.ensures.reached c.are_boundaries.ensures
