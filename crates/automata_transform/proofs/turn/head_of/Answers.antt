use Rattle.std.proofs.Common.{[], ◌∷◌, refl, ap}
use Rattle.automata_transform.specs.Retraced.ReversedEdges.{IsUnionOfAll, IsOnlyHelper}
use Rattle.automata_transform.proofs.turn.head_of.Goals as goal

pub returns-in-Some : goal.returns-in-Some
returns-in-Some c =
    let r = c.helper_of.ensures c.in-Some.state c.in-Some.is in
    IsOnlyHelper r.0 (ap (λ z. z ∷ []) r.1) r.2

pub returns : goal.returns
returns c = IsUnionOfAll c.in_ok-alternates.alternates refl c.in_ok-alternates.ensures
