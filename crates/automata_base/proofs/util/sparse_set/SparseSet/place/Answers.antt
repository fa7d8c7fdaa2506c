use Rattle.std.proofs.Common.{ap, sym, ◌∙◌, get_or, subst, arith}
use Rattle.std.proofs.lemmas.List.{get_or_default}
use Rattle.automata_base.specs.Lists.{In}
use Rattle.automata_base.specs.Powersets.Members.{Members}
use Rattle.automata_base.specs.Retraced.ReversedEdges.{place_in}
use Rattle.automata_base.proofs.Powersets.Sparsely.{at_place, sparse_place}
use Rattle.automata_base.proofs.util.sparse_set.SparseSet.place.Goals as goal

pub index-requires : goal.index-requires
index-requires c =
    let p =
    sparse_place c.self.inside c.self.invariant c.args.id
    (subst (λ (m : Members). In c.args.id m.items) (sym c.self.view_is) c.requires) in
    let k = c.self.inside.sparse.ok.0 in
    omega (arith, p.0, k, c.as_usize.ensures.value)

pub returns-clause-place : goal.returns-clause-place
returns-clause-place c =
    let p =
    sparse_place c.self.inside c.self.invariant c.args.id
    (subst (λ (m : Members). In c.args.id m.items) (sym c.self.view_is) c.requires) in
    c.index.ensures
    ∙ (ap (λ z. get_or c.self.inside.sparse.items z c.index.result.now) c.as_usize.ensures.value
    ∙ (get_or_default c.self.inside.sparse.items c.args.id c.index.result.now 0 p.0
    ∙ (p.1 ∙ ap (λ (m : Members). place_in m.items c.args.id) c.self.view_is)))

pub returns-clause-few : goal.returns-clause-few
returns-clause-few c =
    let p =
    sparse_place c.self.inside c.self.invariant c.args.id
    (subst (λ (m : Members). In c.args.id m.items) (sym c.self.view_is) c.requires) in
    let here = returns-clause-place c in
    let k = (at_place c.args.self.now.items c.args.id c.requires).0 in
    omega (arith, here, k)
