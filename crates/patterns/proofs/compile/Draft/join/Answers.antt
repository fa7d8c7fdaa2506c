use Rattle.std.proofs.Common.{◌≡◌, ◌∙◌, ◌+◌, [], ◌∷◌, ap, ap₂, arith, length}
use Rattle.automata_base.specs.Nfas.Engines.{any_byte}
use Rattle.automata_base.specs.Nfas.Nfa.{Split}
use Rattle.patterns.proofs.Drafting.{joined_nodes}
use Rattle.patterns.proofs.compile.Draft.join.Goals as goal

pub returns-clause-nodes : goal.returns-clause-nodes
returns-clause-nodes c =
    let u : c.in_ok-union.union ≡ length c.args.self.now.states.items =
    omega (arith, c.in_ok-union.ensures.id, c.len.ensures) in
    let n : c.in_ok-next.next ≡ length c.args.self.now.states.items + 1 =
    omega (arith, c.in_ok-next.ensures.id, c.len-2.ensures) in
    let s : c.in_ok-skip.skip ≡ length c.args.self.now.states.items + 2 =
    omega (arith, c.in_ok-skip.ensures.id, c.len-3.ensures) in
    joined_nodes _ _ _ _ _ _ _ _ _ _ c.in_ok-push.ensures.items c.in_ok-push-2.ensures.items
    c.in_ok-push-3.ensures.items
    (ap Split (c.in_ok-alternates.ensures.items ∙ c.as_slice.ensures.value)) (ap₂ (λ v w. Split (v ∷ w ∷ [])) u s)
    (ap any_byte n)
