use Rattle.std.proofs.Common.{sym, ◌∙◌, subst, arith}
use Rattle.std.proofs.lemmas.Bool.{eqb-true, eqb-false}
use Rattle.automata_base.specs.Lists.{In}
use Rattle.automata_base.specs.Powersets.Members.{Members}
use Rattle.automata_base.proofs.Powersets.Sparsely.{is_member, is_other, stands}
use Rattle.automata_base.proofs.util.sparse_set.SparseSet.contains.Goals as goal

pub returns-then-i-self-clause-had : goal.returns-then-i-self-clause-had
returns-then-i-self-clause-had c = λ t.
    subst (λ (m : Members). In c.args.id m.items) c.self.view_is
    (is_member c.self.inside c.self.invariant c.args.id c.as_usize.result c.index.result.now
    c.index-then-i-self.result.now
    c.as_usize.ensures.value c.index.ensures c.if-i-self.true c.index-then-i-self.ensures
    (eqb-true c.index-then-i-self.result.now c.args.id (sym c.eq.ensures ∙ t)))

pub returns-then-i-self-clause-new : goal.returns-then-i-self-clause-new
returns-then-i-self-clause-new c = λ f i.
    is_other c.self.inside c.self.invariant c.args.id c.as_usize.result c.index.result.now
    c.index-then-i-self.result.now
    c.as_usize.ensures.value c.index.ensures c.index-then-i-self.ensures
    (eqb-false c.index-then-i-self.result.now c.args.id (sym c.eq.ensures ∙ f))
    (subst (λ (m : Members). In c.args.id m.items) (sym c.self.view_is) i)

pub returns-else-i-self-clause-new : goal.returns-else-i-self-clause-new
returns-else-i-self-clause-new c = λ f i.
    let w = stands c.self.inside c.self.invariant c.args.id c.as_usize.result c.index.result.now 0
    c.as_usize.ensures.value c.index.ensures (subst (λ (m : Members). In c.args.id m.items) (sym c.self.view_is) i) in
    omega (arith, w.0, c.if-i-self.false)
