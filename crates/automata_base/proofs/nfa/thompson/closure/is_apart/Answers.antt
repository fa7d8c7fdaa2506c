use Rattle.std.proofs.Common.{arith, sym, subst, refl}
use Rattle.automata_base.specs.Lists.{In}
use Rattle.automata_base.proofs.Powersets.Keeping.{below_at}
use Rattle.automata_base.proofs.Powersets.KeptClosures.{tested_next, tested_all}
use Rattle.automata_base.proofs.nfa.thompson.closure.is_apart.Goals as goal

pub contains-requires : goal.contains-requires
contains-requires c =
    let below = below_at c.as_slice-visited.result.now c.args.set.now.capacity c.loop-i.i c.index-visited-i.result
    (λ q i. c.as_slice-visited.ensures.below q (subst (λ z. In q z) c.as_slice-visited.ensures.items i))
    c.loop-i-test.true c.index-visited-i.is in
    omega (arith, below, c.requires)

pub loop-i-init : goal.loop-i-init
loop-i-init c = λ f. f

pub loop-i-preserved : goal.loop-i-preserved
loop-i-preserved c =
    tested_next (λ q. In q c.args.closure.now.items → ⊥) c.as_slice-visited.result.now c.loop-i.i
    c.index-visited-i.result c.loop-i-test.true c.index-visited-i.is
    (c.if-contains.ensures.new refl) c.loop-i.invariant

pub returns : goal.returns
returns c = λ _ q i j.
    tested_all (λ z. In z c.args.closure.now.items → ⊥) c.as_slice-visited.result.now c.loop-i.i c.loop-i-test.false
    c.loop-i.invariant q
    (subst (λ z. In q z) (sym c.as_slice-visited.ensures.items) j) i
