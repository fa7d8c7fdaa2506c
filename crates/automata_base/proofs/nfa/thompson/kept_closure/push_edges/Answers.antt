use Rattle.std.proofs.Common.{◌<◌, ◌+◌, ℕ, List, Vec, length, refl, ap, sym, ◌∙◌, subst, arith}
use Rattle.std.specs.declared.alloc.Global.{Global}
use Rattle.automata_base.specs.Nfas.Nodes.{node_of}
use Rattle.automata_base.proofs.Powersets.KeptClosures.{Added, added_some, added_none}
use Rattle.automata_base.proofs.nfa.thompson.kept_closure.push_edges.Goals.{in-Some+in_ok-push_at, in_default}
use Rattle.automata_base.proofs.nfa.thompson.kept_closure.push_edges.Goals as goal

pub loop-u-preserved : goal.loop-u-preserved
loop-u-preserved c =
    let m = node_of c.args.state.now in
    let old = c.args.rows.now.items in
    let few = c.byte_end-u-end.ensures.few in
    let low : c.loop-u.u < 256 = omega (arith, few, c.loop-u-test.true) in
    elim c.match-target.branch [
      | in-Some+in_ok-push_at w ↦ (
          let same = ap (λ (v : Vec (Vec ℕ Global) Global). v.items) w.rows-is in
          record {
            edges = subst (λ (z : List (Vec ℕ Global)). Added m old z (c.loop-u.u + 1)) (sym same)
                (added_some m old c.loop-u.rows.items w.push_at.new.lists.items c.loop-u.u c.loop-u.u w.in-Some.next
                c.target.result
                c.loop-u.invariant.few low refl c.target.ensures w.in-Some.is w.in_ok-push_at.ensures.pushed
                c.loop-u.invariant.edges);
            few =
                ap (λ (z : List (Vec ℕ Global)). length z) same
                ∙ (w.in_ok-push_at.ensures.few ∙ c.loop-u.invariant.few);
          })
      | in_default w ↦ (
          let same = ap (λ (v : Vec (Vec ℕ Global) Global). v.items) w.rows-is in
          record {
            edges = subst (λ (z : List (Vec ℕ Global)). Added m old z (c.loop-u.u + 1)) (sym same)
                (added_none m old c.loop-u.rows.items c.loop-u.u c.loop-u.u c.target.result low refl c.target.ensures
                w.in_default.is c.loop-u.invariant.edges);
            few = ap (λ (z : List (Vec ℕ Global)). length z) same ∙ c.loop-u.invariant.few;
          })
    ]
