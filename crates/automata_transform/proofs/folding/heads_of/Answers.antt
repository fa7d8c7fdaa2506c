use Rattle.std.proofs.Common.{ℕ, ◌≡◌, List, Option, ◌++◌, [], length, arith, refl, ap, sym, subst, ◌∙◌}
use Rattle.automata_base.specs.Lists.{In}
use Rattle.automata_base.specs.Nfas.Nodes.{nodes_of}
use Rattle.automata_transform.specs.Retraced.Folds.{AreTreeHeads}
use Rattle.automata_base.specs.Retraced.ReversedEdges.{lists_of, list_at}
use Rattle.automata_transform.proofs.Nfas.Folds.Heads.{above_any, heads_next, nodes_nil, grows_on, pushed_length}
use Rattle.automata_transform.proofs.Nfas.Folds.Looks.{looks_on, looks_same}
use Rattle.automata_base.proofs.Nfas.Mirrors.Lists.{list_item}
use Rattle.automata_transform.proofs.folding.heads_of.Goals as goal

pub loop-node-init : goal.loop-node-init
loop-node-init c = record {
  heads = λ k l. absurd (omega (arith, l));
  count = ap (λ (z : List (Option ℕ)). length z) c.new-heads.ensures.items;
  looks = looks_same _ _ refl;
  grows = ([], nodes_nil (nodes_of c.args.made.now.items));
  few = c.requires.few;
}

pub head-requires : goal.head-requires
head-requires c = record {
  few = c.loop-node.invariant.few;
  kept = λ t i.
      c.requires.kept c.loop-node.node t
      (subst (λ (z : List ℕ). In t z)
      (c.as_slice-in-loop-node.ensures.value
      ∙ sym (list_item c.args.lists.now c.loop-node.node c.index-lists-node.result (omega (arith, c.requires.nodes))
      c.index-lists-node.is))
      i);
}

pub loop-node-preserved : goal.loop-node-preserved
loop-node-preserved c =
    let made = nodes_of c.loop-node.made.items in
    let new = nodes_of c.head.new.made.items in
    let lists = lists_of c.args.lists.now in
    let is : c.as_slice-in-loop-node.result.now ≡ list_at lists c.loop-node.node =
    c.as_slice-in-loop-node.ensures.value
    ∙ sym (list_item c.args.lists.now c.loop-node.node c.index-lists-node.result (omega (arith, c.requires.nodes))
    c.index-lists-node.is) in
    record {
      heads =
          heads_next c.args.free.now made new c.in_ok-head.ensures.grows.0 lists c.loop-node.heads.items
          c.push_head.new.heads.items
          c.loop-node.node c.head_above-above.result c.in_ok-head.head c.as_slice-in-loop-node.result.now
          c.loop-node.invariant.count is
          c.in_ok-head.ensures.grows.1 c.in_ok-push_head.ensures
          (above_any c.args.free.now made lists c.loop-node.heads.items c.as_slice.result.now c.loop-node.node
          c.head_above-above.result
          c.as_slice.ensures.value c.head_above-above.ensures.root c.head_above-above.ensures.other
          c.loop-node.invariant.heads)
          c.in_ok-head.ensures.stands c.loop-node.invariant.heads;
      count =
          ap (λ (z : List (Option ℕ)). length z) c.in_ok-push_head.ensures
          ∙ pushed_length c.loop-node.heads.items c.in_ok-head.head c.loop-node.node c.loop-node.invariant.count;
      looks =
          looks_on _ c.loop-node.made.items c.head.new.made.items c.loop-node.invariant.looks
          c.in_ok-head.ensures.looks;
      grows = (
        c.loop-node.invariant.grows.0 ++ c.in_ok-head.ensures.grows.0,
        grows_on (nodes_of c.args.made.now.items) made new c.loop-node.invariant.grows.0 c.in_ok-head.ensures.grows.0
            c.loop-node.invariant.grows.1 c.in_ok-head.ensures.grows.1,
      );
      few = c.in_ok-head.ensures.few;
    }

pub returns : goal.returns
returns c =
    let all : c.loop-node.node ≡ 512 = omega arith in
    record {
      stands =
          subst (λ v. AreTreeHeads c.args.free.now (nodes_of c.loop-node.made.items) (lists_of c.args.lists.now)
          c.loop-node.heads.items v) all
          c.loop-node.invariant.heads;
      nodes = c.loop-node.invariant.count ∙ all;
      looks = c.loop-node.invariant.looks;
      grows = c.loop-node.invariant.grows;
      few = c.loop-node.invariant.few;
    }
