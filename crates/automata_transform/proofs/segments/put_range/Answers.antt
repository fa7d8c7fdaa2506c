use Rattle.std.proofs.Common.{◌<◌, ◌+◌, sym, subst, arith, ◌∙◌}
use Rattle.automata_base.specs.Retraced.ReversedEdges.{lists_of}
use Rattle.automata_transform.proofs.Nfas.Folds.Tree.{Putting, put_begin, put_step, put_done}
use Rattle.automata_base.proofs.Nfas.Mirrors.Lists.{lists_length}
use Rattle.automata_transform.proofs.segments.put_range.Goals as goal

pub loop-left-init : goal.loop-left-init
loop-left-init c =
    let lists = lists_of c.args.lists.now.items in
    let low : c.args.hi < 256 = omega arith in
    record {
      putting =
          subst (λ v. Putting lists lists c.args.lo c.args.hi c.args.next (v + 256) (c.from.result + 256 + 1))
          (sym c.from-left.ensures)
          (subst (λ v. Putting lists lists c.args.lo c.args.hi c.args.next (c.args.lo + 256) (v + 256 + 1))
          (sym c.from.ensures)
          (put_begin lists c.args.lo c.args.hi c.args.next low));
      few = c.requires;
    }

pub loop-left-preserved : goal.loop-left-preserved
loop-left-preserved c = record {
  putting =
      put_step (lists_of c.args.lists.now.items) (lists_of c.loop-left.lists.items)
      (lists_of c.put_first.new.lists.items)
      (lists_of c.put_last.new.lists.items) c.args.lo c.args.hi c.args.next c.loop-left.left c.loop-left.end
      c.in_ok-first.first
      c.in_ok-last.last c.loop-left-test.true (lists_length c.loop-left.lists.items ∙ c.loop-left.invariant.few)
      c.in_ok-first.ensures.put c.in_ok-last.ensures.put c.loop-left.invariant.putting;
  few = c.in_ok-last.ensures.few ∙ (c.in_ok-first.ensures.few ∙ c.loop-left.invariant.few);
}

pub returns : goal.returns
returns c = record {
  put = λ u t l.
      put_done (lists_of c.args.lists.now.items) (lists_of c.loop-left.lists.items) c.args.lo c.args.hi c.args.next
      c.loop-left.left
      c.loop-left.end c.loop-left.invariant.putting c.loop-left-test.false u t l;
  few = c.loop-left.invariant.few;
  low = omega arith;
}
