use Rattle.std.proofs.lemmas.List.{get_or_read}
use borrow.Author.Count.{below_more}
use Rattle.std.proofs.Common.{ℕ, ap, ◌∙◌, subst, get_or, arith}
use Rattle.automata_base.specs.Powersets.Code.{difference}
use Rattle.automata_base.specs.Powersets.Powerset.{IsId}
use Rattle.automata_base.proofs.Powersets.Code.Groups.{ids-step, ids-end}
use Rattle.automata_base.proofs.nfa.thompson.ids_code.push_ids.Goals as goal

pub loop-id-preserved : goal.loop-id-preserved
loop-id-preserved c = record {
  code =
      rw (
        c.in_ok-push_in_room.ensures.ok,
        c.as_u32-id.ensures.value,
        get_or_read c.args.ids.now _ _ c.loop-id-test.true
            c.id-item.is 0,
      )
      (ids-step _ _ c.args.ids.now _ _ _ c.loop-id-test.true
      (c.difference_of.ensures.value
      ∙ ap (difference c.loop-id.before)
      (c.as_u32-id.ensures.value ∙ get_or_read c.args.ids.now _ _ c.loop-id-test.true c.id-item.is 0))
      c.loop-id.invariant.code);
  ids = λ k d l.
      below_more (λ i. (e : ℕ) → IsId (get_or c.args.ids.now i e)) c.loop-id.id-index
      (λ i j e. c.loop-id.invariant.ids i e j)
      (λ e. subst IsId (c.as_u32-id.ensures.value ∙ get_or_read c.args.ids.now _ _ c.loop-id-test.true c.id-item.is e)
      c.as_u32-id.ensures.bound) k l d;
  left = omega (arith, c.loop-id.invariant.left, c.loop-id-test.true);
  room = omega (arith, c.loop-id.invariant.left, c.loop-id-test.true, c.in_ok-push_in_room.ensures.room);
}

pub returns : goal.returns
returns c = record {
  ok = ids-end _ _ c.args.ids.now _ _ c.loop-id-test.false c.loop-id.invariant.code;
  ids = λ k d l. c.loop-id.invariant.ids k d (omega arith);
}
