use Rattle.std.proofs.Common.{◌++◌, length, ap, ◌∙◌, arith}
use Rattle.automata_transform.specs.Retraced.ReversedEdges.{is_of, matches_in}
use Rattle.automata_base.specs.Retraced.ReversedEdges.{list_at, lists_of}
use Rattle.automata_transform.proofs.Nfas.Mirrors.Copies.{matches_done, matches_next}
use Rattle.automata_transform.proofs.Nfas.Mirrors.Lists.{listed_at}
use Rattle.automata_base.proofs.Nfas.Mirrors.Lists.{lists_length, none_at}
use Rattle.automata_base.proofs.Nfas.Reach.Adding.{id_below}
use Rattle.automata_transform.proofs.copies.matches_by_pattern.Goals as goal

pub bounds-states-as_usize : goal.bounds-states-as_usize
bounds-states-as_usize c =
    let below =
    id_below (length c.args.states.now) c.args.ids.now c.loop-id.id-index c.id-item.result c.requires
    c.loop-id-test.true c.id-item.is in
    omega (arith, below, c.as_usize.ensures.value)

pub loop-id-init : goal.loop-id-init
loop-id-init c = record {
  matches = λ p l.
      ap (λ z. list_at z p ++ matches_in c.args.states.now p c.args.ids.now) c.in_ok-lists.ensures.none
      ∙ ap (λ z. z ++ matches_in c.args.states.now p c.args.ids.now) (none_at c.args.patterns p);
  few = c.in_ok-lists.ensures.few;
}

pub loop-id-preserved : goal.loop-id-preserved
loop-id-preserved c = record {
  matches = λ p l.
      let below =
      id_below (length c.args.states.now) c.args.ids.now c.loop-id.id-index c.id-item.result c.requires
      c.loop-id-test.true c.id-item.is in
      let long = lists_length c.loop-id.lists.items in
      let few = c.loop-id.invariant.few in
      matches_next c.args.states.now p c.args.ids.now (list_at (lists_of c.loop-id.lists.items) p)
      (list_at (lists_of c.list_match.new.lists.items) p)
      (matches_in c.args.states.now p c.args.ids.now) c.loop-id.id-index c.id-item.result c.as_usize.result
      c.index-states-as_usize.result (is_of c.pattern_of.result p) c.loop-id-test.true c.id-item.is
      (omega (arith, below, c.as_usize.ensures.value))
      c.as_usize.ensures.value c.index-states-as_usize.is
      (ap (λ z. is_of z p) c.pattern_of.ensures)
      (ap (λ z. list_at z p) c.in_ok-list_match.ensures.listed
      ∙ listed_at (lists_of c.loop-id.lists.items) c.pattern_of.result c.id-item.result p (omega (arith, l, long, few)))
      (c.loop-id.invariant.matches p l);
  few = c.in_ok-list_match.ensures.few ∙ c.loop-id.invariant.few;
}

pub returns-clause-matches : goal.returns-clause-matches
returns-clause-matches c = λ p l.
    matches_done c.args.states.now p c.args.ids.now (list_at (lists_of c.loop-id.lists.items) p)
    (matches_in c.args.states.now p c.args.ids.now) c.loop-id.id-index c.loop-id-test.false
    (c.loop-id.invariant.matches p l)
