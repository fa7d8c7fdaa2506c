use Rattle.std.proofs.Common.{◌≡◌, ◌≤◌, ◌<◌, ◌+◌, ◌-◌, ◌||◌, eqb, refl, ap, ◌∙◌, arith, take}
use Rattle.std.specs.Prelude.{sum_by}
use Rattle.std.proofs.lemmas.Bool.{le-leb, lt-leb}
use Rattle.std.proofs.lemmas.List.Sums.{sum_by-take-le}
use Rattle.automata_base.specs.Haystacks.Looks.{look_index}
use Rattle.automata_base.specs.Haystacks.LookSets.{truth_of}
use Rattle.automata_base.specs.Nfas.Nfa.{any_node}
use Rattle.automata_base.specs.Nfas.Nodes.{extra_of, nodes_of}
use Rattle.automata_base.specs.Nfas.Errors.{alternates_of}
use Rattle.automata_base.proofs.Paths.LookSets.{truth_of_none}
use Rattle.automata_base.proofs.Powersets.ListTests.{any_done, any_next, extra_is, sum_next, sum_all, room_all}
use Rattle.automata_base.proofs.nfa.thompson.checks.totals_of.Goals as goal

pub loop-i-init : goal.loop-i-init
loop-i-init c = record {
  total = refl;
  room = refl;
  most = omega arith;
  small = omega arith;
  looks =
      λ other. ap (λ z. z || any_node (λ look. eqb (look_index look) (look_index other)) (nodes_of c.args.states.now))
      (ap (λ z. truth_of z other) c.empty-looks.ensures ∙ truth_of_none other);
}

pub loop-i-preserved : goal.loop-i-preserved
loop-i-preserved c =
    let a : sum_by alternates_of (take (c.loop-i.i + 1) c.args.states.now)
    ≡ sum_by alternates_of (take c.loop-i.i c.args.states.now) + alternates_of c.index-states-i.result =
    sum_next alternates_of c.args.states.now c.loop-i.i c.index-states-i.result c.loop-i-test.true
    c.index-states-i.is in
    let b : sum_by extra_of (take (c.loop-i.i + 1) c.args.states.now)
    ≡ sum_by extra_of (take c.loop-i.i c.args.states.now) + extra_of c.index-states-i.result =
    sum_next extra_of c.args.states.now c.loop-i.i c.index-states-i.result c.loop-i-test.true c.index-states-i.is in
    let e : extra_of c.index-states-i.result ≡ alternates_of c.index-states-i.result - 1 =
    extra_is c.index-states-i.result in
    let n : c.count_alternates-more.result ≡ alternates_of c.index-states-i.result =
    c.count_alternates-more.ensures.count in
    let o : c.saturating_sub-room.result ≡ c.count_alternates-more.result - 1 = c.saturating_sub-room.ensures in
    let t : c.count_alternates-more.result ≤ 2147483648 - c.loop-i.total = c.if-more-total.false in
    let p : c.loop-i.total ≡ sum_by alternates_of (take c.loop-i.i c.args.states.now) = c.loop-i.invariant.total in
    let q : c.loop-i.room ≡ 1 + sum_by extra_of (take c.loop-i.i c.args.states.now) = c.loop-i.invariant.room in
    let r : c.loop-i.total ≤ 2147483648 = c.loop-i.invariant.most in
    let s : c.loop-i.room ≤ 1 + c.loop-i.total = c.loop-i.invariant.small in
    record {
      total = omega arith;
      room = omega arith;
      most = omega arith;
      small = omega arith;
      looks = λ other.
          any_next (λ look. eqb (look_index look) (look_index other)) c.args.states.now c.loop-i.i
          c.index-states-i-in-loop-i.result
          (truth_of c.loop-i.looks other) (truth_of c.add_look-looks.result other)
          (any_node (λ look. eqb (look_index look) (look_index other)) (nodes_of c.args.states.now))
          c.loop-i-test.true c.index-states-i-in-loop-i.is (c.add_look-looks.ensures other)
          (c.loop-i.invariant.looks other);
    }

pub returns-clause-totals : goal.returns-clause-totals
returns-clause-totals c = record {
  room = room_all c.args.states.now c.loop-i.i c.loop-i.room c.loop-i-test.false c.loop-i.invariant.room;
  looks = λ other.
      any_done (λ look. eqb (look_index look) (look_index other)) c.args.states.now c.loop-i.i
      (truth_of c.loop-i.looks other) c.loop-i-test.false
      (c.loop-i.invariant.looks other);
}

pub returns-clause-few : goal.returns-clause-few
returns-clause-few c =
    let all : sum_by alternates_of (take c.loop-i.i c.args.states.now) ≡ sum_by alternates_of c.args.states.now =
    sum_all alternates_of c.args.states.now c.loop-i.i c.loop-i-test.false in
    let p : c.loop-i.total ≡ sum_by alternates_of (take c.loop-i.i c.args.states.now) = c.loop-i.invariant.total in
    let r : c.loop-i.total ≤ 2147483648 = c.loop-i.invariant.most in
    le-leb (sum_by alternates_of c.args.states.now) 2147483648 (omega arith)

pub returns-then-more-total-clause-none : goal.returns-then-more-total-clause-none
returns-then-more-total-clause-none c = λ e.
    let a : sum_by alternates_of (take (c.loop-i.i + 1) c.args.states.now)
    ≡ sum_by alternates_of (take c.loop-i.i c.args.states.now) + alternates_of c.index-states-i.result =
    sum_next alternates_of c.args.states.now c.loop-i.i c.index-states-i.result c.loop-i-test.true
    c.index-states-i.is in
    let part : sum_by alternates_of (take (c.loop-i.i + 1) c.args.states.now) ≤ sum_by alternates_of c.args.states.now =
    sum_by-take-le alternates_of c.args.states.now (c.loop-i.i + 1) in
    let n : c.count_alternates-more.result ≡ alternates_of c.index-states-i.result =
    c.count_alternates-more.ensures.count in
    let t : 2147483648 - c.loop-i.total < c.count_alternates-more.result = c.if-more-total.true in
    let p : c.loop-i.total ≡ sum_by alternates_of (take c.loop-i.i c.args.states.now) = c.loop-i.invariant.total in
    let r : c.loop-i.total ≤ 2147483648 = c.loop-i.invariant.most in
    lt-leb (sum_by alternates_of c.args.states.now) 2147483648 (omega arith)
