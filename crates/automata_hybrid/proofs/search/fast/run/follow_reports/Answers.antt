use Rattle.std.proofs.Common.{◌+◌, ◌-◌, ◌^◌, ◌<◌, refl, sym, arith}
use Rattle.std.proofs.Math.Nat.{lt_of_not-le}
use Rattle.automata_hybrid.proofs.Fast.Mixed.{run_on_at, run_on_match, run_on_none, run_on_quiet}
use Rattle.automata_hybrid.proofs.Searches.PassState.{false_true, some_is}
use Rattle.automata_hybrid.proofs.search.fast.run.follow_reports.Goals as goal
use Rattle.automata_hybrid.proofs.search.fast.run.follow_reports.Goals.{then-has_only, else-has_only}

pub returns-then-not-is_plain-clause-run : goal.returns-then-not-is_plain-clause-run
returns-then-not-is_plain-clause-run g c =
    record {
      more = omega arith;
      within = omega (arith, c.requires.1.1.1.0);
      known = λ k more less. absurd
          (omega (arith, more, less));
    }

pub mixed-init : goal.mixed-init
mixed-init g c =
    let inside = c.requires.1.1.1.0 in
    record { mark = omega (arith, inside); here = run_on_none (omega arith) inside c.requires.1.1.0; within = inside }

pub next_known-next-requires : goal.next_known-next-requires
next_known-next-requires g c = (
  c.requires.0,
  record {
    on = record { trace = c.requires.1.0; named = c.mixed.invariant.here.named };
    undone = omega (arith, c.requires.1.1.1.0);
    within = omega (arith, c.mixed.invariant.within);
    upto = omega (arith, c.min-end.ensures, c.last_place-last.ensures.place);
  },
)

pub mixed-preserved : goal.mixed-preserved
mixed-preserved g c =
    let inside = c.mixed.invariant.within in
    let within : c.mixed.at + 1 < c.args.input.now.end - c.args.input.now.start =
    omega (arith, c.mixed-test.true, c.min-end.ensures, c.last_place-last.ensures.place, c.requires.1.1.1.0) in
    let trace = c.requires.1.0 in
    let peeked = c.next_known-next.ensures.peeked in
    let here = c.mixed.invariant.here in
    elim c.if-has_only.branch [
      | then-has_only w ↦
          rw w.reported-is (rw w.reported_at-is (record {
            mark = omega (arith, inside);
            here =
                run_on_match trace inside peeked here
                (λ e. some_is c.args.from.found (sym c.if-is_none.ensures) (c.requires.1.1.0.nothing e))
                (w.if-has_only.ensures.0 refl);
            within = within;
          }))
      | else-has_only w ↦
          let plain : c.next_known-next.result < 2 ^ 28 = c.if-not-is_plain-2.ensures.0 refl in
          let low : c.next_known-next.result < 2 ^ 27 =
          lt_of_not-le
          (λ high. false_true (w.if-has_only.ensures.1 (record { from = high; below = omega (arith, plain) }))) in
          rw w.reported-is (rw w.reported_at-is (record {
            mark = c.mixed.invariant.mark;
            here = run_on_quiet trace inside peeked here low;
            within = within;
          }))
    ]

pub last_found-requires : goal.last_found-requires
last_found-requires g c =
    record {
      sound = c.requires.0;
      «open» = omega (arith, c.requires.1.1.1.0);
      within = c.mixed.invariant.mark;
      reports = λ low. (let r = c.mixed.invariant.here.some low in ((r.state, r.named), r.tagged));
    }

pub next_known-requires : goal.next_known-requires
next_known-requires g c = (
  c.requires.0,
  record {
    on = record { trace = c.requires.1.0; named = c.mixed.invariant.here.named };
    undone = omega (arith, c.requires.1.1.1.0);
    within = omega (arith, c.mixed.invariant.within);
    upto = omega (arith, c.last_place-last.ensures.place);
  },
)

pub returns-clause-run : goal.returns-clause-run
returns-clause-run g c = c.mixed.invariant.here.run

pub returns-clause-at : goal.returns-clause-at
returns-clause-at g c =
    run_on_at (λ e. some_is c.args.from.found (sym c.if-is_none.ensures) (c.requires.1.1.0.nothing e))
    c.mixed.invariant.here
    c.last_found.ensures.none c.last_found.ensures.some

pub returns-clause-within : goal.returns-clause-within
returns-clause-within g c = c.mixed.invariant.within

pub returns-clause-next : goal.returns-clause-next
returns-clause-next g c =
    c.next_known.ensures.read (omega (arith, c.mixed.invariant.within, c.last_place-last.ensures.place))
