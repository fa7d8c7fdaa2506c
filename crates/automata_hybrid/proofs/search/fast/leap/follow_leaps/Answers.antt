use Rattle.std.proofs.Common.{arith}
use Rattle.automata_hybrid.proofs.Fast.Leaps.{run_over}
use Rattle.automata_hybrid.proofs.Fast.Runs.{run_at, run_none, run_on, no_tag}
use Rattle.automata_hybrid.proofs.search.fast.leap.follow_leaps.Goals as goal

pub turns-init : goal.turns-init
turns-init g c =
    record {
      within = omega (arith, c.requires.1.1.0.within, c.last_place-last.ensures.place);
      run = run_none
          (record { kind = no_tag; only = c.requires.1.1.1; on = c.requires.1.1.0.on });
      some =
          omega arith;
      most = omega arith;
    }

pub leap_from-far-requires-clause-valid : goal.leap_from-far-requires-clause-valid
leap_from-far-requires-clause-valid g c = (_, c.turns.invariant.run.followed.named)

pub follow-few-requires : goal.follow-few-requires
follow-few-requires g c =
    let far =
    run_over {c = c.args.cache.now.store} c.bytes_from.result.now c.requires.0.machine
    c.requires.0.rising c.requires.0.of c.requires.0.store.rows
    c.leap_from-far.ensures.bytes c.bytes_from.ensures.units
    (run_at no_tag c.requires.1.1.0.on.trace c.turns.invariant.run) c.leap_from-far.ensures.leads in (
      c.requires.0,
      (
        record {
          on = record { trace = c.requires.1.1.0.on.trace; named = far.followed.named };
          undone = c.requires.1.1.0.undone;
          within =
              omega (
                arith,
                c.bytes_from.ensures.long,
                c.leap_from-far.ensures.leads.within,
                c.turns.invariant.within,
                c.last_place-last.ensures.place,
              );
          upto = omega (arith, c.min-end.ensures, c.last_place-last.ensures.place);
        },
        no_tag,
      ),
    )

pub turns-preserved : goal.turns-preserved
turns-preserved g c =
    let far =
    run_over {c = c.args.cache.now.store} c.bytes_from.result.now c.requires.0.machine
    c.requires.0.rising c.requires.0.of c.requires.0.store.rows
    c.leap_from-far.ensures.bytes c.bytes_from.ensures.units
    (run_at no_tag c.requires.1.1.0.on.trace c.turns.invariant.run) c.leap_from-far.ensures.leads in
    record {
      within = omega (arith, c.follow-few.ensures.to.within, c.last_place-last.ensures.place);
      run =
          run_on (run_on c.turns.invariant.run far)
          (record { followed = c.follow-few.ensures.to.followed; only = c.follow-few.ensures.only far.only });
      some = c.wait_after-wait.ensures.some;
      most = c.wait_after-wait.ensures.most;
    }

pub returns-then-few-end-clause-run : goal.returns-then-few-end-clause-run
returns-then-few-end-clause-run g c =
    let far =
    run_over {c = c.args.cache.now.store} c.bytes_from.result.now c.requires.0.machine
    c.requires.0.rising c.requires.0.of c.requires.0.store.rows
    c.leap_from-far.ensures.bytes c.bytes_from.ensures.units
    (run_at no_tag c.requires.1.1.0.on.trace c.turns.invariant.run) c.leap_from-far.ensures.leads in
    run_on (run_on c.turns.invariant.run far)
    (record { followed = c.follow-few.ensures.to.followed; only = c.follow-few.ensures.only far.only })

pub returns-then-few-end-clause-peeked : goal.returns-then-few-end-clause-peeked
returns-then-few-end-clause-peeked g c = c.follow-few.ensures.to.peeked

pub returns-clause-run : goal.returns-clause-run
returns-clause-run g c = c.turns.invariant.run

pub next_known-requires : goal.next_known-requires
next_known-requires g c =
    let within = c.turns.invariant.within in (
      c.requires.0,
      record {
        on = record { trace = c.requires.1.1.0.on.trace; named = c.turns.invariant.run.followed.named };
        undone = c.requires.1.1.0.undone;
        within = omega (arith, within, c.last_place-last.ensures.place);
        upto = omega (arith, c.last_place-last.ensures.place);
      },
    )
