use Rattle.std.proofs.Common.{◌∙◌, sym, arith}
use Rattle.automata_hybrid.proofs.Searches.PassState.{false_true}
use Rattle.automata_hybrid.proofs.Fast.Runs.{followed_none, run_at, run_none, run_on}
use Rattle.automata_hybrid.proofs.Fast.SelfLoops.{run_loop}
use Rattle.automata_hybrid.proofs.search.fast.follow.follow.Goals as goal

pub returns-then-not-has_only-clause-to : goal.returns-then-not-has_only-clause-to
returns-then-not-has_only-clause-to g c =
    record {
      within = c.requires.1.0.within;
      followed =
          followed_none c.args.way c.args.dfa.now c.args.cache.now.store c.args.input.now c.args.tag c.args.start
          c.args.from c.requires.1.0.on.named;
      peeked = c.next_known.ensures.peeked;
    }

pub returns-then-not-has_only-clause-only : goal.returns-then-not-has_only-clause-only
returns-then-not-has_only-clause-only g c =
    λ only. absurd (false_true (sym c.if-not-has_only.true ∙ c.has_only.ensures.1 only))

pub next_known-requires : goal.next_known-requires
next_known-requires g c = (c.requires.0, c.requires.1.0)

pub follow_rest-requires : goal.follow_rest-requires
follow_rest-requires g c = (
  c.requires.0,
  (c.requires.1.0, (c.requires.1.1, c.has_only.ensures.0 c.if-not-has_only.false)),
)

pub returns-then-end-lt8-clause-to : goal.returns-then-end-lt8-clause-to
returns-then-end-lt8-clause-to g c =
    record {
      within = c.follow_rest.ensures.within;
      followed = c.follow_rest.ensures.run.followed;
      peeked = c.follow_rest.ensures.peeked;
    }

pub returns-then-end-lt8-clause-only : goal.returns-then-end-lt8-clause-only
returns-then-end-lt8-clause-only g c = λ only. c.follow_rest.ensures.run.only

pub eights-init : goal.eights-init
eights-init g c =
    record {
      within = omega (arith, c.requires.1.0.within);
      run =
          run_none
          (record {
            kind = c.requires.1.1;
            only = c.has_only.ensures.0 c.if-not-has_only.false;
            on = c.requires.1.0.on;
          });
    }

pub follow_eight-eight-requires : goal.follow_eight-eight-requires
follow_eight-eight-requires g c = (
  c.requires.0,
  (
    run_at c.requires.1.1 c.requires.1.0.on.trace c.eights.invariant.run,
    (
      omega (arith, c.eights-test.true, c.if-end-lt8.false, c.requires.1.0.upto),
      omega (arith, c.eights-test.true, c.if-end-lt8.false, c.ranges.end.fits),
    ),
  ),
)

pub eights-preserved-then-at-again : goal.eights-preserved-then-at-again
eights-preserved-then-at-again g c =
    record {
      within =
          omega
          (arith, c.eights-test.true, c.if-end-lt8.false, c.follow_eight-eight.ensures.upto, c.requires.1.0.upto);
      run = run_on c.eights.invariant.run c.follow_eight-eight.ensures.run;
    }

pub eights-preserved : goal.eights-preserved
eights-preserved g c =
    let run = run_on c.eights.invariant.run c.follow_eight-eight.ensures.run in
    record {
      within = omega (arith, c.follow_loop-stop.ensures.within);
      run = run_on run (run_loop (run_at c.requires.1.1 c.requires.1.0.on.trace run) c.follow_loop-stop.ensures.loops);
    }

pub eights-preserved-then-stop-at : goal.eights-preserved-then-stop-at
eights-preserved-then-stop-at g c =
    let run = run_on c.eights.invariant.run c.follow_eight-eight.ensures.run in
    record {
      within = omega (arith, c.follow_loop-stop.ensures.within);
      run = run_on run (run_loop (run_at c.requires.1.1 c.requires.1.0.on.trace run) c.follow_loop-stop.ensures.loops);
    }

pub returns-then-eight-at-clause-to : goal.returns-then-eight-at-clause-to
returns-then-eight-at-clause-to g c =
    record {
      within =
          omega
          (arith, c.eights-test.true, c.if-end-lt8.false, c.follow_eight-eight.ensures.upto, c.requires.1.0.upto);
      followed = (run_on c.eights.invariant.run c.follow_eight-eight.ensures.run).followed;
      peeked = c.follow_eight-eight.ensures.peeked;
    }

pub returns-then-eight-at-clause-read : goal.returns-then-eight-at-clause-read
returns-then-eight-at-clause-read g c = λ less.
    c.follow_eight-eight.ensures.read (omega (arith, c.if-eight-at.true, c.follow_eight-eight.ensures.upto))

pub returns-then-eight-at-clause-only : goal.returns-then-eight-at-clause-only
returns-then-eight-at-clause-only g c = λ only. c.follow_eight-eight.ensures.run.only

pub follow_rest-requires-2 : goal.follow_rest-requires-2
follow_rest-requires-2 g c = (
  c.requires.0,
  (
    record {
      on = record { trace = c.requires.1.0.on.trace; named = c.eights.invariant.run.followed.named };
      undone = c.requires.1.0.undone;
      within = c.eights.invariant.within;
      upto = c.requires.1.0.upto;
    },
    (c.requires.1.1, c.eights.invariant.run.only),
  ),
)

pub returns-clause-to : goal.returns-clause-to
returns-clause-to g c =
    record {
      within = c.follow_rest-2.ensures.within;
      followed = (run_on c.eights.invariant.run c.follow_rest-2.ensures.run).followed;
      peeked = c.follow_rest-2.ensures.peeked;
    }

pub returns-clause-only : goal.returns-clause-only
returns-clause-only g c = λ only. c.follow_rest-2.ensures.run.only
