use Rattle.std.proofs.Common.{◌≡◌, ◌+◌, sym, arith}
use Rattle.automata_hybrid.proofs.Words.{HasOnly}
use Rattle.automata_hybrid.proofs.Fast.Runs.{run_at, run_id, run_none, run_on}
use Rattle.automata_hybrid.proofs.search.fast.follow.follow_rest.Goals as goal

pub rest-init : goal.rest-init
rest-init g c =
    let same : c.args.from ≡ c.offset_by-row.result + c.args.tag =
    omega (arith, c.offset_by-row.ensures.only c.requires.1.1.1, c.requires.1.1.1.from) in
    record {
      within = omega (arith, c.requires.1.0.within);
      run = run_id same
          (run_none (record { kind = c.requires.1.1.0; only = c.requires.1.1.1; on = c.requires.1.0.on }));
    }

pub follow_byte-next-requires : goal.follow_byte-next-requires
follow_byte-next-requires g c =
    let at =
    run_at c.requires.1.1.0 c.requires.1.0.on.trace (run_id (sym c.at_offset-id.ensures) c.rest.invariant.run) in
    (c.requires.0, (at, (c.at_offset-id.ensures, omega (arith, c.rest-test.true, c.requires.1.0.upto))))

pub rest-preserved : goal.rest-preserved
rest-preserved g c =
    let only : HasOnly c.args.tag c.follow_byte-next.result =
    c.offset_by-offset.ensures.other (omega (arith, c.if-offset-ge-OFFSET_LIMIT.false)) in
    let same : c.follow_byte-next.result ≡ c.offset_by-offset.result + c.args.tag =
    omega (arith, c.offset_by-offset.ensures.only only, only.from) in
    record {
      within = omega (arith, c.rest-test.true, c.requires.1.0.upto);
      run = run_id same (run_on c.rest.invariant.run (c.follow_byte-next.ensures.run only));
    }
