use Rattle.std.proofs.Common.{◌≡◌, ◌+◌, sym, arith}
use Rattle.automata_hybrid.proofs.Words.{HasOnly}
use Rattle.automata_hybrid.proofs.Fast.Runs.{run_at, run_id, run_none, run_on, run_to}
use Rattle.automata_hybrid.proofs.search.fast.follow.follow_eight.Goals as goal

pub loop-k-init : goal.loop-k-init
loop-k-init g c =
    let here : c.args.start ≡ c.args.start + 0 = omega arith in
    let same : c.args.from ≡ c.offset_by-row.result + c.args.tag =
    omega (arith, c.offset_by-row.ensures.only c.requires.1.0.only, c.requires.1.0.only.from) in
    record { run = run_to here (run_id same (run_none c.requires.1.0)) }

pub follow_byte-next-requires : goal.follow_byte-next-requires
follow_byte-next-requires g c =
    let at =
    run_at c.requires.1.0.kind c.requires.1.0.on.trace (run_id (sym c.at_offset-id.ensures) c.loop-k.invariant.run) in
    (c.requires.0, (at, (c.at_offset-id.ensures, omega (arith, c.requires.1.1.0, c.loop-k-test.true))))

pub loop-k-preserved : goal.loop-k-preserved
loop-k-preserved g c =
    let far : c.args.start + c.loop-k.k + 1 ≡ c.args.start + (c.loop-k.k + 1) = omega arith in
    let only : HasOnly c.args.tag c.follow_byte-next.result =
    c.offset_by-offset.ensures.other (omega (arith, c.if-offset-ge-OFFSET_LIMIT.false)) in
    let same : c.follow_byte-next.result ≡ c.offset_by-offset.result + c.args.tag =
    omega (arith, c.offset_by-offset.ensures.only only, only.from) in
    record { run = run_to far (run_id same (run_on c.loop-k.invariant.run (c.follow_byte-next.ensures.run only))) }

pub returns-clause-run : goal.returns-clause-run
returns-clause-run g c =
    let all : c.args.start + c.loop-k.k ≡ c.args.start + 8 = omega (arith, c.loop-k-test.false, c.loop-k.auto.k-end) in
    run_to all (run_id (sym c.at_offset.ensures) c.loop-k.invariant.run)
