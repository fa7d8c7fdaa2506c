use Rattle.std.proofs.Common.{refl, subst, arith, inl}
use Rattle.automata_hybrid.specs.Private.Fast.SelfLoops.{LoopsOn}
use Rattle.automata_hybrid.proofs.Fast.SelfLoops.{run_known, run_more, run_none}
use Rattle.automata_hybrid.proofs.search.fast.self_loop.scan.Goals as goal

pub lanes-init : goal.lanes-init
lanes-init c = record { found = c.requires.known; run = run_none c.args.start c.requires.within }

pub lanes-preserved-then-are_in : goal.lanes-preserved-then-are_in
lanes-preserved-then-are_in c = record {
  found = c.lanes.invariant.found;
  run =
      run_known 32 c.lanes.found (omega (arith, c.lanes-test.true, c.lanes.invariant.run.within))
      (λ k. (c.type_inv.bytes k).fits) c.lanes.invariant.found
      (λ k l below. inl (c.if-are_in.ensures refl k l below)) c.lanes.invariant.run;
}

pub lanes-preserved-then-are_in_either : goal.lanes-preserved-then-are_in_either
lanes-preserved-then-are_in_either c = record {
  found = c.lanes.invariant.found;
  run =
      run_known 32 c.lanes.found (omega (arith, c.lanes-test.true, c.lanes.invariant.run.within))
      (λ k. (c.type_inv.bytes k).fits) c.lanes.invariant.found
      (c.if-are_in_either.ensures refl) c.lanes.invariant.run;
}

pub lanes-preserved-then-near-eq-LANES : goal.lanes-preserved-then-near-eq-LANES
lanes-preserved-then-near-eq-LANES c = record {
  found = c.lanes.invariant.found;
  run =
      (run_known c.count_in_either-near.result c.lanes.found
      (omega (arith, c.lanes-test.true, c.count_in_either-near.ensures.few, c.lanes.invariant.run.within))
      (λ k. (c.type_inv.bytes k).fits) c.lanes.invariant.found c.count_in_either-near.ensures.near
      c.lanes.invariant.run);
}

pub returns-then-not-loops_on : goal.returns-then-not-loops_on
returns-then-not-loops_on c =
    (run_known c.count_in_either-near.result c.lanes.found
    (omega (arith, c.lanes-test.true, c.count_in_either-near.ensures.few, c.lanes.invariant.run.within))
    (λ k. (c.type_inv.bytes k).fits) c.lanes.invariant.found c.count_in_either-near.ensures.near c.lanes.invariant.run)

pub lanes-preserved-then-is_empty : goal.lanes-preserved-then-is_empty
lanes-preserved-then-is_empty c = record {
  found = c.find_second-found.ensures;
  run =
      run_more
      (omega (
        arith,
        c.lanes-test.true,
        c.count_in_either-near.ensures.few,
        c.if-near-eq-LANES.false,
        c.lanes.invariant.run.within,
      ))
      (subst (LoopsOn c.args.dfa.now c.args.cache.now.store c.args.id) c.byte_at-byte.ensures
      (c.if-not-loops_on.ensures refl))
      (run_known c.count_in_either-near.result c.lanes.found
      (omega (arith, c.lanes-test.true, c.count_in_either-near.ensures.few, c.lanes.invariant.run.within))
      (λ k. (c.type_inv.bytes k).fits) c.lanes.invariant.found c.count_in_either-near.ensures.near
      c.lanes.invariant.run);
}

pub returns-then-saturating_mul-saturating_add : goal.returns-then-saturating_mul-saturating_add
returns-then-saturating_mul-saturating_add c =
    run_more
    (omega (
      arith,
      c.lanes-test.true,
      c.count_in_either-near.ensures.few,
      c.if-near-eq-LANES.false,
      c.lanes.invariant.run.within,
    ))
    (subst (LoopsOn c.args.dfa.now c.args.cache.now.store c.args.id) c.byte_at-byte.ensures
    (c.if-not-loops_on.ensures refl))
    (run_known c.count_in_either-near.result c.lanes.found
    (omega (arith, c.lanes-test.true, c.count_in_either-near.ensures.few, c.lanes.invariant.run.within))
    (λ k. (c.type_inv.bytes k).fits) c.lanes.invariant.found c.count_in_either-near.ensures.near c.lanes.invariant.run)

pub lanes-preserved : goal.lanes-preserved
lanes-preserved c = record {
  found = c.lanes.invariant.found;
  run =
      run_more
      (omega (
        arith,
        c.lanes-test.true,
        c.count_in_either-near.ensures.few,
        c.if-near-eq-LANES.false,
        c.lanes.invariant.run.within,
      ))
      (subst (LoopsOn c.args.dfa.now c.args.cache.now.store c.args.id) c.byte_at-byte.ensures
      (c.if-not-loops_on.ensures refl))
      (run_known c.count_in_either-near.result c.lanes.found
      (omega (arith, c.lanes-test.true, c.count_in_either-near.ensures.few, c.lanes.invariant.run.within))
      (λ k. (c.type_inv.bytes k).fits) c.lanes.invariant.found c.count_in_either-near.ensures.near
      c.lanes.invariant.run);
}
