use Rattle.std.proofs.Common.{◌≡◌, ap, arith, inl, inr, length, refl}
use Rattle.automata_transform.proofs.Nfas.Standing.{merged_self}
use Rattle.patterns.proofs.compile.merged_within.Goals as goal

pub returns-in-Ok : goal.returns-in-Ok
returns-in-Ok c =
    let count : length c.states.result.now ≡ length c.in-Ok.merged.states = ap length c.states.ensures.same in
    record {
      checked = c.states-states.ensures.checked;
      merges = c.in-Ok.ensures.merged;
      skips = c.in-Ok.ensures.bounds.skips;
      small = inl (omega (arith, count, c.if-states-limit.true));
    }

pub returns-in-Ok-2 : goal.returns-in-Ok-2
returns-in-Ok-2 c =
    record {
      checked = c.states-states.ensures.checked;
      merges = merged_self c.args.nfa;
      skips = λ s. s;
      small = inr refl;
    }
