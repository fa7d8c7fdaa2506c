use Rattle.std.proofs.Common.{arith, refl}
use Rattle.std.proofs.lemmas.Grind.{common_steps}
use Rattle.automata_hybrid.proofs.Machines.Builds.{IsBuilt-IsMachine}
use Rattle.automata_hybrid.proofs.dfa.DFA.of_settled.Goals as goal

pub invariant_of-result : goal.invariant_of-result
invariant_of-result c =
    IsBuilt-IsMachine c.args.settled _ (record {
      settled = c.requires;
      sizes = record { stride = refl; slots = refl; template = refl; greatest = refl; fixed = refl };
      classes = cc;
      quits = cc;
      end_below = grind (arith, common_steps);
      small = grind (arith, common_steps);
      capacity = cc;
    })
