use Rattle.std.proofs.Common.{◌≡◌, drop, take}
use Rattle.lazydfa_c.specs.Drafts.{are_states}
use Rattle.lazydfa_c.proofs.builder.state_ids.Given as goal

abbrev pub invariant-loop-number : goal.invariant-loop-number
invariant-loop-number l =
    (l.ids.items ≡ take l.number-index l.numbers)
    × (are_states (drop l.number-index l.numbers) ≡ are_states l.numbers)
