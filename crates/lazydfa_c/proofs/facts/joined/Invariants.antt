use Rattle.std.proofs.Common.{◌≡◌, ◌++◌, take}
use Rattle.std.specs.List.{flat_map}
use Rattle.lazydfa_c.proofs.facts.joined.Given as goal

abbrev pub invariant-loop-literal : goal.invariant-loop-literal
invariant-loop-literal l =
    l.all.items ≡ l.facts.prefix.items ++ flat_map (λ v. v.items) (take l.literal-index l.facts.literals.items)
