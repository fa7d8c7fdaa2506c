use Rattle.std.proofs.Common.{◌≡◌, drop, map, take}
use Rattle.lazydfa_c.specs.Drafts.{lead_on, transition_of}
use Rattle.lazydfa_c.proofs.builder.transitions.Given as goal

abbrev pub invariant-loop-edge : goal.invariant-loop-edge
invariant-loop-edge l =
    (l.transitions.items ≡ map transition_of (take l.edge-index l.edges))
    × (lead_on (drop l.edge-index l.edges) ≡ lead_on l.edges)
