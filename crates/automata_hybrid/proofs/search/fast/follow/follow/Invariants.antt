use Rattle.std.proofs.Common.{◌≤◌, ◌-◌}
use Rattle.automata_hybrid.specs.Private.Searches.PassState.{IsRun}
use Rattle.automata_hybrid.proofs.search.fast.follow.follow.Given as goal

abbrev pub invariant-eights : goal.invariant-eights
invariant-eights g l = record {
  within : l.at ≤ l.input.end - l.input.start;
  run : IsRun g.trace l.way l.dfa l.cache.store l.input l.tag l.fn.start l.at l.id;
}

abbrev pub decreases-eights : goal.decreases-eights
decreases-eights g l = l.input.end - l.input.start - l.at

abbrev pub ghost-next_known : goal.ghost-next_known
ghost-next_known g a = g.trace

abbrev pub ghost-follow_rest : goal.ghost-follow_rest
ghost-follow_rest g a = g.trace

abbrev pub ghost-follow_eight : goal.ghost-follow_eight
ghost-follow_eight g a = g.trace
