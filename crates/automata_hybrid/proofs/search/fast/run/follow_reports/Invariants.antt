use Rattle.std.proofs.Common.{◌<◌, ◌≤◌, ◌-◌}
use Rattle.automata_hybrid.proofs.Fast.Mixed.{HasRunOn}
use Rattle.automata_hybrid.proofs.search.fast.run.follow_reports.Given as goal

abbrev pub invariant-mixed : goal.invariant-mixed
invariant-mixed g l = record {
  mark : l.reported_at ≤ l.input.end - l.input.start;
  here :
      HasRunOn g.trace l.way l.dfa l.cache.store l.input l.fn.from.at l.at l.id l.fn.from.found l.reported
      l.reported_at;
  within : l.at < l.input.end - l.input.start;
}

abbrev pub decreases-mixed : goal.decreases-mixed
decreases-mixed g l = l.end - l.at

abbrev pub ghost-next_known : goal.ghost-next_known
ghost-next_known g a = g.trace
