use Rattle.std.proofs.Common.{◌<◌, ◌≤◌, ◌-◌}
use Rattle.automata_hybrid.proofs.Words.{IsAt, known_of, pass_trace}
use Rattle.automata_hybrid.specs.Private.Searches.PassState.{IsNextCell}
use Rattle.automata_hybrid.proofs.Searches.Goes.{GoesTo}
use Rattle.automata_hybrid.specs.Private.Cache.Sound.{IsSoundCacheOf}
use Rattle.automata_hybrid.proofs.search.pass.find.Given as goal

abbrev pub invariant-loop-run : goal.invariant-loop-run
invariant-loop-run l = record {
  within : l.run.at ≤ l.last;
  upto : l.end ≤ l.input.end - l.input.start;
  at : IsAt l.way l.dfa l.cache.store.table l.input l.run.at l.run.id l.run.found;
  read :
      l.run.at < l.input.end - l.input.start
      → IsNextCell l.way l.dfa l.cache.store l.input l.run.at l.run.id l.run.next;
  sound : IsSoundCacheOf l.cache l.dfa;
  progress : GoesTo l.way l.dfa l.input 0 l.run.at (known_of l.fn.cache) (known_of l.cache);
}

abbrev pub decreases-loop-run : goal.decreases-loop-run
decreases-loop-run l = l.last - l.run.at

abbrev pub ghost-run_to_match : goal.ghost-run_to_match
ghost-run_to_match a = pass_trace a.way a.dfa.now a.input.now

abbrev pub ghost-follow_with_leaps : goal.ghost-follow_with_leaps
ghost-follow_with_leaps a = pass_trace a.way a.dfa.now a.input.now

abbrev pub ghost-follow_reports : goal.ghost-follow_reports
ghost-follow_reports a = pass_trace a.way a.dfa.now a.input.now
