use Rattle.std.proofs.Common.{◌<◌, ◌≤◌, ◌-◌}
use Rattle.automata_hybrid.proofs.Words.{begun, Forward, given_up_offset, IsAtAlong, known_of}
use Rattle.automata_hybrid.specs.Private.Searches.PassState.{IsNextCell}
use Rattle.automata_hybrid.proofs.Searches.Goes.{GoesToAlong}
use Rattle.automata_hybrid.specs.Private.Cache.Sound.{IsSoundCacheOf}
use Rattle.automata_hybrid.proofs.search.pieces.run_span.Given as goal

abbrev pub ghost-next_known : goal.ghost-next_known
ghost-next_known g a = g.trace

abbrev pub ghost-run_to_match : goal.ghost-run_to_match
ghost-run_to_match g a = g.trace

abbrev pub ghost-follow_with_leaps : goal.ghost-follow_with_leaps
ghost-follow_with_leaps g a = g.trace

abbrev pub invariant-loop-run : goal.invariant-loop-run
invariant-loop-run g l = record {
  sound : IsSoundCacheOf l.cache l.dfa;
  within : l.run.at ≤ l.last;
  upto : l.end ≤ l.input.end - l.input.start;
  at : IsAtAlong g.trace Forward l.dfa l.cache.store.table l.input l.run.at l.run.id l.run.found;
  read :
      l.run.at < l.input.end - l.input.start
      → IsNextCell Forward l.dfa l.cache.store l.input l.run.at l.run.id l.run.next;
  progress :
      GoesToAlong g.trace Forward l.dfa l.input 0 l.run.at
      (begun (given_up_offset Forward l.input 0) (known_of l.fn.cache)) (known_of l.cache);
}

abbrev pub decreases-loop-run : goal.decreases-loop-run
decreases-loop-run g l = l.last - l.run.at
