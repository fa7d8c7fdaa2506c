use Rattle.std.proofs.Common.{◌≡◌, ◌≤◌, ◌+◌, ◌-◌}
use Rattle.automata_hybrid.proofs.Words.{Finds, known_of, later, PassesEnd, Skips, Tries}
use Rattle.automata_hybrid.proofs.Searches.Directions.{skipped}
use Rattle.automata_hybrid.specs.Private.Cache.Sound.{IsSoundCacheOf}
use Rattle.automata_hybrid.proofs.search.half.search_spans.Given as goal

abbrev pub invariant-loop-later : goal.invariant-loop-later
invariant-loop-later l = record {
  sound : IsSoundCacheOf l.cache l.dfa;
  few : l.later.end + 1 - l.later.start ≤ l.input.end + 1 - l.input.start;
  same : l.later ≡ later l.way (skipped l.input l.later) l.input;
  progress : PassesEnd l.way l.dfa l.input (skipped l.input l.later) (known_of l.fn.cache) (known_of l.cache);
  tries : Tries (Finds l.way l.dfa) (Skips l.dfa) l.way l.input (skipped l.input l.later);
}

abbrev pub decreases-loop-later : goal.decreases-loop-later
decreases-loop-later l = l.later.end + 1 - l.later.start
