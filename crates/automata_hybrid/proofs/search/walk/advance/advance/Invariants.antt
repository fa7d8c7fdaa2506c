use Rattle.std.proofs.Common.{ℕ, suc, ◌≡◌, ◌<◌, ◌≤◌, ◌+◌, ◌-◌}
use Rattle.automata_hybrid.proofs.Words.{HasReadNoQuit, known_of, Names, state_in}
use Rattle.automata_hybrid.specs.Walks.Answers.{IsSilent, WalkReads}
use Rattle.automata_hybrid.proofs.Searches.Goes.{GoesTo}
use Rattle.automata_hybrid.specs.Private.Cache.Sound.{IsSoundCacheOf}
use Rattle.automata_hybrid.proofs.search.walk.advance.advance.Given as goal

abbrev pub invariant-loop-read : goal.invariant-loop-read
invariant-loop-read l = record {
  sound : IsSoundCacheOf l.cache l.dfa;
  from : l.units ≤ l.read;
  within : l.read ≤ l.input.end - l.input.start + 1;
  upto : l.end ≤ l.input.end - l.input.start;
  named : Names l.cache.store.table l.id (state_in l.way l.dfa l.input l.read);
  clean : HasReadNoQuit l.way l.dfa l.input l.read;
  silent : IsSilent l.way l.dfa l.input l.units l.read;
  progress : GoesTo l.way l.dfa l.input l.units l.read (known_of l.fn.cache) (known_of l.cache);
  reads : l.units < l.read → (k : ℕ) × (l.read ≡ suc k) × WalkReads l.way l.dfa l.input k;
}

abbrev pub decreases-loop-read : goal.decreases-loop-read
decreases-loop-read l = l.input.end - l.input.start + 1 - l.read
