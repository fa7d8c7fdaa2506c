use Rattle.std.proofs.Common.{◌≡◌, List, length, map}
use Rattle.automata_hybrid.specs.Walks.State.{fresh_walk}
use Rattle.regex_automata.specs.Promises.{HalfMatch, IsCacheOf, IsWalkOf}
use Rattle.lazydfa_c.specs.Batches.{AreWalkSteps}
use Rattle.lazydfa_c.specs.Caches.{written_over}
use Rattle.lazydfa_c.specs.Requests.{found_half}
use Rattle.lazydfa_c.proofs.sets.all_halves.Given as goal

abbrev pub invariant-loop-at : goal.invariant-loop-at
invariant-loop-at l =
    IsCacheOf l.cache l.dfa × IsWalkOf l.way l.dfa l.input l.walk × (l.count ≡ l._at)
    × ((halves : List HalfMatch)
    × AreWalkSteps l.way l.dfa l.input halves fresh_walk l.walk l.fn.cache l.cache
    × (l.out ≡ written_over (map found_half halves) l.fn.out) × (l.count ≡ length halves))
