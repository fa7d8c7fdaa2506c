use Rattle.lazydfa_c.specs.Words.{Iterates}
use Rattle.lazydfa_c.proofs.Batches.{AreSoFar}
use Rattle.lazydfa_c.proofs.object.Searcher.next_all.Given as goal

abbrev pub invariant-loop-place : goal.invariant-loop-place
invariant-loop-place l =
    AreSoFar (Iterates l.haystack) l.fn.out l.place-items l.count l.place-index l.fn.at l.at l.fn.self l.self
