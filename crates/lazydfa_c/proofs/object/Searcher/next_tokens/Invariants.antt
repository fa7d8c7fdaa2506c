use Rattle.lazydfa_c.specs.Batches.{Takes}
use Rattle.lazydfa_c.proofs.Batches.{AreSoFar}
use Rattle.lazydfa_c.proofs.object.Searcher.next_tokens.Given as goal

abbrev pub invariant-loop-place : goal.invariant-loop-place
invariant-loop-place l =
    AreSoFar (Takes l.haystack) l.fn.out l.place-items l.count l.place-index l.fn.left l.left l.fn.self l.self
