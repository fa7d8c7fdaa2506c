-- Searches and walks in pieces that a cache has.
use Rattle.std.proofs.Common.{◌≡◌, Option, Some, List, ℕ, subst, sym}
use Rattle.automata_hybrid.specs.Machines.Machine.{Machine}
use Rattle.automata_hybrid.specs.Pieces.State.{PiecesView}
use Rattle.lazydfa_c.specs.Pieces.{OfPieces}
use Rattle.lazydfa_c.specs.Streams.{StreamView, WalkView}
use Rattle.lazydfa_c.specs.declared.object.InPieces.{InPieces}
use Rattle.lazydfa_c.specs.declared.object.Searcher.{Searcher}
use Rattle.lazydfa_c.specs.declared.status.Status.{Status}

-- a search of a cache is determined by its parts
pub stream_is :
    (old : InPieces) (s : StreamView) (m : Machine) (p : PiecesView) → s.machine ≡ m → s.pieces ≡ p
    → record old { search = Some s } ≡ record old { search = Some (record { machine = m; pieces = p }) }
stream_is old s m p same is = λ i. record old { search = Some (record { machine = same i; pieces = is i }) }

-- a walk is determined by its parts
pub walk_is :
    (w : WalkView) (m : Machine) (p : PiecesView) (end : Option (List ℕ)) → w.machine ≡ m → w.walk ≡ p → w.end ≡ end
    → w ≡ record { machine = m; walk = p; end = end }
walk_is w m p end same is ends = λ i. record { machine = same i; walk = is i; end = ends i }

-- two equal walks make two equal caches
pub has_walk :
    (old : InPieces) (w v : WalkView) → w ≡ v → record old { walk = Some w } ≡ record old { walk = Some v }
has_walk old w v is = λ i. record old { walk = Some (is i) }

-- a call on the search or the walk that a cache has
pub of_search :
    {V : Type 0} → (Does : V → Searcher → Searcher → Status → Type 0) (v : V) (o : Option V)
    (s t : Searcher) (status : Status) → o ≡ Some v → Does v s t status → OfPieces Does o s t status
of_search Does v o s t status is does = subst (λ o. OfPieces Does o s t status) (sym is) does
