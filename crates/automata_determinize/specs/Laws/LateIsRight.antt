-- The statements that searches and walks by passes report what the ordered paths define.
use Rattle.std.specs.Prelude.{ℕ, suc, ◌<◌, ◌≤◌, Bool, true, false, List, length}
use Rattle.automata_base.specs.Lists.{IsSet}
use Rattle.automata_base.specs.Nfas.Nfa.{Nfa}
use Rattle.automata_base.specs.Paths.Paths.{Tape, KeepsCycles}
use Rattle.automata_base.specs.declared.util.search.MatchKind.{MatchKind}
use Rattle.automata_base.specs.declared.util.search.MatchKind.TheVariants.{All}
use Rattle.automata_determinize.specs.Powersets.Passes.{IsTape}
use Rattle.automata_base.specs.Paths.Selections.{Accepts, Selects, IsOverlappingOn, IsNearest, IsFarthest}
use Rattle.automata_determinize.specs.Retraced.Passes.{search_of, pairs_upto, reported_of}
use Rattle.automata_base.specs.Nfas.Accepted.{IsInRange}

-- If the NFA keeps its cycles, a search by passes selects what the ordered paths select.
abbrev pub SearchesAreRight : Type 0
SearchesAreRight =
    (kind : MatchKind) (earliest : Bool) (n : Nfa) (t : Tape) (start : ℕ)
    → IsInRange n → start < length n.nodes → KeepsCycles n → IsTape t
    → Selects kind earliest n t start (search_of kind earliest n t start)

-- If the NFA keeps its cycles, a walk by passes reports the pairs that the ordered paths have.
abbrev pub WalksAreRight : Type 0
WalksAreRight =
    (kind : MatchKind) (n : Nfa) (t : Tape) (start : ℕ)
    → IsInRange n → start < length n.nodes → KeepsCycles n → IsTape t
    → IsOverlappingOn kind n t start (pairs_upto n kind start t (suc (length t.bytes)))

-- For every NFA an earliest search reports the nearest end.
abbrev pub NearestEndsAreRight : Type 0
NearestEndsAreRight =
    (kind : MatchKind) (n : Nfa) (t : Tape) (start : ℕ)
    → IsInRange n → start < length n.nodes → IsTape t → IsNearest n t start (search_of kind true n t start)

-- For every NFA a search under `MatchKind::All` reports the farthest end.
abbrev pub EndsAreRight : Type 0
EndsAreRight =
    (n : Nfa) (t : Tape) (start : ℕ)
    → IsInRange n → start < length n.nodes → IsTape t → IsFarthest n t start (search_of All false n t start)

-- For every NFA a walk under `MatchKind::All` reports at each place the patterns whose paths end there.
abbrev pub PairsAreRight : Type 0
PairsAreRight =
    (n : Nfa) (t : Tape) (start i : ℕ)
    → IsInRange n → start < length n.nodes → IsTape t → i ≤ length t.bytes
    → IsSet (λ p. (path : List ℕ) × Accepts n t start i p path) (reported_of n All start t i)
