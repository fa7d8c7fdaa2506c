-- Which patterns match, by paths, at an offset that a walk over a haystack in pieces has reached.
use Rattle.std.specs.Prelude.{ℕ, suc, ◌≡◌, ◌-◌, ◌≤◌, List, Some}
use Rattle.automata_base.specs.Answers.Answers.{IsInput}
use Rattle.automata_base.specs.Haystacks.Input.{Input}
use Rattle.automata_base.specs.Lists.{IsSet}
use Rattle.automata_base.specs.Nfas.Nodes.{nfa_of}
use Rattle.automata_base.specs.Paths.Selections.{Accepts}
use Rattle.automata_base.specs.Paths.Starts.{mode_start}
use Rattle.automata_base.specs.declared.util.search.Direction.TheVariants.{Forward}
use Rattle.automata_base.specs.declared.util.search.MatchKind.TheVariants.{All as KindAll}
use Rattle.automata_config.specs.Options.{match_kind_of}
use Rattle.automata_hybrid.specs.Machines.Machine.{Machine}
use Rattle.automata_hybrid.specs.Searches.Passes.{state_in, tape_in}

-- some path of a pattern from a start, over the span of an input, ends in a match at a place of the span
abbrev pub MatchesAt : Machine → Input → (start k p : ℕ) → Type 0
MatchesAt m input start k p = (path : List ℕ) × Accepts (nfa_of m.nfa) (tape_in Forward input) start k p path

-- under `MatchKind::All`, for every NFA, and by the start of the input's anchored mode: at each place of a span, its
-- end included, the state of a pass reports exactly the patterns that match there
abbrev pub StatesHaveMatching : Machine → Type 0
StatesHaveMatching m =
    (input : Input) (start k : ℕ)
    → match_kind_of m.config ≡ KindAll → mode_start m.nfa input.anchored ≡ Some start
    → IsInput input → input.start ≤ input.end → k ≤ input.end - input.start
    → IsSet (MatchesAt m input start k) (state_in Forward m input (suc k)).patterns
