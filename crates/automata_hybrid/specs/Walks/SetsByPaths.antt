-- Which patterns a set has after a search for all matches: those of which some path through the span ends in a match.
use Rattle.std.specs.Prelude.{ℕ, ◌≡◌, ◌<◌, ◌≤◌, ◌⊎◌, ◌↔◌, Bool, List, false, length, Some}
use Rattle.automata_base.specs.Answers.Answers.{IsInput}
use Rattle.automata_base.specs.Haystacks.Input.{Input}
use Rattle.automata_base.specs.Lists.{In}
use Rattle.automata_base.specs.Haystacks.PatternSet.{members}
use Rattle.automata_base.specs.Paths.Starts.{mode_start}
use Rattle.automata_base.specs.declared.util.search.Direction.TheVariants.{Forward}
use Rattle.automata_base.specs.Laws.Walks.{IsAccepted}
use Rattle.automata_base.specs.declared.util.search.MatchKind.TheVariants.{All as KindAll}
use Rattle.automata_config.specs.Options.{match_kind_of}
use Rattle.automata_hybrid.specs.Machines.Machine.{Machine}
use Rattle.automata_hybrid.specs.Walks.Contracts.{JoinsReported}

-- some path of the pattern from the start, through the span of an input, ends in a match, at some offset
pub record MatchesIn (m : Machine) (input : Input) (start pattern : ℕ) : Type 0 where
  -- the offset where the path ends
  pub at : ℕ
  -- some path of the pattern ends there in a match
  pub accepted : IsAccepted Forward m.nfa input start (record { pattern = pattern; place = at })

-- under `MatchKind::All`, for every NFA, and by the start of the input's anchored mode
pub record SetsHaveMatching (m : Machine) : Type 0 where
  -- after a call that answers, a set has what it had, and the patterns below its capacity that match in the span
  pub sets :
      (input : Input) (start : ℕ) (old new : List Bool)
      → match_kind_of m.config ≡ KindAll → mode_start m.nfa input.anchored ≡ Some start → input.earliest ≡ false
      → IsInput input → input.start ≤ input.end → JoinsReported m input old new
      → (p : ℕ) → In p (members new) ↔ (In p (members old) ⊎ ((p < length old) × MatchesIn m input start p))
  -- a pattern that matches in a span is one of the NFA's
  pub own :
      (input : Input) (start p : ℕ)
      → mode_start m.nfa input.anchored ≡ Some start → IsInput input → input.start ≤ input.end
      → MatchesIn m input start p → p < length m.nfa.start_pattern
