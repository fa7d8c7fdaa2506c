-- What a search returns, and its effect on what its cache knows.
use Rattle.std.specs.Prelude.{ℕ, ◌≡◌, ◌+◌, ◌-◌, Option, Some, None, option_map, IfSome, Result, Ok, Err}
use Rattle.automata_base.specs.Haystacks.Input.{Input}
use Rattle.automata_base.specs.Haystacks.Matches.{HalfMatch}
use Rattle.automata_base.specs.declared.util.search.Direction.{Direction}
use Rattle.automata_base.specs.declared.util.search.Direction.TheVariants.{Forward}
use Rattle.automata_config.specs.declared.error.SearchError.{SearchError}
use Rattle.automata_hybrid.specs.Machines.Machine.{Machine}
use Rattle.automata_hybrid.specs.Searches.Contracts.{based_half}
use Rattle.automata_hybrid.specs.Searches.Passes.{IsFound}
use Rattle.automata_hybrid.specs.Known.Known.{Known}
use Rattle.automata_hybrid.specs.Known.Passes.{HaveTried, IsSearchRun}

-- what a search returns, without the start of its span
abbrev pub halves : Result (Option (HalfMatch × ℕ)) SearchError → Result (Option HalfMatch) SearchError
halves (Ok found) = Ok (option_map (λ p. p.0) found)
halves (Err e) = Err e

-- what a search that answers has found, and its effect on what its cache knows
pub record HasSearched (way : Direction) (m : Machine) (input : Input) (old new : Known)
    (half : Option (HalfMatch × ℕ)) : Type 0 where
  -- it is what the search finds
  pub found : IsFound way m input (based_half half)
  -- the passes over the spans that it tries have ended
  pub effect : IsSearchRun way m input old new None
  -- a forward search makes no pass after the one over the span that gave its answer
  pub upto : way ≡ Forward → IfSome half (λ p. HaveTried Forward m input (p.1 - input.start + 1) old new)

-- what a search returns: what it finds, or why it fails
abbrev pub IsSearchResult :
    Direction → Machine → Input → (old new : Known) → Result (Option (HalfMatch × ℕ)) SearchError → Type 0
IsSearchResult way m input old new (Ok half) = HasSearched way m input old new half
IsSearchResult way m input old new (Err e) = IsSearchRun way m input old new (Some e)
