-- What follows from the effect of searches on what their cache knows: how often they determinize, when nothing is
-- cleared, what stays, and what is cached.
use Rattle.std.specs.Prelude.{ℕ, zero, suc, ◌≡◌, ◌+◌, ◌-◌, ◌*◌, ◌<◌, ◌≤◌, length, Option, None, IfSome}
use Rattle.automata_base.specs.Answers.Answers.{later}
use Rattle.automata_base.specs.Haystacks.Input.{Input}
use Rattle.automata_base.specs.declared.util.search.Anchored.TheVariants.{No}
use Rattle.automata_base.specs.declared.util.search.Direction.{Direction}
use Rattle.automata_config.specs.declared.error.SearchError.{SearchError}
use Rattle.automata_hybrid.specs.Known.Bounds.{IsKnown}
use Rattle.automata_hybrid.specs.Known.Cached.{Knows, KnowsItsStart}
use Rattle.automata_hybrid.specs.Known.Growth.{ClearedNothing, HasRoom, IsGrown, IsStill}
use Rattle.automata_hybrid.specs.Known.Known.{Known}
use Rattle.automata_hybrid.specs.Known.Passes.{HaveTried, IsSearchRun}
use Rattle.automata_hybrid.specs.Machines.Machine.{Machine}
use Rattle.automata_hybrid.specs.Searches.Contracts.{IsOfInput, IsMemory, IsUnhindered}
use Rattle.automata_hybrid.specs.Searches.Passes.{Skips}
use Rattle.automata_hybrid.specs.Searches.Progress.{TriesSpans}

-- an upper bound on the determinizations of `passes` passes, the first over `bytes` bytes and each later one over one
-- byte less: a pass determinizes at most once for each byte, for its start and at its end
abbrev pub passes_most : (passes bytes : ℕ) → ℕ
passes_most zero bytes = 0
passes_most (suc passes) bytes = passes_most passes bytes + (bytes - passes + 2)

-- what a pass over the span of an input costs
pub record IsCostOfPass (way : Direction) (m : Machine) (input : Input) (old new : Known) : Type 0 where
  -- it determinizes at most once for each byte of the span, for its start and at its end
  pub counted : new.count ≤ old.count + (input.end - input.start + 2)
  -- a start state that is cached is not determinized again
  pub started : KnowsItsStart way m old input → new.count ≤ old.count + (input.end - input.start + 1)
  -- if there is room for as many states, nothing is cleared
  pub room : HasRoom m old (input.end - input.start + 2) → new.clears ≡ old.clears

-- what `passes` passes cost one after another, each over the next span that is tried
abbrev pub AreCostsInTurn : Direction → Machine → Input → (passes : ℕ) → (old new : Known) → Type 0
AreCostsInTurn way m input zero old new = new ≡ old
AreCostsInTurn way m input (suc passes) old new =
    (between : Known) × AreCostsInTurn way m input passes old between
    × IsCostOfPass way m (later way passes input) between new

-- what `passes` passes of a search cost
pub record IsCostOfPasses (way : Direction) (m : Machine) (input : Input) (passes : ℕ) (old new : Known) : Type 0 where
  -- each is over a span that the search tries
  pub tried : TriesSpans way m input passes
  -- each costs what a pass over its span may cost
  pub each : AreCostsInTurn way m input passes old new
  -- together they determinize at most as often as `passes_most` allows
  pub counted : new.count ≤ old.count + passes_most passes (input.end - input.start)
  -- a start state that is cached is not determinized again: if all their start states are, each pass determinizes once
  -- less
  pub started :
      ((k : ℕ) → k < passes → KnowsItsStart way m old (later way k input))
      → new.count + passes ≤ old.count + passes_most passes (input.end - input.start)
  -- if there is room for as many states, nothing is cleared
  pub room : HasRoom m old (passes_most passes (input.end - input.start)) → new.clears ≡ old.clears

-- what follows from a search that returns this error, or none
pub record SearchFollows (way : Direction) (m : Machine) (input : Input) (old new : Known)
    (error : Option SearchError) : Type 0 where
  -- how many passes it makes
  pub passes : ℕ
  -- a pass over n bytes determinizes at most n + 2 times, and each is over another span that is tried; nothing is
  -- cleared if there is room for as many states
  pub cost : IsCostOfPasses way m input passes old new
  -- it is at most one pass if no place is skipped or the search is anchored
  pub once : (Skips m × (input.anchored ≡ No) → ⊥) → IsCostOfPass way m input old new
  -- it determinizes at most as often as a pass over the whole span for each place
  pub most : new.count ≤ old.count + (input.end - input.start + 1) * (input.end - input.start + 2)
  -- nothing is lost until the next clear
  pub grown : IsGrown m old new
  -- what the cache knows then still satisfies `IsKnown`
  pub sound : IsKnown m new
  -- if it answers and nothing was cleared, everything that it used is cached
  pub learned : ClearedNothing old new → error ≡ None → Knows way m new input
  -- if all of that was cached before, it fails only because of its input, and changes only the progress
  pub known : Knows way m old input → IsStill old new × IfSome error IsOfInput
  -- over a span that ends in its haystack, if only a lack of memory can prevent an answer, the only error is out of
  -- memory
  pub memory : input.end ≤ length input.haystack → IsUnhindered m input → IfSome error IsMemory
  -- if the span is done, it changes nothing
  pub done : input.end < input.start → new ≡ old

-- what follows from every search with a cache of the DFA
abbrev pub SearchesFollow : Machine → Type 0
SearchesFollow m =
    (way : Direction) (input : Input) (old new : Known) (error : Option SearchError)
    → IsKnown m old → IsSearchRun way m input old new error → SearchFollows way m input old new error

-- the cost of passes that have ended one after another, each over the next span that is tried
abbrev pub PassesCost : Machine → Type 0
PassesCost m =
    (way : Direction) (input : Input) (passes : ℕ) (old new : Known) → IsKnown m old
    → HaveTried way m input passes old new → IsCostOfPasses way m input passes old new
