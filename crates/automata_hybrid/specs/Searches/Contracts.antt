-- What a search answers, by its DFA and its input only, whatever the cache.
use Rattle.std.specs.Prelude.{ℕ, ◌≡◌, ◌<◌, ◌≤◌, true, false, Option, None, option_map, Result, Ok, Err, IfOk, IfErr}
use Rattle.std.specs.Prelude.{IfSome}
use Rattle.automata_base.specs.Answers.Answers.{Half, IsAnswer}
use Rattle.automata_base.specs.Haystacks.Input.{Input}
use Rattle.automata_base.specs.Haystacks.Matches.{HalfMatch}
use Rattle.automata_base.specs.Nfas.Nodes.{nfa_of}
use Rattle.automata_base.specs.Paths.Paths.{KeepsCycles}
use Rattle.automata_base.specs.declared.util.search.Direction.{Direction}
use Rattle.automata_base.specs.declared.util.search.Direction.TheVariants.{Forward}
use Rattle.automata_base.specs.Answers.OfPasses.{IsNearestAnswer, IsFarthestAnswer}
use Rattle.automata_base.specs.declared.util.search.MatchErrorKind.TheVariants.{UnsupportedAnchored as UnsupportedMode}
use Rattle.automata_base.specs.declared.util.search.MatchKind.TheVariants.{All as KindAll}
use Rattle.automata_config.specs.declared.error.SearchError.{SearchError}
use Rattle.automata_config.specs.declared.error.SearchError.TheVariants as search
use Rattle.automata_hybrid.specs.Machines.Machine.{Machine, engine}
use Rattle.automata_hybrid.specs.Searches.Passes.{NoQuitInReach, WithoutBase, tape_in, with_base}
use Rattle.automata_hybrid.specs.Machines.StartSlots.{supports}
use Rattle.automata_hybrid.specs.Steps.Starts.{quit_behind}
use Rattle.automata_hybrid.specs.Searches.Bounds.{LiesIn, LiesPast}
use Rattle.automata_config.specs.Options.{match_kind_of, minimum_cache_clear_count_of}
use Rattle.automata_base.specs.declared.util.search.MatchErrorKind.TheVariants.{GaveUp}

-- the error is out of memory
abbrev pub IsMemory : SearchError → Type 0
IsMemory e = e ≡ search.OutOfMemory

-- only a lack of memory can prevent an answer: no quit byte is in reach, the anchored mode is supported, and no limit
-- on clears is set
pub record IsUnhindered (m : Machine) (input : Input) : Type 0 where
  -- no quit byte is in reach
  pub reach : NoQuitInReach m input
  -- the anchored mode is supported
  pub supported : supports m input.anchored ≡ true
  -- no limit on clears is set
  pub clears : minimum_cache_clear_count_of m.config ≡ None

-- the span is not done, the look-behind byte is not a quit byte, and the anchored mode is not supported
pub record IsUnsupported (way : Direction) (m : Machine) (input : Input) : Type 0 where
  -- the span is not done
  pub undone : input.start ≤ input.end
  -- the look-behind byte is not a quit byte
  pub behind : quit_behind m (tape_in way input).before ≡ None
  -- the anchored mode is not supported
  pub mode : supports m input.anchored ≡ false

-- the error of an anchored mode that is not supported
abbrev pub unsupported_error : Input → SearchError
unsupported_error input = search.Match (UnsupportedMode input.anchored)

-- what a search in a direction returns: an option, which is an answer by `Is`, and lies where `Lies` says
pub record IsAnswered {A : Type 0} (Is : (Option Half → Type 0) → Option A → Type 0) (Lies : Option A → Type 0)
    (way : Direction) (m : Machine) (input : Input) (result : Result (Option A) SearchError) : Type 0 where
  -- by the paths of the NFA, if it keeps its cycles: the answer of the ordered paths
  pub answer :
      KeepsCycles (nfa_of m.nfa) → IfOk result (Is (IsAnswer way (engine m) input))
  -- for every NFA, in an earliest search: the nearest end
  pub nearest :
      input.earliest ≡ true → IfOk result (Is (IsNearestAnswer way (engine m) input))
  -- for every NFA, in any other search under `MatchKind::All`: the farthest end
  pub farthest :
      input.earliest ≡ false → match_kind_of m.config ≡ KindAll
      → IfOk result (Is (IsFarthestAnswer way (engine m) input))
  -- it lies in the input's span, and its pattern is one of the NFA's
  pub within : IfOk result Lies
  -- if the span is done, there is no match
  pub done : input.end < input.start → result ≡ Ok None
  -- an anchored mode that is not supported is reported
  pub unsupported : IsUnsupported way m input → result ≡ Err (unsupported_error input)
  -- if nothing else can prevent an answer, the only error is out of memory
  pub free : IsUnhindered m input → IfErr result IsMemory

-- what a search in a direction returns: a match's pattern and end, or none
abbrev pub IsHalf : Direction → Machine → Input → Result (Option HalfMatch) SearchError → Type 0
IsHalf way m input result = IsAnswered WithoutBase (λ o. IfSome o (LiesIn m input)) way m input result

-- an answer with the start of the span that gave it
abbrev pub based_half : Option (HalfMatch × ℕ) → Option Half
based_half = option_map (λ p. with_base p.0 p.1)

-- what a forward search returns, with the start of the span that gave it
abbrev pub IsBased : Machine → Input → Result (Option (HalfMatch × ℕ)) SearchError → Type 0
IsBased m input result =
    IsAnswered (λ P o. P (based_half o)) (λ o. IfSome o (λ p. LiesPast m input p.0 p.1)) Forward m input result

-- a search fails because of its input, not because the cache is full or memory runs out
abbrev pub IsOfInput : SearchError → Type 0
IsOfInput (search.Match (GaveUp offset)) = ⊥
IsOfInput (search.Match kind) = Unit {0}
IsOfInput search.OutOfMemory = ⊥
IsOfInput search.NotAPair = ⊥
