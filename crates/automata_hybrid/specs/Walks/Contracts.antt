-- What a call of a walk, and the search for a set, answer by their DFA and their input only, whatever the cache, and
-- their effect on the walk and on the set.
use Rattle.std.specs.Prelude.{ℕ, ◌≡◌, ◌<◌, Bool, List, length, None, Result, Err, IfErr, IfSome, IsOk, OnOk, OnErr}
use Rattle.automata_base.specs.Answers.Answers.{ArePatterns, ArePatternsFound, IsOverlapping}
use Rattle.automata_base.specs.Haystacks.Input.{Input}
use Rattle.automata_base.specs.Nfas.Nodes.{nfa_of}
use Rattle.automata_base.specs.Paths.Paths.{KeepsCycles}
use Rattle.automata_base.specs.Haystacks.PatternSet.{members}
use Rattle.automata_base.specs.Paths.Selections.{Pair}
use Rattle.automata_base.specs.declared.util.search.Direction.{Direction}
use Rattle.automata_base.specs.declared.util.search.Direction.TheVariants.{Forward}
use Rattle.automata_config.specs.declared.error.SearchError.{SearchError}
use Rattle.automata_hybrid.specs.Machines.Machine.{Machine, engine}
use Rattle.automata_hybrid.specs.Searches.Contracts.{IsMemory, IsUnhindered, IsUnsupported, unsupported_error}
use Rattle.automata_hybrid.specs.Walks.Progress.{ReadsNoUnit}
use Rattle.automata_hybrid.specs.Walks.Answers.{AreWalked, HasReported, ReportsNext, half_nth}
use Rattle.automata_hybrid.specs.Walks.State.{Ended, Fresh, Walk, without_match}
use Rattle.automata_hybrid.specs.Searches.Bounds.{LiesIn}

-- what a call of a walk answers, and its effect on the walk
pub record IsWalkCall (way : Direction) (m : Machine) (input : Input) (old new : Walk)
    (result : Result (Unit {0}) SearchError) : Type 0 where
  -- for every NFA, the next pair that its pass reports
  pub reports : OnOk result (ReportsNext way m input old new)
  -- if the NFA keeps its cycles, the next pair of the list that the ordered paths define
  pub paths :
      KeepsCycles (nfa_of m.nfa) → (k : ℕ) (pairs : List Pair) → HasReported way m input old k
      → IsOverlapping way (engine m) input pairs
      → OnOk result (new.found ≡ half_nth pairs k)
  -- it lies in the input's span, and its pattern is one of the NFA's
  pub within : IfSome new.found (LiesIn m input)
  -- a walk that has ended has no match: it ends by the call after the last one
  pub ended : new.stage ≡ Ended → new.found ≡ None
  -- a walk whose call fails is unchanged, except that it has no match
  pub refused : OnErr result (new ≡ without_match old)
  -- if the walk has not begun, an anchored mode that is not supported is reported
  pub unsupported : old.stage ≡ Fresh → IsUnsupported way m input → result ≡ Err (unsupported_error input)
  -- if nothing else can prevent an answer, the only error is out of memory
  pub free : IsUnhindered m input → IfErr result IsMemory
  -- a call that reads no unit never fails
  pub ready : ReadsNoUnit input old → IfErr result (λ e. ⊥)

-- for every NFA, a set is joined with the patterns below its capacity that the walk reports
abbrev pub JoinsReported : Machine → Input → (old new : List Bool) → Type 0
JoinsReported m input old new =
    ArePatterns (AreWalked Forward m input) input (length old) (members old) (members new)

-- what a call that joins a set returns
pub record IsWhich (m : Machine) (input : Input) (old new : List Bool)
    (result : Result (Unit {0}) SearchError) : Type 0 where
  -- if the NFA keeps its cycles, the set is joined with the patterns below its capacity that the ordered paths report
  pub paths :
      KeepsCycles (nfa_of m.nfa)
      → OnOk result (ArePatternsFound (engine m) input (length old) (members old)
      (members new))
  -- the capacity of the set is unchanged
  pub capacity : length new ≡ length old
  -- an anchored mode that is not supported is reported, and the set is unchanged
  pub unsupported : IsUnsupported Forward m input → (result ≡ Err (unsupported_error input)) × (new ≡ old)
  -- if the span is done, the set is unchanged too, and the call returns Ok
  pub done : input.end < input.start → IsOk result × (new ≡ old)
  -- if nothing else can prevent an answer, the only error is out of memory
  pub free : IsUnhindered m input → IfErr result IsMemory
