-- What the search for a set adds to the set, by passes and by paths.
use Rattle.std.specs.Prelude.{◌≡◌, ◌<◌, Bool, List, length, Result, Err, IsOk, OnOk}
use Rattle.automata_base.specs.Answers.Answers.{ArePatternsFound}
use Rattle.automata_base.specs.Haystacks.Input.{Input}
use Rattle.automata_base.specs.Nfas.Nodes.{nfa_of}
use Rattle.automata_base.specs.Paths.Paths.{KeepsCycles}
use Rattle.automata_base.specs.Haystacks.PatternSet.{members}
use Rattle.automata_base.specs.declared.util.search.Direction.TheVariants.{Forward}
use Rattle.automata_config.specs.declared.error.SearchError.{SearchError}
use Rattle.automata_hybrid.specs.Machines.Machine.{Machine, engine}
use Rattle.automata_hybrid.specs.Searches.Contracts.{IsUnsupported, unsupported_error}
use Rattle.automata_hybrid.specs.Walks.Contracts.{JoinsReported}

-- what is added to a set, by passes and by paths
pub record IsSetReported (m : Machine) (input : Input) (old new : List Bool)
    (result : Result (Unit {0}) SearchError) : Type 0 where
  -- for every NFA, the set is joined with the patterns that the walk reports
  pub found : OnOk result (JoinsReported m input old new)
  -- if the NFA keeps its cycles, it is joined with the patterns of the ordered paths
  pub paths :
      KeepsCycles (nfa_of m.nfa)
      → OnOk result (ArePatternsFound (engine m) input (length old) (members old)
      (members new))
  -- the capacity of the set is unchanged
  pub capacity : length new ≡ length old
  -- an anchored mode that is not supported is reported, and the set is unchanged
  pub unsupported : IsUnsupported Forward m input → (result ≡ Err (unsupported_error input)) × (new ≡ old)
  -- if the span is done, the set is unchanged too, and the call returns Ok
  pub done : input.end < input.start → IsOk result × (new ≡ old)
