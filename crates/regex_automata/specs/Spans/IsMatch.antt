-- Whether there is a match.
use Rattle.std.specs.Prelude.{◌≡◌, Bool, true, Option, is_some}
use Rattle.automata_base.specs.Answers.Answers.{Answers, Half}
use Rattle.automata_base.specs.Haystacks.Input.{Input}
use Rattle.automata_base.specs.Answers.Spans.{in_full}
use Rattle.automata_base.specs.declared.util.search.Direction.TheVariants.{Forward}
use Rattle.automata_base.specs.Answers.OfPasses.{IsNearestAnswer}
use Rattle.automata_base.specs.Paths.Selections.{Pair}
use Rattle.automata_hybrid.specs.Machines.Machine.{Machine, engine}
use Rattle.automata_hybrid.specs.Searches.Passes.{IsFound, Skips, report_in}

-- the input with `earliest` set
abbrev pub in_part : Input → Input
in_part input = record input { earliest = true }

-- the input that is searched to see whether there is a match
pub data IsAsked (m : Machine) (input asked : Input) : Type 0 where
  -- offsets inside characters are skipped: it is the input, not earliest
  AsksInFull : Skips m → asked ≡ in_full input → IsAsked m input asked
  -- no offset is skipped: it is the input, earliest
  AsksInPart : (Skips m → ⊥) → asked ≡ in_part input → IsAsked m input asked

-- whether there is a match, by what a search finds; none of its passes read a quit byte
pub record IsTruthFound (m : Machine) (input : Input) (truth : Bool) : Type 0 where
  -- the input that is searched
  pub asked : Input
  -- it is not earliest if offsets inside characters are skipped, and otherwise earliest
  pub is : IsAsked m input asked
  -- what the search finds
  pub answer : Option Half
  -- its passes report it
  pub found : IsFound Forward m asked answer
  -- there is a match exactly if it finds one
  pub same : truth ≡ is_some answer

-- a forward pass over the span of an input reports this
abbrev pub ReportsForward : Machine → Input → Option Pair → Type 0
ReportsForward m input reported = reported ≡ report_in Forward m input

-- whether there is a match, by what passes over the input, not earliest, report
abbrev pub IsMatchReported : Machine → Input → Bool → Type 0
IsMatchReported m input truth =
    (o : Option Half) × Answers (ReportsForward m) (Skips m) Forward (in_full input) o × (truth ≡ is_some o)

-- whether there is a match, by the nearest end of an accepting path, which an earliest search finds
abbrev pub IsNearestThere : Machine → Input → Bool → Type 0
IsNearestThere m input truth =
    (o : Option Half) × IsNearestAnswer Forward (engine m) (in_part input) o
    × (truth ≡ is_some o)
