-- What a search with two lazy DFAs returns, by what their passes report. It is defined for every two DFAs.
use Rattle.std.specs.Prelude.{ℕ, ◌<◌, ◌≤◌, Option, length}
use Rattle.automata_base.specs.Answers.Answers.{Half}
use Rattle.automata_base.specs.Haystacks.Input.{Input}
use Rattle.automata_base.specs.Haystacks.Matches.{Match}
use Rattle.automata_base.specs.Answers.Spans.{FindsStartBy, Outcome, Found, ReportsBy}
use Rattle.automata_base.specs.declared.util.search.Direction.TheVariants.{Forward, Backward}
use Rattle.automata_hybrid.specs.Searches.Passes.{IsFound}
use Rattle.regex_automata.specs.declared.hybrid.regex.Regex.{Regex}
use Rattle.regex_automata.specs.Regexes.SoundPairs.{forward_engine}

-- the start of a match, by the passes of two lazy DFAs
abbrev pub IsStartFound : Regex → Input → Half → Option ℕ → Type 0
IsStartFound p input half start = FindsStartBy (IsFound Backward p.reverse) (forward_engine p) input half start

-- what a search returns, by the passes of two lazy DFAs
abbrev pub IsOutcome : Regex → Input → Outcome → Type 0
IsOutcome p input outcome =
    ReportsBy (IsFound Forward p.forward) (IsFound Backward p.reverse) (forward_engine p) input outcome

-- a search returns this match, or none, by the passes of two lazy DFAs
abbrev pub FindsMatch : Regex → Input → Option Match → Type 0
FindsMatch p input answer = IsOutcome p input (Found answer)

-- the match lies in the span, and its pattern is one of the NFAs'
abbrev pub MatchLiesIn : Regex → Input → Match → Type 0
MatchLiesIn p input m =
    (input.start ≤ m.start) × (m.start ≤ m.end) × (m.end ≤ input.end)
    × (m.pattern < length p.forward.nfa.start_pattern)
