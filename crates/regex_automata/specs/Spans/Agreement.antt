-- How the answers of searches over two lazy DFAs agree.
use Rattle.std.specs.Prelude.{◌≡◌, ◌⊎◌, Bool, Option, false, is_some}
use Rattle.automata_base.specs.Haystacks.Input.{Input}
use Rattle.automata_base.specs.Haystacks.Matches.{Match}
use Rattle.automata_hybrid.specs.Machines.Machine.{Machine}
use Rattle.automata_hybrid.specs.Searches.Passes.{Skips}
use Rattle.regex_automata.specs.Spans.IsMatch.{IsMatchReported}
use Rattle.regex_automata.specs.Spans.Outcomes.{FindsMatch}
use Rattle.regex_automata.specs.declared.hybrid.regex.Regex.{Regex}
use Rattle.automata_config.specs.Options.{match_kind_of}

-- two regexes have the same NFAs and match kinds; their DFAs may differ in capacity, limits, byte classes, tags of
-- start states and quit bytes
pub record AreAlike (p other : Regex) : Type 0 where
  -- the forward NFAs are the same
  pub forward : p.forward.nfa ≡ other.forward.nfa
  -- the match kinds of the forward DFAs are the same
  pub forward_kind : match_kind_of p.forward.config ≡ match_kind_of other.forward.config
  -- the reverse NFAs are the same
  pub reverse : p.reverse.nfa ≡ other.reverse.nfa
  -- the match kinds of the reverse DFAs are the same
  pub reverse_kind : match_kind_of p.reverse.config ≡ match_kind_of other.reverse.config

-- searches over any caches of one regex find the same match, and so do two regexes that are alike
abbrev pub MatchesAgree : Type 0
MatchesAgree =
    (p other : Regex) (input : Input) (first second : Option Match)
    → AreAlike p other → FindsMatch p input first → FindsMatch other input second → first ≡ second

-- searches for whether there is a match return the same over any caches of DFAs of one forward NFA and match kind
abbrev pub TruthsAgree : Type 0
TruthsAgree =
    (m other : Machine) (input : Input) (first second : Bool)
    → m.nfa ≡ other.nfa → match_kind_of m.config ≡ match_kind_of other.config
    → IsMatchReported m input first → IsMatchReported other input second
    → first ≡ second

-- if the input is not earliest or no offset is skipped, there is a match exactly if a search finds one
abbrev pub TruthIffFound : Type 0
TruthIffFound =
    (p : Regex) (input : Input) (truth : Bool) (answer : Option Match)
    → (input.earliest ≡ false) ⊎ (Skips p.forward → ⊥)
    → IsMatchReported p.forward input truth → FindsMatch p input answer → truth ≡ is_some answer
