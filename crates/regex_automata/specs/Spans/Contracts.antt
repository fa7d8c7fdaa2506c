-- What a call returns, as determined by its DFA or its regex and its input alone, whatever the cache.
use Rattle.std.specs.Prelude.{ℕ, suc, ◌≡◌, ◌<◌, ◌≤◌, ◌+◌, ◌-◌, ◌⊎◌, Bool, false, List, [], ◌∷◌, length, replicate}
use Rattle.std.specs.Prelude.{Option, Some, None, Result, Ok, Err, IfOk, IfErr, IfSome, take}
use Rattle.automata_base.specs.Answers.Answers.{IsOverlapping, ArePatterns, ArePatternsFound}
use Rattle.automata_base.specs.Haystacks.Input.{Input}
use Rattle.automata_base.specs.Haystacks.Matches.{HalfMatch, Match}
use Rattle.automata_base.specs.Nfas.Nodes.{nfa_of}
use Rattle.automata_base.specs.Paths.Paths.{KeepsCycles}
use Rattle.automata_base.specs.Paths.Selections.{Pair}
use Rattle.automata_base.specs.Answers.Spans.{AreSpans, IsMatch, IsSpan, Rise, TryFinds}
use Rattle.automata_base.specs.declared.util.search.Direction.{Direction}
use Rattle.automata_base.specs.declared.util.search.Direction.TheVariants.{Forward}
use Rattle.automata_config.specs.declared.error.SearchError.{SearchError}
use Rattle.automata_config.specs.declared.error.SearchError.TheVariants as search
use Rattle.automata_hybrid.specs.Walks.Cached.{IsOpen}
use Rattle.automata_hybrid.specs.Machines.Machine.{Machine, engine}
use Rattle.automata_hybrid.specs.Searches.Contracts.{IsMemory, IsUnhindered, IsUnsupported}
use Rattle.automata_hybrid.specs.Searches.Contracts.{unsupported_error}
use Rattle.automata_hybrid.specs.Walks.Progress.{IsOpenAfter}
use Rattle.automata_hybrid.specs.Walks.Answers.{AreWalked, HasReported, half_nth}
use Rattle.automata_hybrid.specs.Walks.State.{Ended, Walk}
use Rattle.automata_hybrid.specs.Searches.Bounds.{LiesIn}
use Rattle.regex_automata.specs.Spans.Iteration.{AreCollected, IsBeginning}
use Rattle.automata_hybrid.specs.Searches.Passes.{Skips}
use Rattle.regex_automata.specs.Spans.IsMatch.{IsMatchReported, IsNearestThere, IsTruthFound}
use Rattle.regex_automata.specs.Spans.Outcomes.{FindsMatch, MatchLiesIn}
use Rattle.regex_automata.specs.Spans.Errors.{IsFree, IsOfMemory}
use Rattle.regex_automata.specs.Regexes.SoundPairs.{BothKeepCycles, IsSoundPair, forward_engine, reverse_engine}
use Rattle.regex_automata.specs.declared.hybrid.regex.Regex.{Regex}

-- what a call of a walk returns after `reported` calls that returned Ok
pub record IsStep (way : Direction) (m : Machine) (input : Input) (reported : ℕ)
    (result : Result (Option HalfMatch) SearchError) : Type 0 where
  -- for every NFA, the next pair of the list that its passes report, and none after the last one
  pub pair : IfOk result (λ found. (pairs : List Pair) → AreWalked way m input pairs
      → found ≡ half_nth pairs reported)
  -- if the NFA keeps its cycles, the next pair of the list of the ordered paths
  pub paths :
      KeepsCycles (nfa_of m.nfa)
      → IfOk result (λ found.
      (pairs : List Pair) → IsOverlapping way (engine m) input pairs
      → found ≡ half_nth pairs reported)
  -- then the walk has reported one more, and has read no quit byte
  pub clean : IfOk result (λ found. (w : Walk) × HasReported way m input w (suc reported))
  -- it lies in the input's span, and its pattern is one of the NFA's
  pub within : IfOk result (λ found. IfSome found (LiesIn m input))
  -- a call after the end does not fail
  pub ended : (pairs : List Pair) → AreWalked way m input pairs → length pairs < reported → IfErr result (λ e. ⊥)
  -- an anchored mode that is not supported is reported
  pub unsupported : IsUnsupported way m input → result ≡ Err (unsupported_error input)
  -- if nothing prevents it, the only error is out of memory
  pub free : IsUnhindered m input → IfErr result IsMemory

-- what a search for a span returns by the passes of its two DFAs, and by its input
pub record IsSpanReported (p : Regex) (input : Input) (result : Result (Option Match) SearchError) : Type 0 where
  -- what the passes of both report
  pub found : IfOk result (FindsMatch p input)
  -- it lies in the input's span, and its pattern is one of the NFAs'
  pub within : IfOk result (λ o. IfSome o (MatchLiesIn p input))
  -- an anchored mode that is not supported is reported
  pub unsupported : IsUnsupported Forward p.forward input → result ≡ Err (unsupported_error input)
  -- if the span is done there is no match
  pub done : input.end < input.start → result ≡ Ok None

-- what a search for a span returns
pub record IsSpanOf (p : Regex) (input : Input) (result : Result (Option Match) SearchError) : Type 0 where
  -- if both NFAs keep their cycles, it is what the ordered paths through both define
  pub answer : BothKeepCycles p → IfOk result (TryFinds (forward_engine p) (reverse_engine p) input)
  -- over a sound pair, it is the span of the path that the forward search chose
  pub span : IsSoundPair p → IfOk result (IsSpan (forward_engine p) input)
  -- it lies in the input's span, and its pattern is one of the NFAs'
  pub within : IfOk result (λ o. IfSome o (MatchLiesIn p input))
  -- an anchored mode that is not supported is reported
  pub unsupported : IsUnsupported Forward p.forward input → result ≡ Err (unsupported_error input)
  -- if nothing prevents a search of either DFA, the only errors are out of memory and `NotAPair`
  pub free : IsFree p input → IfErr result IsOfMemory
  -- over a sound pair, the only error is then out of memory
  pub paired : IsSoundPair p → IsFree p input → IfErr result IsMemory
  -- if the span is done there is no match
  pub done : input.end < input.start → result ≡ Ok None

-- whether there is a match by the passes of the forward DFA, for every NFA
pub record IsTruthReported (m : Machine) (input : Input) (truth : Bool) : Type 0 where
  -- it is whether the search finds a match; its passes read no quit byte
  pub found : IsTruthFound m input truth
  -- it is also whether the passes over the input, not earliest, report a match
  pub reported : IsMatchReported m input truth

-- what a search for whether there is a match returns
pub record IsTruthOf (p : Regex) (input : Input) (result : Result Bool SearchError) : Type 0 where
  -- if the NFA keeps its cycles, whether the ordered paths have an answer
  pub answer : KeepsCycles (nfa_of p.forward.nfa) → IfOk result (IsMatch (forward_engine p) input)
  -- for every NFA, if no offset is skipped, whether an earliest search has a nearest end
  pub nearest : (Skips p.forward → ⊥) → IfOk result (IsNearestThere p.forward input)
  -- an anchored mode that is not supported is reported
  pub unsupported : IsUnsupported Forward p.forward input → result ≡ Err (unsupported_error input)
  -- if nothing prevents it, the only error is out of memory
  pub free : IsUnhindered p.forward input → IfErr result IsMemory
  -- if the span is done there is no match
  pub done : input.end < input.start → result ≡ Ok false

-- if the anchored mode is not supported, the item of an iteration that has not ended is that error
abbrev pub ReportsUnsupported : Regex → Input → (ended : Bool) → Option (Result Match SearchError) → Type 0
ReportsUnsupported p input ended item =
    ended ≡ false → IsUnsupported Forward p.forward input → item ≡ Some (Err (unsupported_error input))

-- the matches of an input, one after another; or the first ones, and the error that ended them
pub record AreMatchesUpto (p : Regex) (input : Input) (ms : List Match) (error : Option SearchError) : Type 0 where
  -- if both NFAs keep their cycles, what the ordered paths through both define
  pub answers : BothKeepCycles p → AreCollected (TryFinds (forward_engine p) (reverse_engine p)) input ms error
  -- over a sound pair, the spans of the paths: all of them, or the first ones if there is an error
  pub spans : IsSoundPair p → AreCollected (IsSpan (forward_engine p)) input ms error
  -- over a sound pair, the list of all spans begins with these
  pub beginning :
      IsSoundPair p → (whole : List Match) → AreSpans (forward_engine p) input whole → IsBeginning ms whole
  -- each starts at or after the end of the previous one and ends after it, in the span
  pub rise : Rise input.end None ms
  -- their number is at most the length of the span plus one
  pub few : length ms ≤ input.end - input.start + 1
  -- if the anchored mode is not supported, there are no matches, and that is the error
  pub unsupported :
      IsUnsupported Forward p.forward input → (ms ≡ []) × (error ≡ Some (unsupported_error input))
  -- over a sound pair, if nothing prevents a search of either DFA, the only error is out of memory
  pub free : IsSoundPair p → IsFree p input → IfSome error IsMemory

-- each number is at least `low`, and greater than the previous one
abbrev pub AreRising : (low : ℕ) → List ℕ → Type 0
AreRising low [] = Unit {0}
AreRising low (k ∷ ks) = (low ≤ k) × AreRising (suc k) ks

-- an empty set with this capacity
abbrev pub empty_set : (capacity : ℕ) → List Bool
empty_set capacity = replicate capacity false

-- the walk that fills a set has made calls until it ended or the set could take no more; it read no quit byte
pub record HasReportedSet (m : Machine) (input : Input) (set : List Bool) : Type 0 where
  -- how many calls it has made
  pub calls : ℕ
  -- the walk after them
  pub walk : Walk
  -- they have reported as many pairs, or all of them if there are fewer
  pub reported : HasReported Forward m input walk calls
  -- the set could take more before each of them
  pub on : (k : ℕ) → k < calls → IsOpenAfter m input set k
  -- the walk has ended, or the set takes no more
  pub last :
      (walk.stage ≡ Ended)
      ⊎ ((pairs : List Pair) → AreWalked Forward m input pairs → IsOpen input set (take calls pairs) → ⊥)

-- the patterns below a capacity that the passes report, for every NFA
pub record ArePatternsReported (m : Machine) (input : Input) (capacity : ℕ) (found : List ℕ) : Type 0 where
  -- they are the patterns of the walk
  pub reported : ArePatterns (AreWalked Forward m input) input capacity [] found
  -- no unit that was read for them is a quit byte
  pub clean : HasReportedSet m input (empty_set capacity)

-- the patterns below a capacity of all overlapping matches, or for an earliest input of the first one; or those
-- reported before the error
pub record ArePatternsUpto (m : Machine) (input : Input) (capacity : ℕ) (found : List ℕ)
    (error : Option SearchError) : Type 0 where
  -- in increasing order
  pub rise : AreRising 0 found
  -- if the NFA keeps its cycles and there is no error, those of the ordered paths
  pub paths :
      KeepsCycles (nfa_of m.nfa) → error ≡ None
      → ArePatternsFound (engine m) input capacity [] found
  -- if the anchored mode is not supported there are none, and the error is that, or out of memory for the set or the
  -- list
  pub unsupported :
      IsUnsupported Forward m input
      → (found ≡ []) × ((error ≡ Some (unsupported_error input)) ⊎ (error ≡ Some search.OutOfMemory))
  -- if the span is done there are none
  pub done : input.end < input.start → (found ≡ []) × IfSome error IsMemory
  -- if nothing prevents it, the only error is out of memory
  pub free : IsUnhindered m input → IfSome error IsMemory
