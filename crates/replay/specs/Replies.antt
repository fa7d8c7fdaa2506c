-- Every reply to a script is its request's own value.
use Rattle.std.specs.Prelude.{ℕ, suc, ◌≡◌, ◌==◌, ◌∷◌, [], List, length, nat_lt, Bool, if◌then◌else◌}
use Rattle.std.specs.Prelude.{Option, Some, None, Result, Ok, Err, IfErr, MatchOption, slice_get}
use Rattle.automata_base.specs.Answers.Answers.{IsOverlapping}
use Rattle.automata_base.specs.Haystacks.Input.{Input}
use Rattle.automata_base.specs.Haystacks.Matches.{HalfMatch, Match}
use Rattle.automata_base.specs.Nfas.Nodes.{nfa_of}
use Rattle.automata_base.specs.Paths.Paths.{KeepsCycles}
use Rattle.automata_base.specs.Paths.Selections.{Pair}
use Rattle.automata_base.specs.declared.util.search.Direction.{Direction}
use Rattle.automata_base.specs.declared.util.search.Direction.TheVariants.{Forward, Backward}
use Rattle.automata_config.specs.declared.error.SearchError.{SearchError}
use Rattle.automata_hybrid.specs.Machines.Machine.{Machine, engine}
use Rattle.automata_hybrid.specs.Searches.Contracts.{IsHalf, IsMemory}
use Rattle.automata_hybrid.specs.Walks.Answers.{AreWalked, half_nth}
use Rattle.replay.specs.Histories.{Begun, History, start, after, history}
use Rattle.regex_automata.specs.Spans.Contracts.{AreMatchesUpto, ArePatternsUpto, IsSpanOf, IsStep, IsTruthOf}
use Rattle.regex_automata.specs.Tokens.{AreTokensUpto}
use Rattle.regex_automata.specs.declared.hybrid.regex.Regex.{Regex}
use Rattle.replay.specs.declared.requests.Request.{Request}
use Rattle.replay.specs.declared.requests.Request.TheVariants as request
use Rattle.replay.specs.declared.requests.Reply.{Reply}
use Rattle.replay.specs.declared.requests.Reply.TheVariants as reply
use Rattle.replay.specs.declared.requests.Fault.{Fault}
use Rattle.replay.specs.declared.requests.Fault.TheVariants as fault
use Rattle.regex_automata.specs.declared.tokens.error.TokenError.{TokenError}

-- why a step is bad: there is no such walk, or it belongs to a regex that is not the current one
abbrev pub walk_fault : (current : ℕ) → Option Begun → Option Fault
walk_fault current None = Some fault.NoWalk
walk_fault current (Some w) = if w.regex == current then None else Some fault.OtherRegex

-- why a request is bad, if there are regexes: it is a bad step, or a reset whose number is out of range
abbrev pub own_fault : List Regex → History → Request → Option Fault
own_fault regexes h (request.StepWalk k) = walk_fault h.current (slice_get h.walks k)
own_fault regexes h (request.Reset k) = if nat_lt k (length regexes) then None else Some fault.NoRegex
own_fault regexes h other = None

-- why a request is bad, if it is: there are no regexes, or it is a bad step or reset
abbrev pub fault_of : List Regex → History → Request → Option Fault
fault_of [] h q = Some fault.NoRegex
fault_of (r ∷ rs) h q = own_fault (r ∷ rs) h q

-- the reply is to a search of one DFA or to a step, and its result has this property
abbrev pub OnHalf : (Result (Option HalfMatch) SearchError → Type 0) → Reply → Type 0
OnHalf P (reply.Half result) = P result
OnHalf P other = ⊥

-- the reply is to a search for a span, and its result has this property
abbrev pub OnSpan : (Result (Option Match) SearchError → Type 0) → Reply → Type 0
OnSpan P (reply.Span result) = P result
OnSpan P other = ⊥

-- the reply is to a search for whether there is a match, and its result has this property
abbrev pub OnTruth : (Result Bool SearchError → Type 0) → Reply → Type 0
OnTruth P (reply.Truth result) = P result
OnTruth P other = ⊥

-- the reply is a list of matches and the error that ended it, if one did, and they have this property
abbrev pub OnSpans : (List Match → Option SearchError → Type 0) → Reply → Type 0
OnSpans P (reply.Spans found error) = P found.items error
OnSpans P other = ⊥

-- the reply is a list of tokens and the error that ended it, if one did, and they have this property
abbrev pub OnTokens : (List Match → Option TokenError → Type 0) → Reply → Type 0
OnTokens P (reply.Tokens found error) = P found.items error
OnTokens P other = ⊥

-- the reply is to the beginning of a walk, and its result has this property
abbrev pub OnBegun : (Result ℕ SearchError → Type 0) → Reply → Type 0
OnBegun P (reply.Begun result) = P result
OnBegun P other = ⊥

-- the reply is a list of patterns and the error of their search, if it failed, and they have this property
abbrev pub OnPatterns : (List ℕ → Option SearchError → Type 0) → Reply → Type 0
OnPatterns P (reply.Patterns found error) = P found.items error
OnPatterns P other = ⊥

-- the reply is to a reset, and its result has this property
abbrev pub OnDone : (Result (Unit {0}) SearchError → Type 0) → Reply → Type 0
OnDone P (reply.Done result) = P result
OnDone P other = ⊥

-- the DFA of a walk, by its direction
abbrev pub dfa_in : Direction → Regex → Machine
dfa_in Forward r = r.forward
dfa_in Backward r = r.reverse

-- what a step of a walk returns
abbrev pub IsStepOf : Regex → Option Begun → Result (Option HalfMatch) SearchError → Type 0
IsStepOf r None result = ⊥
IsStepOf r (Some w) result = IsStep w.way (dfa_in w.way r) w.input w.reported result

-- a new walk has the next number, or there is no memory for it
abbrev pub IsNumber : ℕ → Result ℕ SearchError → Type 0
IsNumber n (Ok k) = k ≡ n
IsNumber n (Err e) = IsMemory e

-- the reply is the value of its request, as determined by the current regex alone, and for a step by its walk alone; or
-- an error that the request's own call may return
abbrev pub IsOwnValue : Regex → (walks : List Begun) → Request → Reply → Type 0
IsOwnValue r walks (request.SearchFwd input) = OnHalf (IsHalf Forward r.forward input)
IsOwnValue r walks (request.SearchRev input) = OnHalf (IsHalf Backward r.reverse input)
IsOwnValue r walks (request.Find input) = OnSpan (IsSpanOf r input)
IsOwnValue r walks (request.IsMatch input) = OnTruth (IsTruthOf r input)
IsOwnValue r walks (request.Iterate input) = OnSpans (AreMatchesUpto r input)
IsOwnValue r walks (request.Tokenise input) = OnTokens (AreTokensUpto r.forward input)
IsOwnValue r walks (request.BeginWalk way input) = OnBegun (IsNumber (length walks))
IsOwnValue r walks (request.StepWalk k) = OnHalf (IsStepOf r (slice_get walks k))
IsOwnValue r walks (request.Which capacity input) = OnPatterns (ArePatternsUpto r.forward input capacity)
IsOwnValue r walks (request.Reset k) = OnDone (λ result. IfErr result IsMemory)

-- there is a current regex, and the reply is the request's own value by it
abbrev pub IsOwnValueBy : Option Regex → (walks : List Begun) → Request → Reply → Type 0
IsOwnValueBy None walks q answer = ⊥
IsOwnValueBy (Some r) walks q answer = IsOwnValue r walks q answer

-- a reply after this history: `Bad` with the request's fault if it has one, and otherwise the request's own value
abbrev pub IsReply : List Regex → History → Request → Reply → Type 0
IsReply regexes h q answer =
    MatchOption (fault_of regexes h q)
    (IsOwnValueBy (slice_get regexes h.current) h.walks q answer)
    (λ why. answer ≡ reply.Bad why)

-- one reply for each request, each after the history that the previous ones lead to
abbrev pub AreRepliesAfter : List Regex → History → List Request → List Reply → Type 0
AreRepliesAfter regexes h [] [] = Unit {0}
AreRepliesAfter regexes h [] (r ∷ rs) = ⊥
AreRepliesAfter regexes h (q ∷ qs) [] = ⊥
AreRepliesAfter regexes h (q ∷ qs) (r ∷ rs) = IsReply regexes h q r × AreRepliesAfter regexes (after h q r) qs rs

-- one reply for each request of a script, from its beginning
abbrev pub AreReplies : List Regex → List Request → List Reply → Type 0
AreReplies regexes script replies = AreRepliesAfter regexes start script replies

-- adds a reply to the later ones, if it is an Ok reply to a step of walk `k`
abbrev pub report : ℕ → Request → Reply → List (Option HalfMatch) → List (Option HalfMatch)
report k (request.StepWalk j) (reply.Half (Ok found)) later = if j == k then found ∷ later else later
report k (request.StepWalk j) other later = later
report k q r later = later

-- the Ok replies to the steps of walk `k`, in their order
abbrev pub reported_to : ℕ → List Request → List Reply → List (Option HalfMatch)
reported_to k [] replies = []
reported_to k (q ∷ qs) [] = []
reported_to k (q ∷ qs) (r ∷ rs) = report k q r (reported_to k qs rs)

-- replies are the pairs of a list from index `reported` on, and then none
abbrev pub AreReportedFrom : ℕ → List Pair → List (Option HalfMatch) → Type 0
AreReportedFrom reported pairs [] = Unit {0}
AreReportedFrom reported pairs (found ∷ later) =
    (found ≡ half_nth pairs reported) × AreReportedFrom (suc reported) pairs later

-- the replies to a walk's steps are the pairs of the walk over an input, and then none: for every NFA the pairs that
-- its passes report (there is one such list), and if the NFA keeps its cycles those of the ordered paths
pub record ReportWalk (way : Direction) (m : Machine) (input : Input) (steps : List (Option HalfMatch)) : Type 0 where
  -- for every NFA, they are the pairs that its passes report
  pub reported : (pairs : List Pair) → AreWalked way m input pairs → AreReportedFrom 0 pairs steps
  -- if the NFA keeps its cycles, they are those of the ordered paths
  pub paths :
      KeepsCycles (nfa_of m.nfa)
      → (pairs : List Pair) → IsOverlapping way (engine m) input pairs
      → AreReportedFrom 0 pairs steps

-- the Ok replies to the steps of each walk, in their order, are the pairs of its list, and then none
abbrev pub ReportWalks : List Regex → List Request → List Reply → Type 0
ReportWalks regexes script replies =
    (k : ℕ) (w : Begun) (r : Regex)
    → slice_get (history start script replies).walks k ≡ Some w → slice_get regexes w.regex ≡ Some r
    → ReportWalk w.way (dfa_in w.way r) w.input (reported_to k script replies)
