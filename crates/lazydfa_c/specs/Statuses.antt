-- The status of each error.
use Rattle.std.specs.Prelude.{ℕ, Result, Ok, Err}
use Rattle.automata_base.specs.declared.nfa.thompson.state.NfaError.{NfaError}
use Rattle.automata_base.specs.declared.nfa.thompson.state.NfaError.TheVariants as nfa
use Rattle.automata_base.specs.declared.nfa.thompson.building.BuildError.{BuildError as BuilderError}
use Rattle.automata_base.specs.declared.nfa.thompson.building.BuildError.TheVariants as builder
use Rattle.automata_base.specs.declared.util.search.MatchErrorKind.TheVariants.{GaveUp, Quit, UnsupportedAnchored}
use Rattle.automata_config.specs.declared.error.BuildError.{BuildError}
use Rattle.automata_config.specs.declared.error.BuildError.TheVariants as dfa
use Rattle.automata_config.specs.declared.error.SearchError.{SearchError}
use Rattle.automata_config.specs.declared.error.SearchError.TheVariants.{Match, NotAPair, OutOfMemory}
use Rattle.automata_config.specs.declared.error.StartError.{StartError}
use Rattle.automata_config.specs.declared.error.StartError.TheVariants as start
use Rattle.automata_hybrid.specs.declared.search.pieces.BeginError.{BeginError}
use Rattle.automata_hybrid.specs.declared.search.pieces.BeginError.TheVariants as begin
use Rattle.patterns.specs.declared.error.Fault.{Fault}
use Rattle.patterns.specs.declared.error.Fault.TheVariants as fault
use Rattle.patterns.specs.declared.error.Fault.TheVariants.{Syntax, UnicodeWord, TooLarge, Malformed, Refused, Unbuilt}
use Rattle.regex_automata.specs.declared.hybrid.regex.build.RegexBuildError.{RegexBuildError}
use Rattle.regex_automata.specs.declared.hybrid.regex.build.RegexBuildError.TheVariants as regex
use Rattle.regex_automata.specs.declared.tokens.error.TokenError.{TokenError}
use Rattle.regex_automata.specs.declared.tokens.error.TokenError.TheVariants.{NoToken, Search}
use Rattle.lazydfa_c.specs.Codes.{number_of}
use Rattle.lazydfa_c.specs.declared.code.Code.{Code}
use Rattle.lazydfa_c.specs.declared.code.Code.TheVariants as code
use Rattle.lazydfa_c.specs.declared.status.Status.{Status}

-- the status of a code with an offset
abbrev pub status_at : Code → (offset : ℕ) → Status
status_at c offset = record { code = number_of c; byte = 0; offset = offset }

-- the status of a code alone
abbrev pub plain : Code → Status
plain c = status_at c 0

-- the status of a call that returns no value
abbrev pub done_status : Result (Unit {0}) Status → Status
done_status (Ok u) = plain code.Done
done_status (Err status) = status

-- the code of an error in the states of an NFA
abbrev pub nfa_code : NfaError → Code
nfa_code nfa.StateRange = code.StateRange
nfa_code nfa.StartRange = code.StartRange
nfa_code nfa.PatternRange = code.PatternRange
nfa_code nfa.Ranges = code.Ranges
nfa_code nfa.TooLarge = code.TooLarge
nfa_code nfa.OutOfMemory = code.Memory

-- the code of an error of a builder of NFAs
abbrev pub builder_code : BuilderError → Code
builder_code builder.NoPattern = code.NoPattern
builder_code builder.UnfinishedPattern = code.UnfinishedPattern
builder_code builder.StateRange = code.PatchRange
builder_code builder.SparsePatch = code.SparsePatch
builder_code builder.TooLarge = code.TooLarge
builder_code builder.OutOfMemory = code.Memory
builder_code (builder.NFA e) = nfa_code e

-- the status of an error of a builder of NFAs: its code, without an offset
abbrev pub builder_status : BuilderError → Status
builder_status e = plain (builder_code e)

-- the status of an error of building a DFA; if the capacity is too small, the offset is the minimum that the error
-- names
abbrev pub build_status : BuildError → Status
build_status dfa.Unsupported = plain code.Unsupported
build_status (dfa.InsufficientCacheCapacity minimum given) = status_at code.Capacity minimum
build_status (dfa.InsufficientStateIDCapacity attempted) = status_at code.StateIDs attempted
build_status dfa.OutOfMemory = plain code.Memory
build_status (dfa.PatternCounts forward reverse) = plain code.PatternCounts

-- the status of an error of building a regex
abbrev pub regex_status : RegexBuildError → Status
regex_status regex.NotLazy = plain code.NotLazy
regex_status regex.NotUtf8 = plain code.NotUtf8
regex_status regex.Starts = plain code.Starts
regex_status regex.TooLarge = plain code.TooLarge
regex_status regex.OutOfMemory = plain code.Memory
regex_status (regex.Build e) = build_status e

-- the status of an error of a search
abbrev pub search_status : SearchError → Status
search_status (Match (Quit byte offset)) = record { code = number_of code.Quit; byte = byte; offset = offset }
search_status (Match (GaveUp offset)) = status_at code.GaveUp offset
search_status (Match (UnsupportedAnchored mode)) = plain code.Anchored
search_status OutOfMemory = plain code.Memory
search_status NotAPair = plain code.NotAPair

-- the status of an error of the start state for the first piece; its offset is 0, since the byte before the piece has
-- none
abbrev pub start_status : StartError → Status
start_status (start.Cache err) = status_at code.GaveUp 0
start_status (start.Quit byte) = record { code = number_of code.Quit; byte = byte; offset = 0 }
start_status (start.UnsupportedAnchored mode) = plain code.Anchored
start_status start.OutOfMemory = plain code.Memory

-- the status of an error of beginning a search in pieces
abbrev pub begin_status : BeginError → Status
begin_status begin.Skips = plain code.Skips
begin_status (begin.Start e) = start_status e

-- the status of an error in place of a token
abbrev pub token_status : TokenError → Status
token_status (NoToken offset) = status_at code.NoToken offset
token_status (Search e) = search_status e

-- the status of what is wrong with a pattern: a syntax error has the offset at which its part of the text begins
abbrev pub fault_status : Fault → Status
fault_status (Syntax error) = status_at code.Syntax error.span.start
fault_status UnicodeWord = plain code.Unsupported
fault_status TooLarge = plain code.TooLarge
fault_status Malformed = plain code.NotCompiled
fault_status (Refused error) = plain (nfa_code error)
fault_status (Unbuilt error) = regex_status error
fault_status fault.OutOfMemory = plain code.Memory
