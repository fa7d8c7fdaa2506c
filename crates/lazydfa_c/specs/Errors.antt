-- What a status reports of an error: all of it, except for values that the caller gave, and errors that share a code.
use Rattle.std.specs.Prelude.{◌≡◌, ◌<◌}
use Rattle.automata_base.specs.declared.nfa.thompson.state.NfaError.TheVariants as nfa
use Rattle.automata_base.specs.declared.nfa.thompson.building.BuildError.{BuildError as BuilderError}
use Rattle.automata_base.specs.declared.nfa.thompson.building.BuildError.TheVariants as builder
use Rattle.automata_base.specs.declared.util.search.Anchored.TheVariants.{No}
use Rattle.automata_base.specs.declared.util.search.MatchErrorKind.TheVariants.{GaveUp, Quit, UnsupportedAnchored}
use Rattle.automata_config.specs.declared.error.BuildError.{BuildError}
use Rattle.automata_config.specs.declared.error.BuildError.TheVariants as dfa
use Rattle.automata_config.specs.declared.error.SearchError.{SearchError}
use Rattle.automata_config.specs.declared.error.SearchError.TheVariants.{Match, NotAPair, OutOfMemory}
use Rattle.automata_config.specs.declared.error.StartError.TheVariants as start
use Rattle.automata_hybrid.specs.declared.search.pieces.BeginError.{BeginError}
use Rattle.automata_hybrid.specs.declared.search.pieces.BeginError.TheVariants as begin
use Rattle.regex_automata.specs.declared.hybrid.regex.build.RegexBuildError.{RegexBuildError}
use Rattle.regex_automata.specs.declared.hybrid.regex.build.RegexBuildError.TheVariants as regex
use Rattle.regex_automata.specs.declared.tokens.error.TokenError.{TokenError}
use Rattle.regex_automata.specs.declared.tokens.error.TokenError.TheVariants.{NoToken, Search}
use Rattle.lazydfa_c.specs.Codes.{number_of}
use Rattle.lazydfa_c.specs.declared.code.Code.TheVariants as code
use Rattle.lazydfa_c.specs.declared.status.Status.{Status}

-- what is reported of a builder's error: too many states, and out of memory, are reported alike wherever they arise
abbrev pub told_builder : BuilderError → BuilderError
told_builder builder.NoPattern = builder.NoPattern
told_builder builder.UnfinishedPattern = builder.UnfinishedPattern
told_builder builder.StateRange = builder.StateRange
told_builder builder.SparsePatch = builder.SparsePatch
told_builder builder.TooLarge = builder.TooLarge
told_builder builder.OutOfMemory = builder.OutOfMemory
told_builder (builder.NFA nfa.StateRange) = builder.NFA nfa.StateRange
told_builder (builder.NFA nfa.StartRange) = builder.NFA nfa.StartRange
told_builder (builder.NFA nfa.PatternRange) = builder.NFA nfa.PatternRange
told_builder (builder.NFA nfa.Ranges) = builder.NFA nfa.Ranges
told_builder (builder.NFA nfa.TooLarge) = builder.TooLarge
told_builder (builder.NFA nfa.OutOfMemory) = builder.OutOfMemory

-- what is reported of an error of building a DFA: neither the given capacity nor the two NFAs' numbers of patterns
abbrev pub told_build : BuildError → BuildError
told_build dfa.Unsupported = dfa.Unsupported
told_build (dfa.InsufficientCacheCapacity minimum given) = dfa.InsufficientCacheCapacity minimum 0
told_build (dfa.InsufficientStateIDCapacity attempted) = dfa.InsufficientStateIDCapacity attempted
told_build dfa.OutOfMemory = dfa.OutOfMemory
told_build (dfa.PatternCounts forward reverse) = dfa.PatternCounts 0 0

-- what is reported of an error of building a regex: out of memory is reported alike wherever it arises
abbrev pub told_regex : RegexBuildError → RegexBuildError
told_regex regex.NotLazy = regex.NotLazy
told_regex regex.NotUtf8 = regex.NotUtf8
told_regex regex.Starts = regex.Starts
told_regex regex.TooLarge = regex.TooLarge
told_regex regex.OutOfMemory = regex.OutOfMemory
told_regex (regex.Build dfa.Unsupported) = regex.Build dfa.Unsupported
told_regex (regex.Build (dfa.InsufficientCacheCapacity minimum given)) =
    regex.Build (dfa.InsufficientCacheCapacity minimum 0)
told_regex (regex.Build (dfa.InsufficientStateIDCapacity attempted)) =
    regex.Build (dfa.InsufficientStateIDCapacity attempted)
told_regex (regex.Build dfa.OutOfMemory) = regex.OutOfMemory
told_regex (regex.Build (dfa.PatternCounts forward reverse)) = regex.Build (dfa.PatternCounts 0 0)

-- what is reported of an error of a search: not the unsupported anchored mode, which the caller gave
abbrev pub told_search : SearchError → SearchError
told_search (Match (Quit byte offset)) = Match (Quit byte offset)
told_search (Match (GaveUp offset)) = Match (GaveUp offset)
told_search (Match (UnsupportedAnchored mode)) = Match (UnsupportedAnchored No)
told_search OutOfMemory = OutOfMemory
told_search NotAPair = NotAPair

-- what is reported of an error of beginning a search in pieces: not the unsupported anchored mode, which the caller
-- gave
abbrev pub told_begin : BeginError → BeginError
told_begin begin.Skips = begin.Skips
told_begin (begin.Start (start.Cache err)) = begin.Start (start.Cache err)
told_begin (begin.Start (start.Quit byte)) = begin.Start (start.Quit byte)
told_begin (begin.Start (start.UnsupportedAnchored mode)) = begin.Start (start.UnsupportedAnchored No)
told_begin (begin.Start start.OutOfMemory) = begin.Start start.OutOfMemory

-- what is reported of an error in place of a token: not the unsupported anchored mode
abbrev pub told_token : TokenError → TokenError
told_token (NoToken offset) = NoToken offset
told_token (Search (Match (Quit byte offset))) = Search (Match (Quit byte offset))
told_token (Search (Match (GaveUp offset))) = Search (Match (GaveUp offset))
told_token (Search (Match (UnsupportedAnchored mode))) = Search (Match (UnsupportedAnchored No))
told_token (Search OutOfMemory) = Search OutOfMemory
told_token (Search NotAPair) = Search NotAPair

-- the statuses of the errors of one call: none is the status of a success, of no match, or of an invalid handle or
-- argument; and two errors have the same status only if the same is reported of both
pub record TellErrors {E : Type 0} (status : E → Status) (told : E → E) : Type 0 where
  -- the code of an error is none of the codes of a success, of no match, of handles and of arguments
  pub fails : (e : E) → number_of code.Argument < (status e).code
  -- two errors with the same status are equal, except for what a status does not report
  pub differ : (e f : E) → status e ≡ status f → told e ≡ told f
