-- A status determines what is reported of its error.
use Rattle.std.proofs.Common.{◌≡◌, ◌==◌, ◌<◌, if◌then◌else◌, ap, refl, arith}
use Rattle.automata_base.specs.declared.nfa.thompson.state.NfaError.TheVariants as nfa
use Rattle.automata_base.specs.declared.nfa.thompson.building.BuildError.{BuildError as BuilderError}
use Rattle.automata_base.specs.declared.nfa.thompson.building.BuildError.TheVariants as builder
use Rattle.automata_base.specs.declared.util.search.Anchored.TheVariants.{No}
use Rattle.automata_base.specs.declared.util.search.MatchErrorKind.TheVariants.{GaveUp, Quit, UnsupportedAnchored}
use Rattle.automata_config.specs.declared.error.BuildError.{BuildError}
use Rattle.automata_config.specs.declared.error.BuildError.TheVariants as dfa
use Rattle.automata_config.specs.declared.error.SearchError.{SearchError}
use Rattle.automata_config.specs.declared.error.SearchError.TheVariants.{Match, NotAPair, OutOfMemory}
use Rattle.automata_config.specs.declared.error.StartError.TheVariants as start
use Rattle.automata_hybrid.specs.declared.search.pieces.BeginError.{BeginError}
use Rattle.automata_hybrid.specs.declared.search.pieces.BeginError.TheVariants as begin
use Rattle.regex_automata.specs.declared.hybrid.regex.build.RegexBuildError.{RegexBuildError}
use Rattle.regex_automata.specs.declared.hybrid.regex.build.RegexBuildError.TheVariants as regex
use Rattle.regex_automata.specs.declared.tokens.error.TokenError.{TokenError}
use Rattle.regex_automata.specs.declared.tokens.error.TokenError.TheVariants.{NoToken, Search}
use Rattle.lazydfa_c.specs.Codes.{number_of}
use Rattle.lazydfa_c.specs.Errors.{TellErrors, told_begin, told_build, told_builder, told_regex, told_search}
use Rattle.lazydfa_c.specs.Errors.{told_token}
use Rattle.lazydfa_c.specs.Statuses.{begin_status, build_status, builder_status, regex_status, search_status}
use Rattle.lazydfa_c.specs.Statuses.{token_status}
use Rattle.lazydfa_c.specs.declared.code.Code.TheVariants as code
use Rattle.lazydfa_c.specs.declared.status.Status.{Status}

-- the error of a status; if there is none, an arbitrary error
abbrev builder_of : Status → BuilderError
builder_of s =
    if s.code == 10 then builder.NoPattern else
    if s.code == 11 then builder.UnfinishedPattern else
    if s.code == 12 then builder.StateRange else
    if s.code == 13 then builder.SparsePatch else
    if s.code == 14 then builder.TooLarge else
    if s.code == 15 then builder.NFA nfa.StateRange else
    if s.code == 16 then builder.NFA nfa.StartRange else
    if s.code == 17 then builder.NFA nfa.PatternRange else
    if s.code == 18 then builder.NFA nfa.Ranges else
    builder.OutOfMemory

abbrev build_of : Status → BuildError
build_of s =
    if s.code == 24 then dfa.Unsupported else
    if s.code == 25 then dfa.InsufficientCacheCapacity s.offset 0 else
    if s.code == 26 then dfa.InsufficientStateIDCapacity s.offset else
    if s.code == 27 then dfa.PatternCounts 0 0 else
    dfa.OutOfMemory

abbrev regex_of : Status → RegexBuildError
regex_of s =
    if s.code == 6 then regex.OutOfMemory else
    if s.code == 14 then regex.TooLarge else
    if s.code == 20 then regex.NotLazy else
    if s.code == 22 then regex.NotUtf8 else
    if s.code == 23 then regex.Starts else
    regex.Build (build_of s)

abbrev search_of : Status → SearchError
search_of s =
    if s.code == 30 then Match (Quit s.byte s.offset) else
    if s.code == 31 then Match (GaveUp s.offset) else
    if s.code == 32 then Match (UnsupportedAnchored No) else
    if s.code == 33 then NotAPair else
    OutOfMemory

abbrev begin_of : Status → BeginError
begin_of s =
    if s.code == 30 then begin.Start (start.Quit s.byte) else
    if s.code == 31 then begin.Start (start.Cache (record {})) else
    if s.code == 32 then begin.Start (start.UnsupportedAnchored No) else
    if s.code == 35 then begin.Skips else
    begin.Start start.OutOfMemory

abbrev token_of : Status → TokenError
token_of s = if s.code == 34 then NoToken s.offset else Search (search_of s)

builder_back : (e : BuilderError) → builder_of (builder_status e) ≡ told_builder e
builder_back builder.NoPattern = refl
builder_back builder.UnfinishedPattern = refl
builder_back builder.StateRange = refl
builder_back builder.SparsePatch = refl
builder_back builder.TooLarge = refl
builder_back builder.OutOfMemory = refl
builder_back (builder.NFA nfa.StateRange) = refl
builder_back (builder.NFA nfa.StartRange) = refl
builder_back (builder.NFA nfa.PatternRange) = refl
builder_back (builder.NFA nfa.Ranges) = refl
builder_back (builder.NFA nfa.TooLarge) = refl
builder_back (builder.NFA nfa.OutOfMemory) = refl

build_back : (e : BuildError) → build_of (build_status e) ≡ told_build e
build_back dfa.Unsupported = refl
build_back (dfa.InsufficientCacheCapacity minimum given) = refl
build_back (dfa.InsufficientStateIDCapacity attempted) = refl
build_back dfa.OutOfMemory = refl
build_back (dfa.PatternCounts forward reverse) = refl

regex_back : (e : RegexBuildError) → regex_of (regex_status e) ≡ told_regex e
regex_back regex.NotLazy = refl
regex_back regex.NotUtf8 = refl
regex_back regex.Starts = refl
regex_back regex.TooLarge = refl
regex_back regex.OutOfMemory = refl
regex_back (regex.Build dfa.Unsupported) = refl
regex_back (regex.Build (dfa.InsufficientCacheCapacity minimum given)) = refl
regex_back (regex.Build (dfa.InsufficientStateIDCapacity attempted)) = refl
regex_back (regex.Build dfa.OutOfMemory) = refl
regex_back (regex.Build (dfa.PatternCounts forward reverse)) = refl

search_back : (e : SearchError) → search_of (search_status e) ≡ told_search e
search_back (Match (Quit byte offset)) = refl
search_back (Match (GaveUp offset)) = refl
search_back (Match (UnsupportedAnchored mode)) = refl
search_back OutOfMemory = refl
search_back NotAPair = refl

begin_back : (e : BeginError) → begin_of (begin_status e) ≡ told_begin e
begin_back begin.Skips = refl
begin_back (begin.Start (start.Cache err)) = refl
begin_back (begin.Start (start.Quit byte)) = refl
begin_back (begin.Start (start.UnsupportedAnchored mode)) = refl
begin_back (begin.Start start.OutOfMemory) = refl

token_back : (e : TokenError) → token_of (token_status e) ≡ told_token e
token_back (NoToken offset) = refl
token_back (Search (Match (Quit byte offset))) = refl
token_back (Search (Match (GaveUp offset))) = refl
token_back (Search (Match (UnsupportedAnchored mode))) = refl
token_back (Search OutOfMemory) = refl
token_back (Search NotAPair) = refl

-- if a status determines what is reported of its error, the same is reported of errors with equal statuses
differ : {E : Type 0} (status : E → Status) (told : E → E) (back : Status → E)
    → ((e : E) → back (status e) ≡ told e) → (e f : E) → status e ≡ status f → told e ≡ told f
differ status told back gives e f same =
    let at = gives e in let at' = gives f in let image : back (status e) ≡ back (status f) = ap back same in cc

builder_fails : (e : BuilderError) → number_of code.Argument < (builder_status e).code
builder_fails builder.NoPattern = omega arith
builder_fails builder.UnfinishedPattern = omega arith
builder_fails builder.StateRange = omega arith
builder_fails builder.SparsePatch = omega arith
builder_fails builder.TooLarge = omega arith
builder_fails builder.OutOfMemory = omega arith
builder_fails (builder.NFA nfa.StateRange) = omega arith
builder_fails (builder.NFA nfa.StartRange) = omega arith
builder_fails (builder.NFA nfa.PatternRange) = omega arith
builder_fails (builder.NFA nfa.Ranges) = omega arith
builder_fails (builder.NFA nfa.TooLarge) = omega arith
builder_fails (builder.NFA nfa.OutOfMemory) = omega arith

build_fails : (e : BuildError) → number_of code.Argument < (build_status e).code
build_fails dfa.Unsupported = omega arith
build_fails (dfa.InsufficientCacheCapacity minimum given) = omega arith
build_fails (dfa.InsufficientStateIDCapacity attempted) = omega arith
build_fails dfa.OutOfMemory = omega arith
build_fails (dfa.PatternCounts forward reverse) = omega arith

regex_fails : (e : RegexBuildError) → number_of code.Argument < (regex_status e).code
regex_fails regex.NotLazy = omega arith
regex_fails regex.NotUtf8 = omega arith
regex_fails regex.Starts = omega arith
regex_fails regex.TooLarge = omega arith
regex_fails regex.OutOfMemory = omega arith
regex_fails (regex.Build e) = build_fails e

search_fails : (e : SearchError) → number_of code.Argument < (search_status e).code
search_fails (Match (Quit byte offset)) = omega arith
search_fails (Match (GaveUp offset)) = omega arith
search_fails (Match (UnsupportedAnchored mode)) = omega arith
search_fails OutOfMemory = omega arith
search_fails NotAPair = omega arith

begin_fails : (e : BeginError) → number_of code.Argument < (begin_status e).code
begin_fails begin.Skips = omega arith
begin_fails (begin.Start (start.Cache err)) = omega arith
begin_fails (begin.Start (start.Quit byte)) = omega arith
begin_fails (begin.Start (start.UnsupportedAnchored mode)) = omega arith
begin_fails (begin.Start start.OutOfMemory) = omega arith

token_fails : (e : TokenError) → number_of code.Argument < (token_status e).code
token_fails (NoToken offset) = omega arith
token_fails (Search e) = search_fails e

pub builder_told : TellErrors builder_status told_builder
builder_told = record { fails = builder_fails; differ = differ builder_status told_builder builder_of builder_back }

pub build_told : TellErrors build_status told_build
build_told = record { fails = build_fails; differ = differ build_status told_build build_of build_back }

pub regex_told : TellErrors regex_status told_regex
regex_told = record { fails = regex_fails; differ = differ regex_status told_regex regex_of regex_back }

pub search_told : TellErrors search_status told_search
search_told = record { fails = search_fails; differ = differ search_status told_search search_of search_back }

pub token_told : TellErrors token_status told_token
token_told = record { fails = token_fails; differ = differ token_status told_token token_of token_back }

pub begin_told : TellErrors begin_status told_begin
begin_told = record { fails = begin_fails; differ = differ begin_status told_begin begin_of begin_back }
