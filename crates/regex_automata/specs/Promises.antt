-- The names that a caller's own contracts use, each with a sentence: for ends, walks, sets, spans, tokens and steps,
-- and for the effect on a cache. Contracts see a DFA as a `Machine`: `m.nfa` is its NFA and `m.config` its settings.

-- The cache belongs to the DFA; the caches belong to the two DFAs of the regex. Each call requires this and ensures it
-- again.
pub use Rattle.automata_hybrid.specs.Cache.Caches.{CacheView, IsCacheOf, HoldsRow}
pub use Rattle.regex_automata.specs.Regexes.Caches.{AreCachesOf, AreKnown}
-- What a cache knows: the states that have rows, and which transitions and start states are cached, whatever their IDs
-- and cells; and what a cache of a DFA may know, by `laws::cache_is_known`.
pub use Rattle.automata_hybrid.specs.Known.Known.{Known}
pub use Rattle.automata_hybrid.specs.Known.Stores.{known_of}
pub use Rattle.automata_hybrid.specs.Known.Bounds.{IsKnown}
-- A DFA as contracts see it; its NFA as paths use it; its match kind.
pub use Rattle.automata_hybrid.specs.Machines.Machine.{Machine, engine}
pub use Rattle.automata_base.specs.Nfas.Nodes.{nfa_of}
pub use Rattle.automata_config.specs.Options.{match_kind_of}
pub use Rattle.automata_base.specs.declared.util.search.MatchKind.TheVariants.{All as KindAll, LeftmostFirst}
-- An input: a span of a haystack, an anchored mode, and whether the search stops at its first match; a span that an
-- input may have.
pub use Rattle.automata_base.specs.Haystacks.Input.{Input, Allows}
pub use Rattle.automata_base.specs.Haystacks.Tapes.{IsHaystack}
pub use Rattle.automata_base.specs.declared.util.search.Anchored.TheVariants.{No, Yes, Pattern}
-- The NFA keeps its cycles, which answers by ordered paths require. It does if no cycle of epsilon transitions passes a
-- look-around assertion, and also if it keeps unions; `NFA::keeping_unions` returns an NFA that does, for every NFA.
pub use Rattle.automata_base.specs.Paths.Paths.{IsLookAcyclic, KeepsCycles}
-- A match's pattern and end, as a search returns it; and by paths, with the start of the span that gave it.
pub use Rattle.automata_base.specs.Haystacks.Matches.{HalfMatch, Match}
pub use Rattle.automata_base.specs.Answers.Answers.{Half, IsAnswer}
-- The forward search's answer by the ordered paths; the nearest end of any path.
pub use Rattle.automata_base.specs.Answers.OfPasses.{IsNearestAnswer}
pub use Rattle.automata_base.specs.Nfas.Engines.{engine_of}
pub use Rattle.automata_base.specs.declared.util.search.Direction.TheVariants.{Backward, Forward}
-- What a search returns, as determined by its DFA and its input alone: by paths, and for every NFA by its passes; and
-- that nothing but a lack of memory prevents an answer.
pub use Rattle.automata_hybrid.specs.Searches.Contracts.{IsHalf, IsMemory, IsUnhindered}
pub use Rattle.automata_hybrid.specs.Searches.Passes.{IsFound, Skips, WithoutBase, without_base}
pub use Rattle.automata_hybrid.specs.Searches.Agreement.{AnswersAgree}
-- An overlapping search as contracts see it; the input that it belongs to, and how many matches it has reported; the
-- list that it reports, the match at an index of that list, and what a call returns and does to the walk.
pub use Rattle.automata_hybrid.specs.Walks.State.{Walk}
pub use Rattle.automata_hybrid.specs.Walks.Answers.{AreWalked, HasReported, IsWalkOf, ReportsNext, half_nth}
pub use Rattle.automata_hybrid.specs.Walks.Contracts.{IsWalkCall, IsWhich, JoinsReported}
-- A search in pieces as contracts see it; the DFA that it belongs to; the inputs that it may search, once it has begun;
-- how many bytes of the span of an input it was given, or that it was given all; a piece that lies in a span; what
-- reading a piece and asking for the answer mean, for a whole haystack by `laws::pieces_are_whole`; what they cost and
-- what is cached after them, by `laws::pieces_follow`.
pub use Rattle.automata_hybrid.specs.Pieces.State.{IsPiecesOf, PiecesView}
pub use Rattle.automata_hybrid.specs.Pieces.Answers.{BeginsAfter, EndsHere, HasBegun, IsPieceAt, IsWhole, ReadsOn}
pub use Rattle.automata_hybrid.specs.Pieces.Answers.{WasGiven, WasGivenAll, from_first}
pub use Rattle.automata_hybrid.specs.Pieces.Whole.{HasReadAll, PiecesAreWhole, bytes_of_pieces, whole_input}
pub use Rattle.automata_hybrid.specs.Known.PiecesFollow.{AnswerFollows, IsCostOfUnits, IsFreePiece, IsKnownPieceError}
pub use Rattle.automata_hybrid.specs.Known.PiecesFollow.{KnowsAnswer, KnowsPiece, PieceAnswersFollow, PieceFollows}
pub use Rattle.automata_hybrid.specs.Known.PiecesFollow.{PiecesFollow}
-- A walk over a haystack in pieces: its position after a number of bytes of the span of an input, or after all; the
-- patterns that match at its position; what a call returns, where it stops, and what its end means; that the states of
-- a pass report just the patterns that match at each offset, by `laws::states_have_matching`; that its calls report
-- what an overlapping search over the whole does, by `laws::walks_are_whole`; and what they cost, by
-- `laws::walk_pieces_follow`.
pub use Rattle.automata_hybrid.specs.Pieces.Walks.{EndsWith, HasBegunWalk, HasWalked, HasWalkedAll, IsAtMatch}
pub use Rattle.automata_hybrid.specs.Pieces.Walks.{HasNoMatch, IsWalked, StopsAt, WalksOn, patterns_here}
pub use Rattle.automata_hybrid.specs.Pieces.Matching.{MatchesAt, StatesHaveMatching}
pub use Rattle.automata_hybrid.specs.Pieces.Whole.{HasWalkedPieces, WalksAreWhole, stop_pairs}
pub use Rattle.automata_hybrid.specs.Known.PiecesFollow.{WalkEndsFollow, WalkPiecesFollow}
-- Some path of the pattern, from a start and through the span of an input, ends in a match; under `MatchKind::All` a
-- call that succeeds adds exactly these patterns to a set, as far as they are below its capacity.
pub use Rattle.automata_hybrid.specs.Walks.SetsByPaths.{MatchesIn, SetsHaveMatching}
-- The two DFAs of a regex are a sound pair, which spans require. A regex that `build_from_nfa` returns is one. The
-- forward DFA's NFA and match kind.
pub use Rattle.regex_automata.specs.Regexes.SoundPairs.{IsSoundPair, forward_engine}
-- A match by the ordered paths: its pattern, its end, and the start of the path; whether there is one; all of them, one
-- after another.
pub use Rattle.automata_base.specs.Answers.Spans.{AreSpans, IsMatch, IsSpan}
-- What `find` and `is_match` return, as determined by the two DFAs and the input alone: by paths, and for every NFA by
-- their passes.
pub use Rattle.regex_automata.specs.Spans.Contracts.{IsSpanOf, IsTruthOf, IsTruthReported}
pub use Rattle.regex_automata.specs.Spans.Outcomes.{FindsMatch}
-- One item of `find_iter`: the match or the error that it returns, and the remaining input after it; its match may be
-- sliced from the haystack. The matches that an iteration has returned so far, and all of them.
pub use Rattle.regex_automata.specs.Spans.Iteration.{GivesItem, LiesInHaystack, AreCollected, ComesTo}
-- Over a sound pair, what the passes over an input report is what its paths define, by `laws::matches_are_spans`; an
-- item of `find_iter` by the paths; what a loop has collected.
pub use Rattle.regex_automata.specs.Spans.OfPaths.{CollectsMatches, IsItemOfPaths, LoopsCollect, MatchesAreSpans}
pub use Rattle.regex_automata.specs.Spans.OfPaths.{SpansAreOfPaths}
-- The patterns of a set, as a list; a member of a list.
pub use Rattle.automata_base.specs.Haystacks.PatternSet.{members}
pub use Rattle.automata_base.specs.Lists.{In}
-- A token at an offset: it begins there, ends later, and has the bytes between. No token at an offset: the search there
-- finds no match, or an empty one. The type `Token` itself is in `specs.declared.tokens.token.Token`.
pub use Rattle.regex_automata.specs.Tokens.{IsTokenAt, IsNoTokenAt}
-- What tokens are by the paths, if the NFA keeps its cycles, by `laws::tokens_are_spans`; a list of them.
pub use Rattle.regex_automata.specs.Tokens.{AreOfPaths, AreTokenSpans, HasNoSpanPast, TokensAreSpans}
-- A step may be taken from an ID if the cache has its row (`HoldsRow`). Each start and each step ensures this for the
-- ID that it returns. A search by steps that stops at its first match: its next offset, and the ID of its state; the
-- unit at an offset; what a step over it means; the first pattern of a match state; the first match, or none.
pub use Rattle.automata_hybrid.specs.Steps.BySteps.{StandsAt, IsUnitAt, IsStepAt, IsFirstPattern, HasPatterns}
pub use Rattle.automata_hybrid.specs.Steps.BySteps.{IsFirstMatch, FirstMatchIsFound}
-- The ID that a step or a call for a start state returns; its effect on what the cache knows, as one event; when it
-- fails; and the consequences, by `laws::steps_follow`.
pub use Rattle.automata_hybrid.specs.Steps.Steps.{IsStepAnswer}
pub use Rattle.automata_hybrid.specs.Steps.Starts.{IsStartAnswer}
pub use Rattle.automata_hybrid.specs.Known.Steps.{IsStepRun, StepFails, IsStartRun, StartFails}
pub use Rattle.automata_hybrid.specs.Known.Effects.{EventFollows, EventsFollow, FailureFollows, StepFollows}
pub use Rattle.automata_hybrid.specs.Known.Effects.{StartsFollow, StepsFollow}
-- The effect of a search on what its cache knows, event by event; and its consequences, by `laws::searches_follow` and
-- `laws::spans_follow`: among others, until the next clear nothing is lost, and if all that a search uses is cached,
-- only the progress changes.
pub use Rattle.automata_hybrid.specs.Known.Passes.{IsSearchRun}
pub use Rattle.automata_hybrid.specs.Known.Follows.{SearchFollows, SearchesFollow}
pub use Rattle.automata_hybrid.specs.Known.Cached.{Knows}
pub use Rattle.automata_hybrid.specs.Known.Growth.{ClearedNothing, IsGrown, IsStill}
pub use Rattle.regex_automata.specs.Spans.Runs.{IsSpanRun, IsTruthRun}
pub use Rattle.regex_automata.specs.Spans.Follows.{SpanFollows, SpansFollow}
