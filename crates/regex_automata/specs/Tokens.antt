-- The tokens of an input, one after another.
use Rattle.std.specs.Prelude.{ℕ, ◌≡◌, ◌<◌, ◌≤◌, ◌⊎◌, ◌-◌, ◌++◌, Bool, true, false, if◌then◌else◌, nat_lt, List, [], ◌∷◌}
use Rattle.std.specs.Prelude.{length, Option, None, Some, Result, Ok, Err, IfOk, IfSome, slice_range}
use Rattle.automata_base.specs.Answers.Answers.{IsAnswer}
use Rattle.automata_base.specs.Answers.Spans.{IsSpan}
use Rattle.automata_base.specs.Nfas.Engines.{Engine}
use Rattle.automata_base.specs.Haystacks.Input.{Input}
use Rattle.automata_base.specs.Haystacks.Matches.{HalfMatch, Match}
use Rattle.automata_base.specs.Nfas.Nodes.{nfa_of}
use Rattle.automata_base.specs.Paths.Paths.{KeepsCycles}
use Rattle.automata_base.specs.declared.util.search.Direction.TheVariants.{Forward}
use Rattle.automata_base.specs.declared.util.search.Anchored.TheVariants.{Yes}
use Rattle.automata_config.specs.declared.error.SearchError.{SearchError}
use Rattle.automata_config.specs.declared.error.SearchError.TheVariants as search
use Rattle.automata_hybrid.specs.Cache.Caches.{CacheView}
use Rattle.automata_hybrid.specs.Machines.Machine.{Machine, engine}
use Rattle.automata_hybrid.specs.Searches.Contracts.{IsHalf, IsMemory, IsUnhindered}
use Rattle.automata_hybrid.specs.Known.Passes.{IsSearchRun}
use Rattle.automata_hybrid.specs.Known.Stores.{known_of}
use Rattle.automata_hybrid.specs.Searches.Passes.{IsFound, WithoutBase}
use Rattle.regex_automata.specs.declared.tokens.error.TokenError.{TokenError}
use Rattle.regex_automata.specs.declared.tokens.error.TokenError.TheVariants.{NoToken, Search}
use Rattle.regex_automata.specs.declared.tokens.token.Token.{Token}

-- the input of the search at an offset: the remaining span, anchored and not earliest
abbrev pub asked : List ℕ → (end offset : ℕ) → Input
asked h end offset = record { haystack = h; start = offset; end = end; anchored = Yes; earliest = false }

-- the item for an answer at an offset: a token up to its end, if that is after the offset; no token, if the answer ends
-- at the offset or there is none; an error is passed on
abbrev pub item_of : (offset : ℕ) → Result (Option HalfMatch) SearchError → Result Match TokenError
item_of offset (Ok (Some half)) =
    if nat_lt offset half.offset
    then Ok (record { pattern = half.pattern; start = offset; end = half.offset })
    else Err (NoToken offset)
item_of offset (Ok None) = Err (NoToken offset)
item_of offset (Err e) = Err (Search e)

-- the forward search at an offset returns this, by paths and by passes
abbrev pub SearchReturns : Machine → List ℕ → (end offset : ℕ) → Result (Option HalfMatch) SearchError → Type 0
SearchReturns m h end offset result =
    IsHalf Forward m (asked h end offset) result
    × IfOk result (WithoutBase (IsFound Forward m (asked h end offset)))

-- an item at an offset before the span's end: the item for an answer that the forward search there returns
abbrev pub IsItemAt : Machine → List ℕ → (end offset : ℕ) → Result Match TokenError → Type 0
IsItemAt m h end offset item =
    (offset < end)
    × ((answer : Result (Option HalfMatch) SearchError)
    × SearchReturns m h end offset answer × (item ≡ item_of offset answer))

-- the bytes of a match
abbrev pub match_bytes : List ℕ → Match → List ℕ
match_bytes h t = slice_range h t.start t.end

-- the bytes of matches, joined
abbrev pub joined : List ℕ → List Match → List ℕ
joined h [] = []
joined h (t ∷ ts) = match_bytes h t ++ joined h ts

-- a token as a match: its pattern and its span
abbrev pub match_of : Token → Match
match_of t = record { pattern = t.pattern; start = t.span.start; end = t.span.end }

-- a token at an offset: the item there, with its bytes
pub record IsTokenAt (m : Machine) (h : List ℕ) (end offset : ℕ) (t : Token) : Type 0 where
  -- it is the item at the offset
  pub item : IsItemAt m h end offset (Ok (match_of t))
  -- it has the bytes of its span
  pub bytes : t.bytes.now ≡ match_bytes h (match_of t)
  -- it begins at the offset
  pub start : t.span.start ≡ offset
  -- it ends after the offset
  pub past : offset < t.span.end
  -- it ends at or before the span's end
  pub within : t.span.end ≤ end
  -- its pattern is one of the NFA's
  pub pattern : t.pattern < length m.nfa.start_pattern

-- no token at an offset before the span's end: the search there finds no match, or an empty one
pub record IsNoTokenAt (m : Machine) (h : List ℕ) (end offset : ℕ) : Type 0 where
  -- the offset is before the span's end
  pub within : offset < end
  -- the search there finds no match, or one that ends at the offset
  pub none :
      SearchReturns m h end offset (Ok None)
      ⊎ ((pattern : ℕ)
      × SearchReturns m h end offset (Ok (Some (record { pattern = pattern; offset = offset }))))

-- an error names this offset, or is an error of the search there, whose run says why it failed
abbrev pub IsErrorAt : Machine → List ℕ → (end offset : ℕ) → TokenError → Type 0
IsErrorAt m h end offset (NoToken at) = (at ≡ offset) × IsNoTokenAt m h end offset
IsErrorAt m h end offset (Search e) = Unit {0}

-- a token at an offset, or the error there
abbrev pub IsGivenAt : Machine → List ℕ → (end offset : ℕ) → Result Token TokenError → Type 0
IsGivenAt m h end offset (Ok t) = IsTokenAt m h end offset t
IsGivenAt m h end offset (Err e) = IsItemAt m h end offset (Err e) × IsErrorAt m h end offset e

-- an iteration over tokens has no more items, and is unchanged
pub record EndsTokens (end offset offset' : ℕ) (failed failed' : Bool) : Type 0 where
  -- an error was reported, or the span's end is reached
  pub why : (failed ≡ true) ⊎ (end ≤ offset)
  -- it stays at its offset
  pub place : offset' ≡ offset
  -- whether an error was reported is unchanged
  pub same : failed' ≡ failed

-- an iteration over tokens returns a token, and continues from its end
pub record PassesToken (m : Machine) (h : List ℕ) (end : ℕ) (t : Token) (offset offset' : ℕ) (failed failed' : Bool) :
    Type 0 where
  -- it is the token at the offset
  pub token : IsTokenAt m h end offset t
  -- the next offset is the token's end
  pub place : offset' ≡ t.span.end
  -- no error was reported before it
  pub before : failed ≡ false
  -- and none is reported with it
  pub after : failed' ≡ false

-- an iteration over tokens reports an error, and stays at its offset
pub record RefusesToken (m : Machine) (h : List ℕ) (end : ℕ) (e : TokenError) (offset offset' : ℕ)
    (failed failed' : Bool) : Type 0 where
  -- it is the error at the offset
  pub error : IsGivenAt m h end offset (Err e)
  -- it stays at its offset
  pub place : offset' ≡ offset
  -- no error was reported before it
  pub before : failed ≡ false
  -- one is reported now
  pub after : failed' ≡ true

-- one item, and the iteration before and after it: the offset, and whether an error was reported. There is no item at
-- the span's end, and none after an error
abbrev pub GivesToken :
    Machine → List ℕ → (end : ℕ) → Option (Result Token TokenError)
    → (offset offset' : ℕ) → (failed failed' : Bool) → Type 0
GivesToken m h end None offset offset' failed failed' = EndsTokens end offset offset' failed failed'
GivesToken m h end (Some (Ok t)) offset offset' failed failed' = PassesToken m h end t offset offset' failed failed'
GivesToken m h end (Some (Err e)) offset offset' failed failed' = RefusesToken m h end e offset offset' failed failed'

-- the error of the search for a token, if it failed
abbrev pub search_error : Result Token TokenError → Option SearchError
search_error (Ok t) = None
search_error (Err (NoToken at)) = None
search_error (Err (Search e)) = Some e

-- the effect of an item on the forward cache, by a search at the offset; without an item nothing changes
abbrev pub IsTokenRun :
    Machine → List ℕ → (end offset : ℕ) → (old new : CacheView) → Option (Result Token TokenError) → Type 0
IsTokenRun m h end offset old new None = new ≡ old
IsTokenRun m h end offset old new (Some r) =
    IsSearchRun Forward m (asked h end offset) (known_of old) (known_of new) (search_error r)

-- an upper bound on the number of remaining items
abbrev pub most_tokens : (failed : Bool) → (end offset : ℕ) → ℕ
most_tokens true end offset = 0
most_tokens false end offset = end - offset

-- why a list of tokens stops at an offset, with this error
pub data StopsTokens (m : Machine) (h : List ℕ) (end offset : ℕ) (e : TokenError) : Type 0 where
  -- memory for the list runs out
  LacksListMemory : e ≡ Search search.OutOfMemory → StopsTokens m h end offset e
  -- it is the item there
  IsErrorThere : IsItemAt m h end offset (Err e) → StopsTokens m h end offset e

-- tokens one after another, the first at this offset: each is the item at the end of the previous one. After the last
-- comes the span's end, or an error
abbrev pub AreGiven : Machine → List ℕ → (end offset : ℕ) → List Match → Option TokenError → Type 0
AreGiven m h end offset [] None = end ≤ offset
AreGiven m h end offset [] (Some e) = StopsTokens m h end offset e
AreGiven m h end offset (t ∷ ts) error = IsItemAt m h end offset (Ok t) × AreGiven m h end t.end ts error

-- a token by what searches find: it ends where the answer at its offset does
pub record FindsToken (Finds : Input → Option HalfMatch → Type 0) (h : List ℕ) (end offset : ℕ) (t : Match) :
    Type 0 where
  -- it begins at the offset
  pub start : t.start ≡ offset
  -- it ends after the offset
  pub past : offset < t.end
  -- it ends at or before the span's end
  pub within : t.end ≤ end
  -- the search there finds its pattern and its end
  pub found : Finds (asked h end offset) (Some (record { pattern = t.pattern; offset = t.end }))

-- the search at an offset finds no token
pub data FindsNoToken (Finds : Input → Option HalfMatch → Type 0) (h : List ℕ) (end offset : ℕ) : Type 0 where
  -- it finds no match
  NoMatch : Finds (asked h end offset) None → FindsNoToken Finds h end offset
  -- it finds a match that ends at the offset
  EmptyMatch :
      (pattern : ℕ) → Finds (asked h end offset) (Some (record { pattern = pattern; offset = offset }))
      → FindsNoToken Finds h end offset

-- no token by what searches find, and the offset that the error names
pub record IsNoTokenFound (Finds : Input → Option HalfMatch → Type 0) (h : List ℕ) (end offset told : ℕ) : Type 0 where
  -- the error names the offset of the search
  pub place : told ≡ offset
  -- the offset is before the span's end
  pub within : offset < end
  -- the search there finds none
  pub none : FindsNoToken Finds h end offset

-- the tokens of an input, by what searches find: each begins where the previous one ended
abbrev pub AreFoundBy :
    (Finds : Input → Option HalfMatch → Type 0) → List ℕ → (end offset : ℕ) → List Match → Option TokenError → Type 0
AreFoundBy Finds h end offset [] None = end ≤ offset
AreFoundBy Finds h end offset [] (Some (NoToken at)) = IsNoTokenFound Finds h end offset at
AreFoundBy Finds h end offset [] (Some (Search e)) = Unit {0}
AreFoundBy Finds h end offset (t ∷ ts) error =
    FindsToken Finds h end offset t × AreFoundBy Finds h end t.end ts error

-- the first list of bytes is a prefix of the second
abbrev pub IsBeginningOf : List ℕ → List ℕ → Type 0
IsBeginningOf part whole = (rest : List ℕ) × (whole ≡ part ++ rest)

-- there is no token, or the error is out of memory
abbrev pub IsNoTokenOrMemory : TokenError → Type 0
IsNoTokenOrMemory (NoToken at) = Unit {0}
IsNoTokenOrMemory (Search e) = IsMemory e

-- the tokens of an input by the searches at their offsets, for every NFA; or the first ones, and the error that ended
-- them
pub record AreTokensReported (m : Machine) (input : Input) (ts : List Match) (error : Option TokenError) : Type 0 where
  -- each is the item for an answer that the search at its offset returns
  pub given : AreGiven m input.haystack input.end input.start ts error
  -- it is what the passes report
  pub found : AreFoundBy (λ i. WithoutBase (IsFound Forward m i)) input.haystack input.end input.start ts error

-- the tokens of an input, one after another; or the first ones, and the error that ended them
pub record AreTokensUpto (m : Machine) (input : Input) (ts : List Match) (error : Option TokenError) : Type 0 where
  -- if the NFA keeps its cycles, the answers of the ordered paths
  pub paths :
      KeepsCycles (nfa_of m.nfa)
      → AreFoundBy (λ i. WithoutBase (IsAnswer Forward (engine m) i))
      input.haystack input.end input.start ts error
  -- their bytes, joined, are a prefix of the span's bytes
  pub beginning :
      IsBeginningOf (joined input.haystack ts) (slice_range input.haystack input.start input.end)
  -- without an error they are all of the span's bytes
  pub whole : error ≡ None → joined input.haystack ts ≡ slice_range input.haystack input.start input.end
  -- if nothing prevents an answer, the only errors are no token and out of memory
  pub free : IsUnhindered m (asked input.haystack input.end input.start) → IfSome error IsNoTokenOrMemory

-- the spans of a tokenizer by the ordered paths: each is the span of an anchored search from the end of the previous
-- one
abbrev pub AreTokenSpans : Engine → List ℕ → (end offset : ℕ) → List Match → Type 0
AreTokenSpans d h end offset [] = Unit {0}
AreTokenSpans d h end offset (t ∷ ts) = IsSpan d (asked h end offset) (Some t) × AreTokenSpans d h end t.end ts

-- by the ordered paths, the anchored search at an offset has no span that ends after the offset
pub data HasNoSpanPast (d : Engine) (h : List ℕ) (end offset : ℕ) : Type 0 where
  -- it has none
  HasNoSpan : IsSpan d (asked h end offset) None → HasNoSpanPast d h end offset
  -- it has an empty one there
  HasEmptySpan :
      (pattern : ℕ) → IsSpan d (asked h end offset) (Some (record { pattern = pattern; start = offset; end = offset }))
      → HasNoSpanPast d h end offset

-- what tokens are by the ordered paths
pub record AreOfPaths (m : Machine) (d : Engine) (h : List ℕ) (end : ℕ) : Type 0 where
  -- a token is the span of the search at its offset
  pub token : (offset : ℕ) (t : Token) → IsTokenAt m h end offset t → IsSpan d (asked h end offset) (Some (match_of t))
  -- where there is no token, that search has no span or an empty one
  pub none : (offset : ℕ) → IsNoTokenAt m h end offset → HasNoSpanPast d h end offset
  -- collected tokens are these spans, one after another
  pub list :
      (offset : ℕ) (ts : List Match) (error : Option TokenError) → AreGiven m h end offset ts error
      → AreTokenSpans d h end offset ts

-- If the NFA keeps its cycles, tokens are the spans of the ordered paths.
abbrev pub TokensAreSpans : Type 0
TokensAreSpans =
    (m : Machine) (h : List ℕ) (end : ℕ)
    → KeepsCycles (nfa_of m.nfa) → AreOfPaths m (engine m) h end
