-- The tokens of a haystack, one after another.
use Rattle.std.specs.Prelude.{ℕ, ◌≡◌, ◌<◌, ◌≤◌, ◌⊎◌, ◌-◌, Bool, true, false, List, length, Option, None, Some, Result}
use Rattle.std.specs.Prelude.{Ok, Err}
use Rattle.automata_base.specs.Haystacks.Matches.{Match}
use Rattle.automata_config.specs.declared.error.SearchError.{SearchError}
use Rattle.regex_automata.specs.Promises.{CacheView, Forward, IsMemory, IsSearchRun, IsUnhindered, Machine, known_of}
use Rattle.regex_automata.specs.declared.tokens.error.TokenError.{TokenError}
use Rattle.regex_automata.specs.declared.tokens.error.TokenError.TheVariants.{NoToken, Search}
use Rattle.lexer.specs.Tokens.{EndsCharacter, IsExactToken, IsMeantToken, IsTokenFrom, remaining_input}

-- an iteration returns a token, and continues from its end
pub record ReturnsToken (m : Machine) (hay : List ℕ) (token : Match) (offset offset' : ℕ) (ended' : Bool) :
    Type 0 where
  -- it begins at the offset, and is not empty
  pub from : IsTokenFrom m hay offset token
  -- it is the token there
  pub meant : IsMeantToken m hay offset (Some token)
  -- a longest token is a match to its end
  pub exact : IsExactToken m hay offset (Some token)
  -- the next token begins where it ends
  pub place : offset' ≡ token.end
  -- the iteration has not ended
  pub going : ended' ≡ false

-- an iteration that skips characters without a token passes one, and any other ends
abbrev pub PassesGap : (skips : Bool) → Machine → List ℕ → (offset offset' : ℕ) → (ended' : Bool) → Type 0
PassesGap true m hay offset offset' ended' = EndsCharacter m.nfa.flags.utf8 hay offset offset' × (ended' ≡ false)
PassesGap false m hay offset offset' ended' = (offset' ≡ offset) × (ended' ≡ true)

-- an iteration reports that there is no token at an offset
pub record ReportsGap (skips : Bool) (m : Machine) (hay : List ℕ) (at offset offset' : ℕ) (ended' : Bool) :
    Type 0 where
  -- it names the offset
  pub place : at ≡ offset
  -- there is no token
  pub meant : IsMeantToken m hay offset None
  -- it continues after a character, or ends
  pub passes : PassesGap skips m hay offset offset' ended'

-- an iteration reports the error of a search, and ends
pub record ReportsFailure (m : Machine) (hay : List ℕ) (error : SearchError) (offset offset' : ℕ) (ended' : Bool) :
    Type 0 where
  -- if nothing else can prevent an answer, the error is out of memory
  pub free : IsUnhindered m (remaining_input hay offset) → IsMemory error
  -- it stays at its offset
  pub place : offset' ≡ offset
  -- it has ended
  pub over : ended' ≡ true

-- an iteration has no more items, and is unchanged
pub record HasNoItem (hay : List ℕ) (offset offset' : ℕ) (ended ended' : Bool) : Type 0 where
  -- it has ended, or the haystack's end is reached
  pub why : (ended ≡ true) ⊎ (length hay ≤ offset)
  -- it stays at its offset
  pub place : offset' ≡ offset
  -- whether it has ended is unchanged
  pub same : ended' ≡ ended

-- one item of an iteration that has not ended, at an offset before the haystack's end
abbrev pub IsItem :
    (skips : Bool) → Machine → List ℕ → Result Match TokenError → (offset offset' : ℕ) → (ended' : Bool) → Type 0
IsItem skips m hay (Ok token) offset offset' ended' = ReturnsToken m hay token offset offset' ended'
IsItem skips m hay (Err (NoToken at)) offset offset' ended' = ReportsGap skips m hay at offset offset' ended'
IsItem skips m hay (Err (Search error)) offset offset' ended' = ReportsFailure m hay error offset offset' ended'

-- one item, and the iteration before it and after it: its offset, and whether it has ended
abbrev pub GivesLexed :
    (skips : Bool) → Machine → List ℕ → Option (Result Match TokenError) → (offset offset' : ℕ) → (ended ended' : Bool)
    → Type 0
GivesLexed skips m hay None offset offset' ended ended' = HasNoItem hay offset offset' ended ended'
GivesLexed skips m hay (Some item) offset offset' ended ended' =
    (ended ≡ false) × (offset < length hay) × IsItem skips m hay item offset offset' ended'

-- the error of the search for an item, if it failed
abbrev pub failure_of : Result Match TokenError → Option SearchError
failure_of (Ok token) = None
failure_of (Err (NoToken at)) = None
failure_of (Err (Search error)) = Some error

-- the effect of an item on the cache, by a search at the offset; without an item nothing changes
abbrev pub IsLexedRun :
    Machine → List ℕ → (offset : ℕ) → (old new : CacheView) → Option (Result Match TokenError) → Type 0
IsLexedRun m hay offset old new None = new ≡ old
IsLexedRun m hay offset old new (Some item) =
    IsSearchRun Forward m (remaining_input hay offset) (known_of old) (known_of new) (failure_of item)

-- an upper bound on the number of remaining items
abbrev pub most_lexed : (ended : Bool) → List ℕ → (offset : ℕ) → ℕ
most_lexed true hay offset = 0
most_lexed false hay offset = length hay - offset
