-- The token at an offset: what a search returns, and what it means.
use Rattle.std.specs.Prelude.{ℕ, ◌≡◌, ◌+◌, ◌<◌, ◌≤◌, Bool, true, false, nat_lt, if◌then◌else◌, List, length, Option}
use Rattle.std.specs.Prelude.{Some, None}
use Rattle.std.specs.Prelude.{IfSome}
use Rattle.regex_hir.specs.Re.{Re}
use Rattle.automata_base.specs.Haystacks.Input.{Input}
use Rattle.automata_base.specs.Haystacks.Matches.{HalfMatch, Match}
use Rattle.automata_base.specs.Haystacks.Tapes.{is_split}
use Rattle.regex_automata.specs.Promises.{Machine, Yes}
use Rattle.patterns.specs.Patterns.{IsFor}
use Rattle.patterns.specs.declared.compile.Options.{Options}
use Rattle.lexer.specs.Lexers.{IsLexerOf}
use Rattle.lexer.specs.Rules.{AreExact, IsFirstRule, IsLongestRule, RuleMatches}
use Rattle.lexer.specs.declared.rules.Prefer.{Prefer}
use Rattle.lexer.specs.declared.rules.Prefer.TheVariants.{First, Longest}

-- the input of the search at an offset: the remaining haystack, anchored and not earliest
abbrev pub remaining_input : List ℕ → (offset : ℕ) → Input
remaining_input hay offset =
    record { haystack = hay; start = offset; end = length hay; anchored = Yes; earliest = false }

-- the token for an answer at an offset, whose pattern is the number of its rule; none if the answer ends at the offset,
-- or there is none
abbrev pub token_of : (offset : ℕ) → Option HalfMatch → Option Match
token_of offset None = None
token_of offset (Some half) =
    if nat_lt offset half.offset
    then Some (record { pattern = half.pattern; start = offset; end = half.offset })
    else None

-- a token begins at the offset, ends after it in the haystack, and is of one of the rules
pub record IsTokenFrom (m : Machine) (hay : List ℕ) (offset : ℕ) (token : Match) : Type 0 where
  -- it begins at the offset
  pub start : token.start ≡ offset
  -- it ends after the offset
  pub past : offset < token.end
  -- it ends in the haystack
  pub within : token.end ≤ length hay
  -- its pattern is one of the DFA's
  pub rule : token.pattern < length m.nfa.start_pattern

-- The token at an offset, by what the patterns of the rules mean: of the first rule that matches there, with the match
-- that it prefers, or of the rules that match farthest the first one. There is none if this is the empty match, or if
-- there is no match.
abbrev pub IsRuleToken : Prefer → List Re → (hay : List ℕ) → (offset : ℕ) → Option Match → Type 0
IsRuleToken First res hay offset None = (rule end : ℕ) → IsFirstRule res hay offset rule end → end ≡ offset
IsRuleToken First res hay offset (Some token) = IsFirstRule res hay offset token.pattern token.end
IsRuleToken Longest res hay offset None = (rule end : ℕ) → RuleMatches res hay rule offset end → end ≡ offset
IsRuleToken Longest res hay offset (Some token) = IsLongestRule res hay offset token.pattern token.end

-- it is the token at an offset, or there is none, by each meaning that the DFA has
abbrev pub IsMeantToken : Machine → (hay : List ℕ) → (offset : ℕ) → Option Match → Type 0
IsMeantToken m hay offset found =
    (o : Options) (prefer : Prefer) (res : List Re) → IsLexerOf o prefer res m → IsFor o hay
    → IsRuleToken prefer res hay offset found

-- the longest token is a match of its rule to its end, by each meaning that the DFA has, if the NFAs of the rules have
-- no other paths than the matches of their patterns
abbrev pub IsExactToken : Machine → (hay : List ℕ) → (offset : ℕ) → Option Match → Type 0
IsExactToken m hay offset found =
    (o : Options) (res : List Re) → (is : IsLexerOf o Longest res m) → IsFor o hay → AreExact is.joined.ks res
    → IfSome found (λ token. RuleMatches res hay token.pattern offset token.end)

-- a character begins at an offset and ends at the next one: in text where the next character begins, and in bytes one
-- byte later
pub record EndsCharacter (utf8 : Bool) (hay : List ℕ) (offset next : ℕ) : Type 0 where
  -- it is not empty
  pub past : offset < next
  -- it ends in the haystack
  pub within : next ≤ length hay
  -- without UTF-8 mode it is one byte
  pub byte : utf8 ≡ false → next ≡ offset + 1
  -- in UTF-8 mode it ends where a character begins
  pub whole : utf8 ≡ true → is_split hay next ≡ false
  -- and no character begins before
  pub one : utf8 ≡ true → (at : ℕ) → offset < at → at < next → is_split hay at ≡ true
