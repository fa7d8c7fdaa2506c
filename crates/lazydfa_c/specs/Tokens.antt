-- Tokens of patterns with a Unicode word boundary: by the DFA, or by the programs of the regex.
use Rattle.std.specs.Prelude.{ℕ, ◌≡◌, ◌==◌, ◌&&◌, nat_lt, if◌then◌else◌, Bool, List, length}
use Rattle.std.specs.Prelude.{Option, Some, None, option_map}
use Rattle.regex_hir.specs.Re.{Re}
use Rattle.meaning.specs.Patterns.{numbered_match}
use Rattle.meta.specs.Sets.{match_at}
use Rattle.regex_automata.specs.Promises.{Input, Match, match_kind_of}
use Rattle.regex_automata.specs.declared.tokens.error.TokenError.TheVariants.{NoToken}
use Rattle.lazydfa_c.specs.Calls.{TakesToken, regex_of}
use Rattle.lazydfa_c.specs.Requests.{found_from}
use Rattle.lazydfa_c.specs.Statuses.{plain, token_status}
use Rattle.lazydfa_c.specs.Words.{ByPrograms, IsAnsweredBy, IsMarkedIf, ascii_mark, is_first_kind, other_mark}
use Rattle.lazydfa_c.specs.declared.code.Code.TheVariants as code
use Rattle.lazydfa_c.specs.declared.input.Found.{Found}
use Rattle.lazydfa_c.specs.declared.input.Request.{Request}
use Rattle.lazydfa_c.specs.declared.object.Searcher.{Searcher}
use Rattle.lazydfa_c.specs.declared.object.Shared.{Shared}
use Rattle.lazydfa_c.specs.declared.status.Status.{Status}

-- whether the programs can find the token at the start of the input: some text of the regex has a Unicode word
-- boundary, the match kind is `MatchKind::LeftmostFirst`, and the span is not empty and ends with the haystack
abbrev pub can_lex : Searcher → Input → Bool
can_lex s input =
    s.shared.words && (is_first_kind (match_kind_of (regex_of s).forward.config)
    && ((input.end == length input.haystack) && nat_lt input.start input.end))

-- a match that begins at an offset as a token, if it is not empty
abbrev pub as_token : (at : ℕ) → Option Match → Option Match
as_token at None = None
as_token at (Some m) = if nat_lt at m.end then Some m else None

-- the token at the start of an input by what patterns mean: the match of the first pattern that matches there, if it is
-- not empty
abbrev pub IsPreferredToken : (utf8 : Bool) → List Re → Input → Option Match → Type 0
IsPreferredToken utf8 res input found =
    found
    ≡ as_token input.start
    (option_map (numbered_match res input.haystack) (match_at utf8 res input.haystack input.start))

-- a token, or that there is none at an offset, is reported
abbrev pub IsTokenOrNoneTold : (at : ℕ) → (written : Found) → Option Match → Status → Type 0
IsTokenOrNoneTold at written (Some m) status = (written ≡ found_from m) × (status ≡ plain code.Done)
IsTokenOrNoneTold at written None status = status ≡ token_status (NoToken at)

-- the offset where the remaining span begins after a token; without one, where it began
abbrev pub start_after : ℕ → Option Match → ℕ
start_after start (Some m) = m.end
start_after start None = start

-- the programs find the token that the patterns mean, or that there is none, and it is reported
pub record SimulatesToken (found : Found) (old new : Request) (input : Input) (shared : Shared) (status : Status) :
    Type 0 where
  -- the token, or none
  pub result : Option Match
  -- the status reports it, and it is written
  pub told : IsTokenOrNoneTold input.start found result status
  -- it is what the patterns mean
  pub meant : ByPrograms shared (λ utf8 res. IsPreferredToken utf8 res input result)
  -- the remaining span begins where the token ends; without a token it is unchanged
  pub left : new ≡ record old { start = start_after old.start result }

-- the remaining input with this mark, which says whether its haystack is ASCII
abbrev pub marked_as : (mark : ℕ) → Request → Request
marked_as mark left = record left { reserved = mark }

-- the token at the start of the remaining input: by the DFA, or by the programs
pub record TakesTokenOf (found : Found) (old new : Request) (input : Input) (s t : Searcher) (status : Status) :
    Type 0 where
  -- the mark of the remaining input
  pub mark : ℕ
  -- it is set if the programs can find the token
  pub is_marked : IsMarkedIf (can_lex s input) input.haystack old.reserved mark
  -- how the token is found
  pub answered :
      IsAnsweredBy (can_lex s input) (mark ≡ ascii_mark) (mark ≡ other_mark)
      (λ (written : Found × Request) m told. TakesToken written.0 (marked_as mark old) written.1 input s m told)
      (found, new) (SimulatesToken found (marked_as mark old) new input s.shared status) s t status
