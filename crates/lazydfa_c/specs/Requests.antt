-- Requests and results, as C lays them out.
use Rattle.std.specs.Prelude.{ℕ, zero, suc, ◌+◌, ◌&&◌, ◌==◌, not, Bool, List, length, nat_le}
use Rattle.std.specs.Prelude.{Option, Some, None, if◌then◌else◌}
use Rattle.automata_base.specs.Haystacks.StartConfig.{StartConfig}
use Rattle.automata_base.specs.declared.util.search.Anchored.{Anchored}
use Rattle.regex_automata.specs.Promises.{HalfMatch, Input, Match, No, Pattern, Yes}
use Rattle.lazydfa_c.specs.declared.input.Found.{Found}
use Rattle.lazydfa_c.specs.declared.input.FoundHalf.{FoundHalf}
use Rattle.lazydfa_c.specs.declared.input.Request.{Request}

-- the anchored mode that two numbers encode, if any
abbrev pub mode_of : ℕ → ℕ → Option Anchored
mode_of zero pattern = Some No
mode_of (suc zero) pattern = Some Yes
mode_of (suc (suc zero)) pattern = if nat_le pattern 2147483646 then Some (Pattern pattern) else None
mode_of (suc (suc (suc n))) pattern = None

-- the byte before or after the pieces of a haystack that a number encodes: the byte of this number, or no byte for -1,
-- which is 2^32 - 1 as an unsigned number
abbrev pub beside_of : ℕ → Option (Option ℕ)
beside_of n = if nat_le n 255 then Some (Some n) else (if n == 4294967295 then Some None else None)

-- the configuration of the start state of a search in pieces: an anchored mode, and the byte before the first piece, if
-- any
abbrev pub start_in : Option Anchored → Option (Option ℕ) → Option StartConfig
start_in None behind = None
start_in (Some mode) None = None
start_in (Some mode) (Some behind) = Some (record { look_behind = behind; anchored = mode })

-- the start configuration that three numbers encode, if any
abbrev pub start_of : (anchored pattern behind : ℕ) → Option StartConfig
start_of anchored pattern behind = start_in (mode_of anchored pattern) (beside_of behind)

-- whether a span lies in a haystack, as `Input::allows` tests
abbrev pub is_span : List ℕ → Request → Bool
is_span haystack r = nat_le r.end (length haystack) && nat_le r.start (r.end + 1)

-- the input of a request in an anchored mode, if there is a mode and the span lies in the haystack
abbrev pub input_in : List ℕ → Request → Option Anchored → Option Input
input_in haystack r None = None
input_in haystack r (Some mode) =
    if is_span haystack r
    then Some (record {
      haystack = haystack;
      start = r.start;
      end = r.end;
      anchored = mode;
      earliest = not (r.earliest == 0);
    })
    else None

-- the input of a request, if its numbers encode an anchored mode and its span lies in the haystack
abbrev pub input_of : List ℕ → Request → Option Input
input_of haystack r = input_in haystack r (mode_of r.anchored r.pattern)

-- the library's match, from a match as C lays it out
abbrev pub match_of_found : Found → Match
match_of_found f = record { pattern = f.pattern; start = f.start; end = f.end }

-- a match as C lays it out; reserved members are 0
abbrev pub found_from : Match → Found
found_from m = record { start = m.start; end = m.end; pattern = m.pattern; reserved = 0 }

-- one end of a match as C lays it out
abbrev pub found_half : HalfMatch → FoundHalf
found_half h = record { offset = h.offset; pattern = h.pattern; reserved = 0 }
