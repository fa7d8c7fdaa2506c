-- What simulations of programs find.
use Rattle.std.specs.Prelude.{ℕ, ◌≡◌, ◌<◌, ◌≤◌, Bool, true, List, length, Option, None, Some}
use Rattle.regex_hir.specs.Re.{Trace}
use Rattle.regex_hir.specs.Text.{is_boundary}
use Rattle.regex_nfa.specs.Run.{run}
use Rattle.meta.specs.declared.program.Program.{Program}

-- How the program's NFA matches from an offset on, if it does.
abbrev pub run_at : Program → List ℕ → (i : ℕ) → Option Trace
run_at program hay i = run program.nfa hay (length hay) program.nfa.start i

-- A match may begin at the offset: in text it is not inside a character.
abbrev pub MayBeginAt : (utf8 : Bool) → List ℕ → (i : ℕ) → Type 0
MayBeginAt utf8 hay i = utf8 ≡ true → is_boundary hay i ≡ true

-- No match of the program begins from `start` on before `end`.
abbrev pub BeginsNowhere : (utf8 : Bool) → Program → List ℕ → (start end : ℕ) → Type 0
BeginsNowhere utf8 program hay start end =
    (i : ℕ) → start ≤ i → i < end → MayBeginAt utf8 hay i → run_at program hay i ≡ None

-- The span is that of the program's leftmost match that begins from `start` on before `end`.
pub record IsLeftmostSpan (utf8 : Bool) (program : Program) (hay : List ℕ) (start end : ℕ) (span : ℕ × ℕ) : Type 0
  where
    -- it begins from `start` on
    pub after : start ≤ span.0
    -- it begins before `end`
    pub before : span.0 < end
    -- a match may begin there
    pub boundary : MayBeginAt utf8 hay span.0
    -- how the NFA matches there
    pub trace : Trace
    -- it matches so
    pub runs : run_at program hay span.0 ≡ Some trace
    -- the span ends where the match ends
    pub ends : trace.end ≡ span.1
    -- no match begins earlier
    pub first : BeginsNowhere utf8 program hay start span.0

-- What a simulation finds: the span of the leftmost match that begins from `start` on before `end`, or that none begins
-- there.
abbrev pub IsSimulatedSpan : (utf8 : Bool) → Program → List ℕ → (start end : ℕ) → Option (ℕ × ℕ) → Type 0
IsSimulatedSpan utf8 program hay start end None = BeginsNowhere utf8 program hay start end
IsSimulatedSpan utf8 program hay start end (Some span) = IsLeftmostSpan utf8 program hay start end span
