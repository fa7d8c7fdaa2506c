-- The groups of a match, and the NFAs that find them.
use Rattle.std.specs.Prelude.{ℕ, ◌≡◌, ◌+◌, ◌*◌, ◌<◌, ◌==◌, if◌then◌else◌, List, [], ◌∷◌, All, Option, None, Some}
use Rattle.std.specs.Prelude.{length}
use Rattle.regex_hir.specs.Find as kit
use Rattle.regex_hir.specs.Re.{Re, accept, attempt}
use Rattle.regex_nfa.specs.Run.{run}
use Rattle.regex_nfa.specs.declared.nfa.Nfa.{Nfa}
use Rattle.regex_syntax.specs.Captures.{outcome}
use Rattle.automata_base.specs.declared.util.search.Span.{Span}
use Rattle.meaning.specs.Patterns.{any_of}
use Rattle.meta.specs.declared.program.Program.{Program}

-- The span from one offset to another, if there are both.
abbrev pub span_between : (start end : Option ℕ) → Option Span
span_between (Some start) (Some end) = Some (record { start = start; end = end })
span_between start end = None

-- The span that a group of a match took part with last; none if it took no part. Group 0 is the whole match. The
-- positions are those that the preferred path wrote to the two slots of the group.
abbrev pub group_span : kit.Match → (group : ℕ) → Option Span
group_span m group =
    if group == 0 then Some (record { start = m.start; end = m.trace.end })
    else span_between (kit.last_write m.trace.writes (2 * group)) (kit.last_write m.trace.writes (2 * group + 1))

-- The match is the one that the patterns prefer where it starts.
abbrev pub IsPreferredMatch : List Re → List ℕ → kit.Match → Type 0
IsPreferredMatch res hay m = attempt hay (any_of res) accept m.start ≡ Some m.trace

-- At each offset of each haystack, the NFA finds the end and the groups of the match that the pattern prefers there.
abbrev pub FindsGroups : Nfa → Re → Type 0
FindsGroups nfa re =
    (hay : List ℕ) → All (λ b. b < 256) hay → (i : ℕ)
    → outcome (run nfa hay (length hay) nfa.start i) ≡ outcome (attempt hay re accept i)

-- The NFA of each program finds the groups of the pattern at the same position.
abbrev pub FindAllGroups : List Program → List Re → Type 0
FindAllGroups [] [] = Unit {0}
FindAllGroups [] (re ∷ res) = ⊥
FindAllGroups (p ∷ ps) [] = ⊥
FindAllGroups (p ∷ ps) (re ∷ res) = FindsGroups p.nfa re × FindAllGroups ps res
