-- Lines in which matches are replaced.
use Rattle.std.specs.Prelude.{ℕ, false, List, [], ◌∷◌, ◌++◌, Option, None, Some, drop, flat_map, slice_range}
use Rattle.regex_hir.specs.Re.{Re, Trace, accept, attempt}
use Rattle.automata_base.specs.declared.util.search.Span.{Span}
use Rattle.regex_automata.specs.Promises.{Match}
use Rattle.meaning.specs.Patterns.{any_of, left_any}
use Rattle.meta.specs.Groups.{group_span}
use Rattle.lgrep.specs.Templates.{pieces_for}
use Rattle.lgrep.specs.declared.template.Piece.{Piece}
use Rattle.lgrep.specs.declared.template.Piece.TheVariants.{Byte, Group}
use Rattle.lgrep.specs.declared.template.Replacement.{Replacement}

-- the bytes of a span of a line; none if there is no span
abbrev pub span_bytes : (line : List ℕ) → Option Span → List ℕ
span_bytes line None = []
span_bytes line (Some span) = slice_range line span.start span.end

-- what a piece of a template stands for, where the groups have these spans
abbrev pub piece_bytes : (line : List ℕ) → (span_of : ℕ → Option Span) → Piece → List ℕ
piece_bytes line span_of (Byte byte) = byte ∷ []
piece_bytes line span_of (Group group) = span_bytes line (span_of group)

-- the span of a group of a match that begins at `start` and goes this way; none if there is no match
abbrev pub span_on : (start : ℕ) → Option Trace → (group : ℕ) → Option Span
span_on start None group = None
span_on start (Some trace) group = group_span (record { start = start; trace = trace }) group

-- the span of a group of a match of a line, which goes the way that the patterns prefer where it begins
abbrev pub span_of_group : List Re → (line : List ℕ) → Match → (group : ℕ) → Option Span
span_of_group res line m group = span_on m.start (attempt line (any_of res) accept m.start) group

-- what a match of a line is replaced by: the pieces for its pattern, with its groups
abbrev pub expansion : List Replacement → List Re → (line : List ℕ) → Match → List ℕ
expansion replacements res line m =
    flat_map (piece_bytes line (span_of_group res line m)) (pieces_for replacements m.pattern)

-- a line from an offset on, in which each of these matches is replaced
abbrev pub with_replaced : (expand : Match → List ℕ) → (line : List ℕ) → (from : ℕ) → List Match → List ℕ
with_replaced expand line from [] = drop from line
with_replaced expand line from (m ∷ ms) =
    slice_range line from m.start ++ expand m ++ with_replaced expand line m.end ms

-- a line in which each match of the patterns is replaced
abbrev pub replaced_line : List Replacement → List Re → (line : List ℕ) → List ℕ
replaced_line replacements res line =
    with_replaced (expansion replacements res line) line 0 (left_any false res line None)
