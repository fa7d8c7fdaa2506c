-- What a template stands for. It is read as Rust's regex crate reads replacements: `$1`, `$name`, `${1}` and `${name}`
-- stand for groups, and `$$` stands for `$`.
use Rattle.std.specs.Prelude.{ℕ, zero, suc, ◌≡◌, ◌-◌, ◌<◌, ◌==◌, nat_le, if◌then◌else◌, List, [], ◌∷◌, length, Option}
use Rattle.std.specs.Prelude.{None, Some, option_map, slice_get, slice_index, unwrap_or}
use Rattle.regex.specs.Templates.{group_called, name_at, number_in}
use Rattle.meta.specs.Names.{group_names}
use Rattle.meta.specs.declared.program.Programs.{Programs}
use Rattle.lgrep.specs.Usages.{capped_sum}
use Rattle.lgrep.specs.declared.template.Piece.{Piece}
use Rattle.lgrep.specs.declared.template.Piece.TheVariants.{Byte, Group}
use Rattle.lgrep.specs.declared.template.Replacement.{Replacement}

-- the number in a pattern of a group with this number in all patterns, of which `before` groups belong to earlier
-- patterns; none for these. Group 0 is the match of any pattern.
abbrev pub own_group : (before number : ℕ) → Option ℕ
own_group before number =
    if number == 0 then Some 0 else if nat_le number before then None else Some (number - before)

-- the group with this number in all patterns, if there is a number, otherwise the group with a name
abbrev pub by_number : (before : ℕ) → (number named : Option ℕ) → Option ℕ
by_number before None named = named
by_number before (Some number) named = own_group before number

-- the group to which a number in all patterns or a name refers, of a pattern whose groups have these names
abbrev pub group_for : (names : List (Option (List ℕ))) → (before : ℕ) → (name : List ℕ) → Option ℕ
group_for names before name = by_number before (number_in name) (group_called names name)

-- a piece before others, if there is one
abbrev pub with_piece : Option Piece → List Piece → List Piece
with_piece None pieces = pieces
with_piece (Some piece) pieces = piece ∷ pieces

module _ (group : List ℕ → Option ℕ) where
  -- the piece for a `$` before these bytes, and how many of them belong to it: `$$` is a `$`, and a name is the group
  -- to which it refers, if there is one; none if neither follows
  abbrev pub reference_at : List ℕ → Option (Option Piece × ℕ)
  reference_at rest =
      if slice_index rest 0 == 36 then Some (Some (Byte 36), 1)
      else option_map (λ found. (option_map Group (group found.0), found.1)) (name_at rest)

  -- the piece for a byte before these bytes, and how many of them belong to it: a byte is itself, except for a `$` of a
  -- reference
  abbrev pub piece_at : (byte : ℕ) → List ℕ → Option Piece × ℕ
  piece_at byte rest = unwrap_or (if byte == 36 then reference_at rest else None) (Some (Byte byte), 0)

  -- the pieces of a template after this many bytes
  abbrev pub pieces_of : (template : List ℕ) → (skipped : ℕ) → List Piece
  pieces_of [] skipped = []
  pieces_of (byte ∷ rest) (suc skipped) = pieces_of rest skipped
  pieces_of (byte ∷ rest) zero =
      with_piece (piece_at byte rest).0 (pieces_of rest (piece_at byte rest).1)

-- how many groups the patterns before this one have, without group 0; at most the largest 64-bit number
abbrev pub groups_before : Programs → (pattern : ℕ) → ℕ
groups_before programs zero = 0
groups_before programs (suc pattern) =
    capped_sum (groups_before programs pattern) (length (group_names programs pattern) - 1)

-- the pieces of a template for a pattern
abbrev pub template_pieces : Programs → (template : List ℕ) → (pattern : ℕ) → List Piece
template_pieces programs template pattern =
    pieces_of (group_for (group_names programs pattern) (groups_before programs pattern)) template 0

-- the pieces in a replacement, if there is one
abbrev pub pieces_in : Option Replacement → List Piece
pieces_in None = []
pieces_in (Some replacement) = replacement.pieces.items

-- the pieces by which the matches of a pattern are replaced
abbrev pub pieces_for : List Replacement → (pattern : ℕ) → List Piece
pieces_for replacements pattern = pieces_in (slice_get replacements pattern)

-- the matches of each of the first `count` patterns are replaced by what a template stands for
abbrev pub AreReplacements : Programs → (template : List ℕ) → (count : ℕ) → List Replacement → Type 0
AreReplacements programs template count replacements =
    (pattern : ℕ) → pattern < count → pieces_for replacements pattern ≡ template_pieces programs template pattern
