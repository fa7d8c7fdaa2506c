-- Lines in which matches are replaced, one match after another.
use Rattle.std.proofs.Common.{◌≡◌, ◌∙◌, ℕ, Bool, false, List, [], ◌∷◌, ◌++◌, Option, Some, None, refl}
use Rattle.std.proofs.Common.{ap, ap₂, drop, subst, sym}
use Rattle.std.specs.Option.{unwrap_or}
use Rattle.std.specs.Prelude.{flat_map, slice_range}
use Rattle.std.proofs.lemmas.List.{append_assoc, append-nil}
use Rattle.regex_hir.specs.Find as kit
use Rattle.regex_hir.specs.Re.{Re}
use Rattle.automata_base.specs.declared.util.search.Span.{Span}
use Rattle.regex_automata.specs.Promises.{Match}
use Rattle.regex_automata.specs.declared.hybrid.regex.Regex.{Regex}
use Rattle.meaning.specs.Patterns.{left_any, numbered_match}
use Rattle.patterns.specs.Iteration.{IsNextMeant}
use Rattle.patterns.specs.Patterns.{IsRegexOf}
use Rattle.meta.specs.Captures.{HoldGroups, span_in}
use Rattle.meta.specs.Groups.{FindAllGroups, IsPreferredMatch}
use Rattle.meta.specs.Laws.{IsOfPreferred, NextIsPreferred}
use Rattle.meta.specs.declared.captures.Captures.{Captures}
use Rattle.meta.specs.declared.program.Program.{Program}
use Rattle.lgrep.specs.Lines.{bytewise}
use Rattle.lgrep.specs.Replaced.{expansion, piece_bytes, replaced_line, span_bytes, span_of_group, span_on}
use Rattle.lgrep.specs.Replaced.{with_replaced}
use Rattle.lgrep.specs.Shown.{replacements_shown, shown_after}
use Rattle.lgrep.specs.Templates.{pieces_for}
use Rattle.lgrep.specs.declared.show.Frame.{Frame}
use Rattle.lgrep.specs.declared.template.Piece.{Piece}
use Rattle.lgrep.specs.declared.template.Piece.TheVariants.{Byte, Group}
use Rattle.lgrep.specs.declared.template.Replacement.{Replacement}
use Rattle.lgrep.proofs.Printing.{any_bytes}

module _ (line : List ℕ) (f g : ℕ → Option Span) (same : (n : ℕ) → f n ≡ g n) where
  -- a piece stands for the same bytes where groups have the same spans
  piece_same : (piece : Piece) → piece_bytes line f piece ≡ piece_bytes line g piece
  piece_same (Byte byte) = refl
  piece_same (Group n) = ap (span_bytes line) (same n)

  -- and so do pieces
  pieces_same : (pieces : List Piece) → flat_map (piece_bytes line f) pieces ≡ flat_map (piece_bytes line g) pieces
  pieces_same [] = refl
  pieces_same (piece ∷ pieces) = ap₂ (λ a b. a ++ b) (piece_same piece) (pieces_same pieces)

module _ (replacements : List Replacement) (res : List Re) (line : List ℕ) (found : Match) (captures : Captures) where
  -- the groups of a match have the spans of the way that the patterns prefer
  spans_held :
      (m : kit.Match) → IsPreferredMatch res line m → found ≡ numbered_match res line m → HoldGroups m captures
      → (n : ℕ) → span_in captures n ≡ span_of_group res line found n
  spans_held m way same held n =
      held n
      ∙ sym (ap (λ (f : Match). span_of_group res line f n) same ∙ ap (λ t. span_on m.start t n) way)

  -- pieces with the groups that captures hold are what a match is replaced by
  pub expanded :
      (was is : List ℕ)
      → is ≡ was ++ flat_map (piece_bytes line (span_in captures)) (pieces_for replacements found.pattern)
      → ((m : kit.Match) → IsPreferredMatch res line m → found ≡ numbered_match res line m → HoldGroups m captures)
      → IsOfPreferred res line found → is ≡ was ++ expansion replacements res line found
  expanded was is said held of =
      said
      ∙ ap (λ v. was ++ v)
      (pieces_same line (span_in captures) (span_of_group res line found)
      (spans_held of.0 of.1 of.2 (held of.0 of.1 of.2)) (pieces_for replacements found.pattern))

module _ (regex : Regex) (programs : List Program) (replacements : List Replacement) (line : List ℕ) where
  -- for each meaning of the patterns
  abbrev ForMeanings : (List Re → Type 0) → Type 0
  ForMeanings P =
      (case_insensitive : Bool) (res : List Re) → IsRegexOf (bytewise case_insensitive) res regex
      → FindAllGroups programs res → P res

  -- what a line is replaced by so far, with the rest of the line in which the remaining matches are replaced, is the
  -- line in which all matches are replaced
  abbrev pub Replaces : (was : List ℕ) → (last : Option ℕ) → Type 0
  Replaces was last = ForMeanings (λ res.
      was ++ with_replaced (expansion replacements res line) line (unwrap_or last 0) (left_any false res line last)
      ≡ replaced_line replacements res line)

  -- what is shown so far, with what replaces the remaining matches, is what replaces all matches
  abbrev pub Lists : (prefix : List ℕ) → Frame → (old was : List ℕ) → (last : Option ℕ) → Type 0
  Lists prefix frame old was last = ForMeanings (λ res.
      was ++ replacements_shown (expansion replacements res line) prefix frame (left_any false res line last)
      ≡ old ++ replacements_shown (expansion replacements res line) prefix frame (left_any false res line None))

  -- what a match of the line adds
  abbrev pub Expands : (m : Match) → (was is : List ℕ) → Type 0
  Expands m was is =
      (res : List Re) → FindAllGroups programs res → IsOfPreferred res line m
      → is ≡ was ++ expansion replacements res line m

  module _ (own : Regex) (hay : List ℕ) (same : own ≡ regex) (same_line : hay ≡ line) (law : NextIsPreferred)
      (last : Option ℕ) where
    next : (o : Option Match) → IsNextMeant own hay last o → IsNextMeant regex line last o
    next o h = subst (λ (r : Regex). IsNextMeant r line last o) same (subst (λ v. IsNextMeant own v last o) same_line h)

    module _ (m : Match) (last' : Option ℕ) (h : IsNextMeant own hay last (Some m)) (end : last' ≡ Some m.end) where
      first : ForMeanings (λ res. left_any false res line last ≡ m ∷ left_any false res line (Some m.end))
      first case_insensitive res of groups =
          next (Some m) h (bytewise case_insensitive) res of (any_bytes case_insensitive line)

      adds : (was is : List ℕ) → Expands m was is
          → ForMeanings (λ res. is ≡ was ++ expansion replacements res line m)
      adds was is more case_insensitive res of groups =
          more res groups
          (law (bytewise case_insensitive) res line last m (first case_insensitive res of groups))

      pub replace_turn :
          (was mid is : List ℕ) → Replaces was last → mid ≡ was ++ slice_range line (unwrap_or last 0) m.start
          → Expands m mid is → Replaces is last'
      replace_turn was mid is so before more = λ case_insensitive res of groups.
          let e = expansion replacements res line in
          let rest = with_replaced e line m.end (left_any false res line (Some m.end)) in
          ap (λ (v : Option ℕ). is ++ with_replaced e line (unwrap_or v 0) (left_any false res line v)) end
          ∙ ap (λ v. v ++ rest) (adds mid is more case_insensitive res of groups)
          ∙ ap (λ v. (v ++ e m) ++ rest) before
          ∙ ap (λ v. v ++ rest) (append_assoc was (slice_range line (unwrap_or last 0) m.start) (e m))
          ∙ append_assoc was (slice_range line (unwrap_or last 0) m.start ++ e m) rest
          ∙ ap (λ ms. was ++ with_replaced e line (unwrap_or last 0) ms) (sym (first case_insensitive res of groups))
          ∙ so case_insensitive res of groups

      pub list_turn :
          (prefix : List ℕ) (frame : Frame) (old was bytes is : List ℕ) → Lists prefix frame old was last
          → Expands m [] bytes → is ≡ was ++ shown_after prefix frame m.start bytes → Lists prefix frame old is last'
      list_turn prefix frame old was bytes is so more shows = λ case_insensitive res of groups.
          let e = expansion replacements res line in
          let rest = replacements_shown e prefix frame (left_any false res line (Some m.end)) in
          ap (λ v. is ++ replacements_shown e prefix frame (left_any false res line v)) end
          ∙ ap (λ v. v ++ rest) shows
          ∙ ap (λ v. (was ++ shown_after prefix frame m.start v) ++ rest)
          (adds [] bytes more case_insensitive res of groups)
          ∙ append_assoc was (shown_after prefix frame m.start (e m)) rest
          ∙ ap (λ ms. was ++ replacements_shown e prefix frame ms) (sym (first case_insensitive res of groups))
          ∙ so case_insensitive res of groups

    module _ (h : IsNextMeant own hay last None) where
      none : ForMeanings (λ res. left_any false res line last ≡ [])
      none case_insensitive res of groups =
          next None h (bytewise case_insensitive) res of (any_bytes case_insensitive line)

      pub replace_end :
          (was is : List ℕ) → Replaces was last → is ≡ was ++ drop (unwrap_or last 0) line
          → ForMeanings (λ res. is ≡ replaced_line replacements res line)
      replace_end was is so rest = λ case_insensitive res of groups.
          rest
          ∙ ap (λ ms. was ++ with_replaced (expansion replacements res line) line (unwrap_or last 0) ms)
          (sym (none case_insensitive res of groups))
          ∙ so case_insensitive res of groups

      pub list_end :
          (prefix : List ℕ) (frame : Frame) (old was : List ℕ) → Lists prefix frame old was last
          → ForMeanings (λ res. was ≡ old
          ++ replacements_shown (expansion replacements res line) prefix frame (left_any false res line None))
      list_end prefix frame old was so = λ case_insensitive res of groups.
          sym (append-nil was)
          ∙ ap (λ ms. was ++ replacements_shown (expansion replacements res line) prefix frame ms)
          (sym (none case_insensitive res of groups))
          ∙ so case_insensitive res of groups
