-- How a template is read.
use Rattle.std.proofs.Common.{◌≡◌, ◌≢◌, ◌∙◌, ◌+◌, ◌-◌, ◌<◌, ◌≤◌, ◌==◌, ℕ, zero, suc, Bool, true, false, cond, List, []}
use Rattle.std.proofs.Common.{◌∷◌, ◌++◌, Option, Some, None, refl, sym, ap, add-one, arith, drop, drop-drop, get_or}
use Rattle.std.proofs.Common.{⊎_elim, length, length-drop, lt-ltb, ltb-true, nat_eq, ne_eqb, take}
use Rattle.std.proofs.lemmas.Option.{same_Some}
use Rattle.std.specs.Prelude.{IsUtf8, nat_lt, position, slice_index}
use Rattle.std.specs.List.{position_from, position_or_len, prefix_len}
use Rattle.std.specs.Option.{option_or}
use Rattle.std.specs.Str.{is_utf8}
use Rattle.std.proofs.lemmas.Bool.{cases_lt, false_from_ne_true}
use Rattle.std.proofs.lemmas.List.{append-nil, drop_all, drop_more}
use Rattle.std.proofs.lemmas.Str.{IsUtf8-from_is_utf8, is_utf8-from_IsUtf8}
use Rattle.regex.proofs.TemplateLemmas.{index_is_position, name_is_text}
use Rattle.regex.specs.Names.{IsIndexOf}
use Rattle.regex_hir.specs.Text.{is_some_and}
use lib.Pointwise.{pointwise}
use Rattle.regex.specs.Templates.{group_called, is_name_byte, name_at, number_in}
use Rattle.meta.specs.Names.{group_names}
use Rattle.meta.specs.declared.program.Programs.{Programs}
use Rattle.lgrep.specs.Templates.{by_number, group_for, own_group, piece_at, pieces_for, pieces_of, template_pieces}
use Rattle.lgrep.specs.Templates.{groups_before, with_piece}
use Rattle.lgrep.specs.Usages.{capped_sum}
use Rattle.lgrep.specs.declared.template.Piece.{Piece}
use Rattle.lgrep.specs.declared.template.Replacement.{Replacement}

module _ (names : List (Option (List ℕ))) (before : ℕ) (name : List ℕ) where
  -- a group that is called by a number
  pub number_called : (number : ℕ) (own : Option ℕ) → number_in name ≡ Some number → own ≡ own_group before number
      → own ≡ group_for names before name
  number_called number own is said =
      said ∙ sym (ap (λ (n : Option ℕ). by_number before n (group_called names name)) is)

  -- a group that is called by a name
  pub name_called : (own : Option ℕ) → number_in name ≡ None → IsIndexOf names name own
      → own ≡ group_for names before name
  unfolding group_called
  name_called own is said =
      index_is_position names name own said
      ∙ sym (ap (λ (n : Option ℕ). option_or n
      (position_from (λ other. is_some_and other (pointwise nat_eq name)) 0 names)) is)
      ∙ sym (ap (λ (n : Option ℕ). by_number before n (group_called names name)) is)

none_at : (b : Bool) (k : ℕ) → None ≡ cond b (Some k) None → b ≡ false
none_at true k e = absurd (cc)
none_at false k e = refl

-- the value of an option that is chosen by a test
pub some_at : (b : Bool) (k end : ℕ) → Some end ≡ cond b (Some k) None → (b ≡ true) × (end ≡ k)
some_at true k end e = (refl, same_Some end k e)
some_at false k end e = absurd (cc)

-- a reference that begins with a brace
module _ (rest : List ℕ) (first : slice_index rest 0 ≡ 123) where
  abbrev closing : ℕ
  closing = position_or_len (λ b. b == 125) (drop 1 rest)

  abbrev closes : Bool
  closes = nat_lt closing (length (drop 1 rest))

  pub brace_none : None ≡ position (λ b. b == 125) (drop 1 rest) → None ≡ name_at rest
  unfolding name_at
  brace_none e = rw (name_at, first, none_at closes closing e)

  module _ (end : ℕ) (e : Some end ≡ position (λ b. b == 125) (drop 1 rest)) where
    pub brace_text : IsUtf8 (take end (drop 1 rest)) → Some (take end (drop 1 rest), end + 2) ≡ name_at rest
    unfolding name_at
    brace_text text =
        let is = some_at closes closing end e in
        rw (name_at, first, is.0, ← is.1, is_utf8-from_IsUtf8 (take end (drop 1 rest)) text)

    pub brace_broken : (IsUtf8 (take end (drop 1 rest)) → ⊥) → None ≡ name_at rest
    unfolding name_at
    brace_broken broken =
        let is = some_at closes closing end e in
        let no = false_from_ne_true (is_utf8 (take end (drop 1 rest)))
        (λ t. broken (IsUtf8-from_is_utf8 (take end (drop 1 rest)) t)) in
        rw (name_at, first, is.0, ← is.1, no)

    pub brace_within : end + 2 ≤ length rest
    brace_within =
        let is = some_at closes closing end e in
        let inside = ltb-true closing (length (drop 1 rest)) is.0 in omega (arith, length-drop 1 rest, is.1)

-- a reference that does not
module _ (rest : List ℕ) (other : slice_index rest 0 ≢ 123) (n : ℕ) (e : n ≡ prefix_len is_name_byte rest) where
  pub bare_none : n ≡ 0 → None ≡ name_at rest
  unfolding name_at
  bare_none none = rw (name_at, ne_eqb (slice_index rest 0) 123 other, ← e, none)

  pub bare_text : 0 < n → Some (take n rest, n) ≡ name_at rest
  unfolding name_at
  bare_text some = rw (name_at, ne_eqb (slice_index rest 0) 123 other, ← e, lt-ltb 0 n some)

  pub bare_valid : IsUtf8 (take n rest)
  bare_valid = rw e (name_is_text rest)

module _ (g : List ℕ → Option ℕ) where
  skip_over : (t : List ℕ) (n : ℕ) → pieces_of g t n ≡ pieces_of g (drop n t) 0
  skip_over t zero = refl
  skip_over [] (suc n) = refl
  skip_over (b ∷ t) (suc n) = skip_over t n

  -- one more byte or reference is read
  pub read_turn :
      (t : List ℕ) (at : ℕ) (found : Option Piece × ℕ) (was is all : List Piece) → at < length t
      → found ≡ piece_at g (get_or t at 0) (drop (at + 1) t)
      → ((rest : List Piece) → is ++ rest ≡ was ++ with_piece found.0 rest)
      → was ++ pieces_of g (drop at t) 0 ≡ all → is ++ pieces_of g (drop (at + (1 + found.1)) t) 0 ≡ all
  read_turn t at found was is all inside said more so =
      let sum_is : at + 1 + found.1 ≡ at + (1 + found.1) = omega arith in
      let rest = pieces_of g (drop (at + (1 + found.1)) t) 0 in
      let onward : rest ≡ pieces_of g (drop (at + 1) t) found.1 =
      sym (skip_over (drop (at + 1) t) found.1 ∙ rw (drop-drop, sum_is) refl) in
      more rest
      ∙ ap (λ v. was ++ with_piece found.0 v) onward
      ∙ ap (λ (f : Option Piece × ℕ). was ++ with_piece f.0 (pieces_of g (drop (at + 1) t) f.1)) said
      ∙ ap (λ v. was ++ pieces_of g v 0) (sym (drop_more t at 0 inside))
      ∙ so

  -- nothing is left to read
  pub read_end : (t : List ℕ) (at : ℕ) (was all : List Piece) → length t ≤ at
      → was ++ pieces_of g (drop at t) 0 ≡ all → was ≡ all
  read_end t at was all past so =
      sym (append-nil was) ∙ ap (λ v. was ++ pieces_of g v 0) (sym (drop_all at t past)) ∙ so

-- the pieces of a replacement among others, to which another is added
pub pieces_before : (rs : List Replacement) (r : Replacement) (k : ℕ) → k < length rs
    → pieces_for (rs ++ r ∷ []) k ≡ pieces_for rs k
pieces_before [] r k inside = absurd (omega (arith, inside))
pieces_before (x ∷ rs) r zero inside = refl
pieces_before (x ∷ rs) r (suc k) inside = pieces_before rs r k (omega (arith, inside))

-- the pieces of the last replacement
pub pieces_last : (rs : List Replacement) (r : Replacement) → pieces_for (rs ++ r ∷ []) (length rs) ≡ r.pieces.items
pieces_last [] r = refl
pieces_last (x ∷ rs) r = pieces_last rs r

-- one more pattern has its replacement
pub replacement_turn :
    (programs : Programs) (template : List ℕ) (rs : List Replacement) (r : Replacement) (number : ℕ)
    → length rs ≡ number → r.pieces.items ≡ template_pieces programs template number
    → ((k : ℕ) → k < number → pieces_for rs k ≡ template_pieces programs template k) → (k : ℕ) → k < number + 1
    → pieces_for (rs ++ r ∷ []) k ≡ template_pieces programs template k
replacement_turn programs template rs r number count own so k inside =
    ⊎_elim (λ lt. pieces_before rs r k (omega (arith, lt, count)) ∙ so k lt)
    (λ ge. let here : k ≡ number = omega (arith, ge, inside) in
    rw (here, ← count) (pieces_last rs r ∙ rw count own))
    (cases_lt k number)

module _ (programs : Programs) (pattern number before : ℕ) (same : pattern ≡ number)
    (counted : before ≡ groups_before programs number) where
  -- the pieces for a pattern
  pub own_pieces :
      (template bytes : List ℕ) (pieces : List Piece)
      → pieces ≡ pieces_of (group_for (group_names programs pattern) before) bytes 0 → bytes ≡ template
      → pieces ≡ template_pieces programs template number
  own_pieces template bytes pieces said is = rw (same, counted, is) at said

  -- the groups before the next pattern
  pub count_turn :
      (groups own next : ℕ) → own ≡ length (group_names programs pattern) → groups ≡ own - 1
      → next ≡ capped_sum before groups → next ≡ groups_before programs (number + 1)
  count_turn groups own next count less sum =
      rw add-one (sum ∙ ap (capped_sum before) (less ∙ ap (λ (n : ℕ). n - 1) (rw same at count))
      ∙ ap (λ (n : ℕ). capped_sum n (length (group_names programs number) - 1)) counted)
