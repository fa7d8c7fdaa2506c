-- Concatenated texts that are split by their lengths, one after another.
use Rattle.std.proofs.Common.{ℕ, zero, suc, ◌≡◌, ◌∙◌, ◌+◌, ◌<◌, ◌≤◌, Bool, true, false, List, [], ◌∷◌, ◌++◌, All, Bor}
use Rattle.std.proofs.Common.{Some, add-one, ap, ap₂, arith, drop, get_or, length, map, refl, subst, sym, take}
use Rattle.std.specs.List.{IsSplitAt}
use Rattle.std.specs.Prelude.{◌≢◌, ◌==◌, Result, Ok, Err, IfErr, IsErrAnd, IsUtf8, slice_get, sum}
use Rattle.std.proofs.Math.Seq.{drop-cons, take-append_seam}
use Rattle.std.proofs.lemmas.List.{append_assoc, drop_all, length-map, map-append}
use Rattle.std.proofs.lemmas.List.Elements.{All-append, All-cons, All-nil}
use Rattle.std.proofs.lemmas.List.Sums.{sum_by-drop_more}
use Rattle.core.specs.Str.{IsValidUpTo}
use Rattle.lazydfa_c.specs.Texts.{IsFirstNotText, texts_in}
use Rattle.lazydfa_c.specs.declared.status.Status.{Status}

-- the remaining lengths add up to the length of the remaining texts exactly if all lengths add up to that of all texts
abbrev pub AddsUp : (texts rest lengths : List ℕ) → (at : ℕ) → Type 0
AddsUp texts rest lengths at = sum (drop at lengths) + length texts ≡ sum lengths + length rest

sum_from : (lengths : List ℕ) (at : ℕ) → at < length lengths
    → sum (drop at lengths) ≡ get_or lengths at 0 + sum (drop (at + 1) lengths)
sum_from lengths at inside = sum_by-drop_more (λ n. n) lengths at 0 inside

-- a part is as long as the next length
pub adds_more :
    (texts rest more lengths : List ℕ) (at : ℕ) → at < length lengths → AddsUp texts rest lengths at
    → length rest ≡ get_or lengths at 0 + length more → AddsUp texts more lengths (at + 1)
adds_more texts rest more lengths at inside adds part = omega (arith, adds, part, sum_from lengths at inside)

-- there are fewer bytes than the next length
pub adds_less :
    (texts rest lengths : List ℕ) (at : ℕ) → at < length lengths → AddsUp texts rest lengths at
    → length rest < get_or lengths at 0 → sum lengths ≢ length texts
adds_less texts rest lengths at inside adds less = λ same. omega (arith, adds, less, same, sum_from lengths at inside)

-- the texts that remain: the next part, and those of the rest after it
next_part : (rest lengths : List ℕ) (at : ℕ) → at < length lengths → texts_in rest (drop at lengths)
    ≡ take (get_or lengths at 0) rest ∷ texts_in (drop (get_or lengths at 0) rest) (drop (at + 1) lengths)
next_part rest lengths at inside =
    ap (texts_in rest)
    (drop-cons lengths at 0 inside ∙ ap (λ n. get_or lengths at 0 ∷ drop n lengths) (sym (add-one at)))

-- the text after some texts of the list
next_text : (before rest all : List (List ℕ)) (text : List ℕ) → before ++ text ∷ rest ≡ all
    → slice_get all (length before) ≡ Some text
next_text before rest all text is =
    ap (λ v. slice_get v (length before)) (sym is) ∙ seam before
  where
    seam : (xs : List (List ℕ)) → slice_get (xs ++ text ∷ rest) (length xs) ≡ Some text
    seam [] = refl
    seam (x ∷ xs) = seam xs

module _ (bytes lengths : List ℕ) (parts : List (Bor (List ℕ))) (rest part : List ℕ) (at : ℕ)
    (inside : at < length lengths)
    (cut : map (λ (text : Bor (List ℕ)). text.now) parts ++ texts_in rest (drop at lengths) ≡ texts_in bytes lengths)
    (utf8 : All IsUtf8 (map (λ (text : Bor (List ℕ)). text.now) parts))
    (is_part : part ≡ take (get_or lengths at 0) rest) where
  -- the parts before it, and those after it
  with_part :
      map (λ (text : Bor (List ℕ)). text.now) parts
      ++ part ∷ texts_in (drop (get_or lengths at 0) rest) (drop (at + 1) lengths)
      ≡ texts_in bytes lengths
  with_part =
      ap (λ v. map (λ (text : Bor (List ℕ)). text.now) parts ++ v)
      (ap (λ v. v ∷ texts_in (drop (get_or lengths at 0) rest) (drop (at + 1) lengths)) is_part
      ∙ sym (next_part rest lengths at inside))
      ∙ cut

  -- one more part is a text
  pub one_more :
      (new : List (Bor (List ℕ))) (more : List ℕ) (text : Bor (List ℕ)) → more ≡ drop (get_or lengths at 0) rest
      → text.now ≡ part → IsUtf8 part → new ≡ parts ++ text ∷ []
      → (map (λ (text : Bor (List ℕ)). text.now) new ++ texts_in more (drop (at + 1) lengths)
      ≡ texts_in bytes lengths)
      × All IsUtf8 (map (λ (text : Bor (List ℕ)). text.now) new)
  one_more new more text is_more now fine pushed =
      let now_of = map (λ (text : Bor (List ℕ)). text.now) in
      let grown : now_of new ≡ now_of parts ++ part ∷ [] =
      ap now_of pushed ∙ map-append (λ (text : Bor (List ℕ)). text.now) parts (text ∷ [])
      ∙ ap (λ v. now_of parts ++ v ∷ []) now in (
        ap₂ (λ v w. v ++ texts_in w (drop (at + 1) lengths)) grown is_more
            ∙ append_assoc (now_of parts) (part ∷ []) _ ∙ with_part,
        subst (All IsUtf8) (sym grown)
            (All-append IsUtf8 (now_of parts) (part ∷ []) utf8 (All-cons IsUtf8 part [] fine (All-nil IsUtf8))),
      )

  -- the next part is not a text
  pub not_text :
      (number offset : ℕ) → number ≡ length parts → IsValidUpTo part offset
      → IsFirstNotText (texts_in bytes lengths) number offset
  not_text number offset counted upto =
      let before = map (λ (text : Bor (List ℕ)). text.now) parts in
      let after = texts_in (drop (get_or lengths at 0) rest) (drop (at + 1) lengths) in
      let count : number ≡ length before =
      counted ∙ sym (length-map parts (λ (text : Bor (List ℕ)). text.now)) in
      record {
        before = subst (All IsUtf8)
            (sym (ap (λ n. take n (texts_in bytes lengths)) count ∙ ap (take (length before)) (sym with_part)
            ∙ take-append_seam before (part ∷ after)))
            utf8;
        text = part;
        is = ap (slice_get (texts_in bytes lengths)) count
            ∙ next_text before after (texts_in bytes lengths) part with_part;
        upto = upto;
      }

-- the length of a part
pub part_length : (mid : ℕ) (rest part more : List ℕ) → IsSplitAt rest mid part more
    → length rest ≡ mid + length more
part_length mid rest part more split = let sum = split.4 in omega (arith, sum)

-- bytes remain after all parts
pub bytes_left : (texts rest lengths : List ℕ) (at : ℕ) → length lengths ≤ at → AddsUp texts rest lengths at
    → (length rest ≡ 0 → ⊥) → sum lengths ≢ length texts
bytes_left texts rest lengths at past adds some =
    λ same. some (omega (arith, adds, same, ap sum (drop_all at lengths past)))

pub all_cut : (texts rest lengths : List ℕ) (at : ℕ) → length lengths ≤ at → AddsUp texts rest lengths at
    → length rest ≡ 0 → sum lengths ≡ length texts
all_cut texts rest lengths at past adds none = omega (arith, adds, none, ap sum (drop_all at lengths past))

pub is_filled : (n : ℕ) (none : Bool) → none ≡ (n == 0) → none ≡ false → n ≡ 0 → ⊥
is_filled zero true is some zeros = absurd (cc)
is_filled zero false is some zeros = absurd (cc)
is_filled (suc n) none is some zeros = absurd (cc)

-- a property of the error that is returned
pub error_is : {A : Type 0} (r : Result A Status) (e : Status) (P : Status → Type 0) → IsErrAnd r (λ x. x ≡ e) → P e
    → IfErr r P
error_is (Ok a) e P is h = absurd is
error_is (Err x) e P is h = subst P (sym is) h

-- a property of a result that is this error
pub error_at : {A : Type 0} (r : Result A Status) (e : Status) (P : Result A Status → Type 0)
    → IsErrAnd r (λ x. x ≡ e) → P (Err e) → P r
error_at (Ok a) e P is h = absurd is
error_at (Err x) e P is h = subst (λ v. P (Err v)) (sym is) h
