-- Lines that are shown one after another, with lines around those that are taken.
use Rattle.std.proofs.Common.{◌≡◌, ◌∙◌, ◌+◌, ◌≤◌, ◌<◌, ℕ, suc, zero, Bool, true, false, List, [], ◌∷◌, ◌++◌, refl, sym}
use Rattle.std.proofs.Common.{add-one, ap, arith, drop, get_or, length, map, subst, take}
use Rattle.std.specs.Prelude.{OnOk, Result, Ok, Err}
use Rattle.std.proofs.lemmas.List.{drop_all, drop_more, map-append}
use Rattle.std.proofs.Math.Seq.{take-suc}
use Rattle.regex_hir.specs.Re.{Re}
use Rattle.lgrep.specs.Around.{held_line, shown_around}
use Rattle.lgrep.specs.Contexts.{shown_in}
use Rattle.lgrep.specs.Lines.{count_after, marked_line, one_more, taken_lines}
use Rattle.lgrep.specs.Shown.{found_shown}
use Rattle.lgrep.specs.declared.show.Around.{Around}
use Rattle.lgrep.specs.declared.around.Context.{Context}
use Rattle.lgrep.specs.declared.around.Held.{Held}
use Rattle.lgrep.specs.declared.around.Last.{Last}
use Rattle.lgrep.specs.declared.lines.Marked.{Marked}
use Rattle.lgrep.specs.declared.position.Position.{Position}
use Rattle.lgrep.specs.declared.show.Show.{Show}
use Rattle.lgrep.proofs.Near.{Mark, none_follow}

-- what follows for a call that returns Ok, from two of its clauses
pub on_ok_both : {U E A B C : Type 0} (r : Result U E) → (A → B → C) → OnOk r A → OnOk r B → OnOk r C
on_ok_both (Ok u) f a b = f a b
on_ok_both (Err e) f a b = tt

-- a line that is taken is shown after what is shown before it
pub with_taken :
    (show : Show) (res : List Re) (old mid new : Context) (line : Position × List ℕ) (taken : Bool) (lines : List Mark)
    (was before is : List ℕ) → taken ≡ true
    → before ++ found_shown show res line ++ shown_in show res mid lines
    ≡ was ++ shown_in show res old ((line, true) ∷ lines)
    → is ≡ before ++ found_shown show res line → new ≡ mid
    → is ++ shown_in show res new lines ≡ was ++ shown_in show res old ((line, taken) ∷ lines)
with_taken show res old mid new line taken lines was before is on first more same =
    ap (λ (x : Context). is ++ shown_in show res x lines) same ∙ ap (λ v. v ++ shown_in show res mid lines) more ∙ first
    ∙ ap (λ t. was ++ shown_in show res old ((line, t) ∷ lines)) (sym on)

-- if no more lines follow, nothing more is shown
ended_by :
    (show : Show) (res : List Re) (around : Around) (held : List Held) (left : ℕ) (previous : Last)
    → (0 < left → held ≡ []) → shown_around show res around left previous (map held_line held ++ []) ≡ []
ended_by show res around [] left previous side = refl
ended_by show res around (h ∷ hs) zero previous side = none_follow show res around (h ∷ hs) previous
ended_by show res around (h ∷ hs) (suc left) previous side = absurd (some_none (side (omega arith))) where
  some_none : h ∷ hs ≡ [] → ⊥
  some_none e = cc

pub ended : (show : Show) (res : List Re) (context : Context) → shown_in show res context [] ≡ []
ended show res context =
    ended_by show res context.around context.held.items context.left context.last context.one_side

counted_more : {A : Type 0} (n : ℕ) (xs : List (A × Bool)) (y : A × Bool)
    → count_after n (taken_lines (xs ++ y ∷ [])) ≡ count_after (count_after n (taken_lines xs)) (taken_lines (y ∷ []))
counted_more n [] y = refl
counted_more n ((x, true) ∷ xs) y = counted_more (one_more n) xs y
counted_more n ((x, false) ∷ xs) y = counted_more n xs y

module _ (lines : List Marked) (i : ℕ) (d : Marked) (inside : i < length lines) where
  left : map marked_line (drop i lines) ≡ marked_line (get_or lines i d) ∷ map marked_line (drop (i + 1) lines)
  left = ap (map marked_line) (drop_more lines i d inside)

  grown : map marked_line (take (i + 1) lines) ≡ map marked_line (take i lines) ++ marked_line (get_or lines i d) ∷ []
  grown =
      ap (λ v. map marked_line (take v lines)) (add-one i) ∙ ap (map marked_line) (take-suc lines i d inside)
      ∙ map-append marked_line (take i lines) (get_or lines i d ∷ [])

  -- one more line is shown
  pub mark_next :
      (of now : Show) (res : List Re) (old new : Context) (was total is : List ℕ) (rest : List Mark) → now ≡ of
      → was ++ shown_in of res old (map marked_line (drop i lines) ++ rest) ≡ total
      → ((xs : List Mark) → is ++ shown_in now res new xs
      ≡ was ++ shown_in now res old (marked_line (get_or lines i d) ∷ xs))
      → is ++ shown_in of res new (map marked_line (drop (i + 1) lines) ++ rest) ≡ total
  mark_next of now res old new was total is rest same so step =
      subst (λ (s : Show). is ++ shown_in s res new (map marked_line (drop (i + 1) lines) ++ rest)
      ≡ was ++ shown_in s res old (marked_line (get_or lines i d) ∷ (map marked_line (drop (i + 1) lines) ++ rest)))
      same
      (step (map marked_line (drop (i + 1) lines) ++ rest))
      ∙ ap (λ ms. was ++ shown_in of res old (ms ++ rest)) (sym left) ∙ so

  -- and counted if it is taken
  pub mark_counted :
      (n was is : ℕ) → was ≡ count_after n (taken_lines (map marked_line (take i lines)))
      → is ≡ count_after was (taken_lines (marked_line (get_or lines i d) ∷ []))
      → is ≡ count_after n (taken_lines (map marked_line (take (i + 1) lines)))
  mark_counted n was is so more =
      more ∙ ap (λ v. count_after v (taken_lines (marked_line (get_or lines i d) ∷ []))) so
      ∙ sym (ap (λ ms. count_after n (taken_lines ms)) grown
      ∙ counted_more n (map marked_line (take i lines)) (marked_line (get_or lines i d)))

-- all lines are shown
pub marks_end :
    (lines : List Marked) (i : ℕ) (show : Show) (res : List Re) (now : Context) (is total : List ℕ) (rest : List Mark)
    → length lines ≤ i → is ++ shown_in show res now (map marked_line (drop i lines) ++ rest) ≡ total
    → is ++ shown_in show res now rest ≡ total
marks_end lines i show res now is total rest all so =
    ap (λ (left : List Marked). is ++ shown_in show res now (map marked_line left ++ rest)) (sym (drop_all i lines all))
    ∙ so
