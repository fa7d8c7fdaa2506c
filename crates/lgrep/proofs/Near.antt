-- What is shown of lines that are near a line that is taken.
use Rattle.std.proofs.Common.{◌≡◌, ◌∙◌, ◌≤◌, ◌<◌, ◌-◌, ℕ, zero, suc, Bool, true, false, List, [], ◌∷◌, ◌++◌, refl, sym}
use Rattle.std.proofs.Common.{ap, arith, length, map, subst}
use Rattle.std.specs.Prelude.{cond}
use Rattle.std.proofs.lemmas.List.{append_assoc, append-nil}
use Rattle.regex_hir.specs.Re.{Re}
use Rattle.lgrep.specs.Around.{after_gap, held_line, is_near, lead, near_lines, separator, shown_around}
use Rattle.lgrep.specs.Shown.{found_shown, near_shown}
use Rattle.lgrep.specs.declared.show.Around.{Around}
use Rattle.lgrep.specs.declared.around.Held.{Held}
use Rattle.lgrep.specs.declared.around.Last.{Last}
use Rattle.lgrep.specs.declared.around.Last.TheVariants as last
use Rattle.lgrep.specs.declared.position.Position.{Position}
use Rattle.lgrep.specs.declared.show.Show.{Show}

-- a line with its position, and whether it is taken
abbrev pub Mark : Type 0
Mark = (Position × List ℕ) × Bool

lead_few : (n : ℕ) (lines : List Mark) → lead n lines ≤ n
lead_few n [] = omega arith
lead_few n ((line, true) ∷ lines) = omega arith
lead_few n ((line, false) ∷ lines) = omega (arith, lead_few n lines)

lead_held : (n : ℕ) (hs : List Held) (lines : List Mark)
    → lead n (map held_line hs ++ lines) ≡ lead n lines - length hs
lead_held n [] lines = omega arith
lead_held n (h ∷ hs) lines = omega (arith, lead_held n hs lines)

some_left : (left near : ℕ) → 0 < left → is_near left near ≡ true
some_left zero near more = absurd (omega (arith, more))
some_left (suc left) near more = refl

some_near : (left near : ℕ) → 0 < near → is_near left near ≡ true
some_near zero zero more = absurd (omega (arith, more))
some_near zero (suc near) more = refl
some_near (suc left) near more = refl

none_near : (near : ℕ) → near ≡ 0 → is_near 0 near ≡ false
none_near near none = ap (is_near 0) none

module _ (show : Show) (res : List Re) (around : Around) where
  -- what is shown of a line that is not taken, and of what follows
  abbrev of_other : (left : ℕ) → Last → Position × List ℕ → List Mark → Bool → List ℕ
  of_other left previous line lines near =
      cond near (separator previous ++ near_shown show line ++ shown_around show res around (left - 1) last.Line lines)
      (shown_around show res around 0 (after_gap previous) lines)

  -- a line that is not near a line that is taken
  pub hidden : (previous : Last) (line : Position × List ℕ) (lines : List Mark) → lead around.before lines ≡ 0
      → shown_around show res around 0 previous ((line, false) ∷ lines)
      ≡ shown_around show res around 0 (after_gap previous) lines
  hidden previous line lines none = ap (of_other 0 previous line lines) (none_near (lead around.before lines) none)

  -- a line that follows one that is taken
  pub follows : (left : ℕ) (previous : Last) (line : Position × List ℕ) (lines : List Mark) → 0 < left
      → shown_around show res around left previous ((line, false) ∷ lines)
      ≡ separator previous ++ near_shown show line ++ shown_around show res around (left - 1) last.Line lines
  follows left previous line lines more =
      ap (of_other left previous line lines) (some_left left (lead around.before lines) more)

  -- lines that are held, before one that is taken
  pub precede : (hs : List Held) (left : ℕ) (previous : Last) (line : Position × List ℕ) (lines : List Mark)
      → length hs ≤ around.before
      → shown_around show res around left previous (map held_line hs ++ (line, true) ∷ lines)
      ≡ separator previous ++ near_lines show (map held_line hs) ++ found_shown show res line
      ++ shown_around show res around around.after last.Line lines
  precede [] left previous line lines few =
      ap (λ v. v ++ found_shown show res line ++ shown_around show res around around.after last.Line lines)
      (sym (append-nil (separator previous)))
  precede (h ∷ hs) left previous line lines few =
      let first = separator previous in
      let own = near_shown show (held_line h).0 in
      let near = near_lines show (map held_line hs) in
      let found = found_shown show res line in
      let rest = shown_around show res around around.after last.Line lines in
      ap (of_other left previous (held_line h).0 (map held_line hs ++ (line, true) ∷ lines))
      (some_near left (lead around.before (map held_line hs ++ (line, true) ∷ lines))
      (omega (arith, few, lead_held around.before hs ((line, true) ∷ lines))))
      ∙ ap (λ v. first ++ own ++ v) (precede hs (left - 1) last.Line line lines (omega (arith, few)))
      ∙ sym (append_assoc (first ++ own) (near ++ found) rest)
      ∙ ap (λ v. v ++ rest) (sym (append_assoc (first ++ own) near found))
      ∙ ap (λ v. v ++ found ++ rest) (append_assoc first own near)

  -- the oldest of as many lines as can be held, before one that is not taken
  pub oldest : (h : Held) (hs : List Held) (previous : Last) (line : Position × List ℕ) (lines : List Mark)
      → around.before ≤ length (h ∷ hs)
      → shown_around show res around 0 previous (map held_line (h ∷ hs) ++ (line, false) ∷ lines)
      ≡ shown_around show res around 0 (after_gap previous) (map held_line hs ++ (line, false) ∷ lines)
  oldest h hs previous line lines full =
      hidden previous (held_line h).0 (map held_line hs ++ (line, false) ∷ lines)
      (omega (arith, full, lead_held around.before hs ((line, false) ∷ lines), lead_few around.before lines))

  -- lines that are held, and then no more
  pub none_follow : (hs : List Held) (previous : Last)
      → shown_around show res around 0 previous (map held_line hs ++ []) ≡ []
  none_follow [] previous = refl
  none_follow (h ∷ hs) previous =
      hidden previous (held_line h).0 (map held_line hs ++ [])
      (omega (arith, lead_held around.before hs [])) ∙ none_follow hs (after_gap previous)

  -- the oldest line that is held is left out
  pub room_made : (held new : List Held) (h : Held) (left : ℕ) (previous now : Last) (line : Position × List ℕ)
      (lines : List Mark) → held ≡ h ∷ new → left ≡ 0 → now ≡ after_gap previous → around.before ≤ length held
      → shown_around show res around left now (map held_line new ++ (line, false) ∷ lines)
      ≡ shown_around show res around left previous (map held_line held ++ (line, false) ∷ lines)
  room_made held new h left previous now line lines items none gap full =
      ap (λ (l : ℕ). shown_around show res around l now (map held_line new ++ (line, false) ∷ lines)) none
      ∙ ap (λ (p : Last). shown_around show res around 0 p (map held_line new ++ (line, false) ∷ lines)) gap
      ∙ sym (oldest h new previous line lines (subst (λ (hs : List Held). around.before ≤ length hs) items full))
      ∙ ap (λ (hs : List Held). shown_around show res around 0 previous (map held_line hs ++ (line, false) ∷ lines))
      (sym items)
      ∙ ap (λ (l : ℕ). shown_around show res around l previous (map held_line held ++ (line, false) ∷ lines)) (sym none)

  -- a line that is not near a line that is taken, where none can be held
  pub passed : (held : List Held) (left : ℕ) (previous now : Last) (line : Position × List ℕ) (lines : List Mark)
      → left ≤ 0 → around.before ≤ 0 → length held ≤ around.before → now ≡ after_gap previous
      → shown_around show res around left now (map held_line held ++ lines)
      ≡ shown_around show res around left previous (map held_line held ++ (line, false) ∷ lines)
  passed [] left previous now line lines none alone few gap =
      let is : left ≡ 0 = omega (arith, none) in
      ap (λ (l : ℕ). shown_around show res around l now lines) is
      ∙ ap (λ (p : Last). shown_around show res around 0 p lines) gap
      ∙ sym (hidden previous line lines (omega (arith, alone, lead_few around.before lines)))
      ∙ ap (λ (l : ℕ). shown_around show res around l previous ((line, false) ∷ lines)) (sym is)
  passed (h ∷ hs) left previous now line lines none alone few gap = absurd (omega (arith, alone, few))

  -- what is shown before a line that is taken
  pub shown_before : (held new : List Held) (left : ℕ) (previous : Last) (line : Position × List ℕ) (lines : List Mark)
      (old mid now : List ℕ) → mid ≡ old ++ separator previous → now ≡ mid ++ near_lines show (map held_line held)
      → new ≡ [] → length held ≤ around.before
      → now ++ found_shown show res line
      ++ shown_around show res around around.after last.Line (map held_line new ++ lines)
      ≡ old ++ shown_around show res around left previous (map held_line held ++ (line, true) ∷ lines)
  shown_before held new left previous line lines old mid now first second empty few =
      let gap = separator previous in
      let near = near_lines show (map held_line held) in
      let found = found_shown show res line in
      let rest = shown_around show res around around.after last.Line lines in
      ap (λ (hs : List Held). now ++ found
      ++ shown_around show res around around.after last.Line (map held_line hs ++ lines)) empty
      ∙ ap (λ v. v ++ found ++ rest) second ∙ ap (λ v. v ++ near ++ found ++ rest) first
      ∙ ap (λ v. v ++ found ++ rest) (append_assoc old gap near)
      ∙ ap (λ v. v ++ rest) (append_assoc old (gap ++ near) found)
      ∙ append_assoc old (gap ++ near ++ found) rest
      ∙ ap (λ v. old ++ v) (sym (precede held left previous line lines few))

-- one more line that is held
pub near_push : (show : Show) (hs : List Held) (h : Held)
    → near_lines show (map held_line (hs ++ h ∷ []))
    ≡ near_lines show (map held_line hs) ++ near_shown show (held_line h).0
near_push show [] h = append-nil (near_shown show (held_line h).0)
near_push show (x ∷ hs) h =
    let own = near_shown show (held_line x).0 in
    ap (λ v. own ++ v) (near_push show hs h)
    ∙ sym (append_assoc own (near_lines show (map held_line hs)) (near_shown show (held_line h).0))
