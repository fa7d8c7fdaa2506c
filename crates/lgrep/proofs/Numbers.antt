-- Lines that are searched and taken one by one, with their positions.
use Rattle.std.proofs.Common.{◌≡◌, ◌∙◌, ℕ, Bool, Bor, true, false, List, [], ◌∷◌, ◌++◌, Option, None, refl, sym, ap}
use Rattle.std.proofs.Common.{subst, map}
use Rattle.std.specs.Prelude.{◌↔◌, IsTrue, cond, not}
use Rattle.std.specs.Iterator.{Yields}
use Rattle.std.proofs.lemmas.Iterator.{YieldsList}
use Rattle.std.proofs.lemmas.Iterator.Consumers.{YieldsList-end}
use Rattle.std.proofs.lemmas.List.{map-append}
use Rattle.lgrep.specs.declared.lines.Line.{Line}
use Rattle.lgrep.specs.declared.lines.Marked.{Marked}
use Rattle.lgrep.specs.declared.position.Position.{Position}
use Rattle.lgrep.specs.Lines.{AreMarked, AreMatching, IsWanted, count_after, found_line, is_limit, leaves, marked_line}
use Rattle.lgrep.specs.Lines.{marks, one_more, position_after, position_after_all, positioned, taken_lines, takes}

-- a loop that has ended has gone through all parts
pub gone :
    {S : Type 0} {steps : S → Option (Bor (List ℕ)) → S → Type 0} (s t u : S) (xs : List (Bor (List ℕ)))
    {all : List (List ℕ)} {r : Option (Bor (List ℕ))}
    → Yields steps s xs t → r ≡ None → steps t r u → YieldsList steps (λ x. x.now) s all → map (λ x. x.now) xs ≡ all
gone s t u xs by is last parts = (YieldsList-end parts xs t by _ u is last).0

false_true : false ≡ true → ⊥
false_true e = cc

-- whether a line is taken, by whether it has a match
pub wanted :
    (invert has : Bool) {Has : Type 0} → (IsTrue has ↔ Has) → IsTrue (cond invert (not has) has) ↔ IsWanted invert Has
wanted false has h = h
wanted true true h = (λ t. absurd (false_true t), λ none. absurd (none (h.0 refl)))
wanted true false h = (λ t has. false_true (h.1 has), λ none. refl)

pub counted_push :
    {A : Type 0} (n : ℕ) (xs : List A) (x : A) → count_after n (xs ++ x ∷ []) ≡ one_more (count_after n xs)
counted_push n [] x = refl
counted_push n (y ∷ xs) x = counted_push (one_more n) xs x

positions_push :
    (at : Position) (xs : List (List ℕ)) (x : List ℕ)
    → position_after_all at (xs ++ x ∷ []) ≡ position_after (position_after_all at xs) x
positions_push at [] x = refl
positions_push at (y ∷ xs) x = positions_push (position_after at y) xs x

positioned_push : (at : Position) (xs : List (List ℕ)) (x : List ℕ) →
    positioned at (xs ++ x ∷ []) ≡ positioned at xs ++ (position_after_all at xs, x) ∷ []
positioned_push at [] x = refl
positioned_push at (y ∷ xs) x = ap (λ rest. (at, y) ∷ rest) (positioned_push (position_after at y) xs x)

taken_push : {A : Type 0} (xs : List (A × Bool)) (x : A) (taken : Bool) (n was is : ℕ) →
    was ≡ count_after n (taken_lines xs) → is ≡ cond taken (one_more was) was
    → is ≡ count_after n (taken_lines (xs ++ (x, taken) ∷ []))
taken_push [] x true n was is so more = more ∙ ap one_more so
taken_push [] x false n was is so more = more ∙ so
taken_push ((y, true) ∷ xs) x taken n was is so more = taken_push xs x taken (one_more n) was is so more
taken_push ((y, false) ∷ xs) x taken n was is so more = taken_push xs x taken n was is so more

-- how many lines are taken, with one more line
pub counted_mark : (found longer : List Marked) (own : Marked) (n was is : ℕ) → longer ≡ found ++ own ∷ [] →
    was ≡ count_after n (taken_lines (map marked_line found)) → is ≡ cond own.is_taken (one_more was) was
    → is ≡ count_after n (taken_lines (map marked_line longer))
counted_mark found longer own n was is items so more =
    taken_push (map marked_line found) (found_line own.line) own.is_taken n was is so more
    ∙ sym (ap (λ ms. count_after n (taken_lines ms))
    (ap (map marked_line) items ∙ map-append marked_line found (own ∷ [])))

abbrev nows : List (Bor (List ℕ)) → List (List ℕ)
nows yielded = map (λ bytes. bytes.now) yielded

module _ (n : Position) (yielded : List (Bor (List ℕ))) (line : Bor (List ℕ)) where
  one : nows (yielded ++ line ∷ []) ≡ nows yielded ++ line.now ∷ []
  one = map-append (λ (bytes : Bor (List ℕ)). bytes.now) yielded (line ∷ [])

  pub position_turn :
      (was is : Position) → was ≡ position_after_all n (nows yielded) → is ≡ position_after was line.now
      → is ≡ position_after_all n (nows (yielded ++ line ∷ []))
  position_turn was is so more =
      more ∙ ap (λ at. position_after at line.now) so
      ∙ sym (ap (position_after_all n) one ∙ positions_push n (nows yielded) line.now)

  more :
      positioned n (nows (yielded ++ line ∷ [])) ≡ positioned n (nows yielded)
      ++ (position_after_all n (nows yielded), line.now) ∷ []
  more = ap (positioned n) one ∙ positioned_push n (nows yielded) line.now

  module _ (Has : List ℕ → Type 0) (found : List Line) (has : Bool)
      (so : AreMatching (λ l. Has l.1) (positioned n (nows yielded)) (map found_line found))
      (tells : IsTrue has ↔ Has line.now) where
    -- a line that is not taken
    pub left :
        has ≡ false → AreMatching (λ l. Has l.1) (positioned n (nows (yielded ++ line ∷ []))) (map found_line found)
    left none =
        subst (λ ls. AreMatching (λ l. Has l.1) ls (map found_line found)) (sym more)
        (leaves _ _ (position_after_all n (nows yielded), line.now) so (λ h. false_true (sym none ∙ tells.1 h)))

    -- a line that is taken, with its position
    pub taken : (longer : List Line) (own : Line) → has ≡ true → longer ≡ found ++ own ∷ [] → own.bytes.now ≡ line.now →
        own.position ≡ position_after_all n (nows yielded) →
        AreMatching (λ l. Has l.1) (positioned n (nows (yielded ++ line ∷ []))) (map found_line longer)
    taken longer own is items bytes position =
        subst (λ ls. AreMatching (λ l. Has l.1) ls (map found_line longer)) (sym more)
        (subst (λ fs. AreMatching (λ l. Has l.1)
        (positioned n (nows yielded) ++ (position_after_all n (nows yielded), line.now) ∷ []) fs)
        (sym (ap (map found_line) items ∙ map-append found_line found (own ∷ [])))
        (subst (λ k. AreMatching (λ l. Has l.1)
        (positioned n (nows yielded) ++ (position_after_all n (nows yielded), line.now) ∷ [])
        (map found_line found ++ (k, own.bytes.now) ∷ [])) (sym position)
        (subst (λ v. AreMatching (λ l. Has l.1)
        (positioned n (nows yielded) ++ (position_after_all n (nows yielded), line.now) ∷ [])
        (map found_line found ++ (position_after_all n (nows yielded), v) ∷ [])) (sym bytes)
        (takes _ _ (position_after_all n (nows yielded), line.now) so (tells.0 is)))))

  -- a line with whether it is taken
  pub marked :
      (Has : List ℕ → Type 0) (max : Option ℕ) (count now : ℕ) (found longer : List Marked) (own : Marked)
      → AreMarked (λ l. Has l.1) max count (positioned n (nows yielded)) (map marked_line found)
      → now ≡ count_after count (taken_lines (map marked_line found))
      → (IsTrue own.is_taken ↔ ((is_limit max now ≡ false) × Has line.now))
      → longer ≡ found ++ own ∷ [] → own.line.bytes.now ≡ line.now
      → own.line.position ≡ position_after_all n (nows yielded)
      → AreMarked (λ l. Has l.1) max count (positioned n (nows (yielded ++ line ∷ []))) (map marked_line longer)
  marked Has max count now found longer own so counted tells items bytes position =
      subst (λ ls. AreMarked (λ l. Has l.1) max count ls (map marked_line longer)) (sym more)
      (subst (λ fs. AreMarked (λ l. Has l.1) max count
      (positioned n (nows yielded) ++ (position_after_all n (nows yielded), line.now) ∷ []) fs)
      (sym (ap (map marked_line) items ∙ map-append marked_line found (own ∷ [])))
      (subst (λ k. AreMarked (λ l. Has l.1) max count
      (positioned n (nows yielded) ++ (position_after_all n (nows yielded), line.now) ∷ [])
      (map marked_line found ++ ((k, own.line.bytes.now), own.is_taken) ∷ [])) (sym position)
      (subst (λ v. AreMarked (λ l. Has l.1) max count
      (positioned n (nows yielded) ++ (position_after_all n (nows yielded), line.now) ∷ [])
      (map marked_line found ++ ((position_after_all n (nows yielded), v), own.is_taken) ∷ [])) (sym bytes)
      (marks _ _ (position_after_all n (nows yielded), line.now) own.is_taken so
      (subst (λ k. IsTrue own.is_taken ↔ ((is_limit max k ≡ false) × Has line.now)) counted tells)))))
