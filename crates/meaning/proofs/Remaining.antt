-- What follows from where the matches of a search lie: which matches remain after one, and that the next match is the
-- first of them.
use Rattle.std.proofs.Common.{ℕ, zero, suc, ◌≡◌, ◌+◌, ◌<◌, ◌≤◌, ◌==◌, List, [], ◌∷◌, Option, Some, None, length, map}
use Rattle.std.proofs.Common.{option_map, refl, sym, ap, ◌∙◌, subst, ⊎_elim, arith, add-one}
use Rattle.std.specs.Prelude.{if◌then◌else◌}
use Rattle.std.proofs.lemmas.Bool.{cases_lt, cond-true, cond-false, eq-eqb, ne_eqb}
use Rattle.regex_hir.specs.Re.{Re}
use Rattle.regex_hir.specs.Find as kit_find
use Rattle.regex_hir.specs.Find.{find_after, matches_from}
use Rattle.regex_hir.specs.Text.{is_some_and}
use Rattle.regex_hir.proofs.OptionLemmas.{option_cases}
use Rattle.automata_base.specs.Haystacks.Matches.{Match}
use Rattle.automata_base.proofs.Paths.Orders.{none_some, some_inj}
use Rattle.meaning.specs.Patterns.{IsFirstLeft, left_by, numbered_match, next_by}

-- what a search finds from an offset on lies between that offset and the end of the haystack
abbrev pub FindsInside : List ℕ → (search : ℕ → Option kit_find.Match) → Type 0
FindsInside hay search =
    (s : ℕ) (m : kit_find.Match) → search s ≡ Some m → (s ≤ m.start) × (m.start ≤ m.trace.end)
    × (m.trace.end ≤ length hay)

module _ (search : ℕ → Option kit_find.Match) (start : ℕ) where
  -- what the search finds decides whether it is made again one offset later
  abbrev taken : Option kit_find.Match → Option kit_find.Match
  taken o = if is_some_and o (λ m. m.trace.end == start) then search (start + 1) else search start

  pub again :
      (k : kit_find.Match) → search start ≡ Some k → k.trace.end ≡ start
      → find_after search start ≡ search (suc start)
  again k e same =
      ap taken e
      ∙ cond-true (k.trace.end == start) (search (start + 1)) (search start) (eq-eqb k.trace.end start same)
      ∙ ap search (omega arith)

  pub goes_on :
      (k : kit_find.Match) → search start ≡ Some k → (k.trace.end ≡ start → ⊥)
      → find_after search start ≡ search start
  goes_on k e other =
      ap taken e
      ∙ cond-false (k.trace.end == start) (search (start + 1)) (search start) (ne_eqb k.trace.end start other)

  pub stops : search start ≡ None → find_after search start ≡ search start
  stops e = ap taken e

module _ (res : List Re) (hay : List ℕ) where
  abbrev own : kit_find.Match → Match
  own m = numbered_match res hay m

  pub none_of : (o : Option kit_find.Match) → None ≡ option_map (numbered_match res hay) o → o ≡ None
  none_of None e = refl
  none_of (Some m) e = absurd (none_some e)

  pub some_of : (o : Option kit_find.Match) (m : Match) → Some m ≡ option_map (numbered_match res hay) o →
      (k : kit_find.Match) × (o ≡ Some k) × (m ≡ own k)
  some_of None m e = absurd (none_some (sym e))
  some_of (Some k) m e = (k, refl, some_inj e)

module _ (res : List Re) (hay : List ℕ) (search : ℕ → Option kit_find.Match) (inside : FindsInside hay search) where
  yields_none : (fuel : ℕ) → matches_from search fuel None ≡ []
  unfolding matches_from
  yields_none zero = refl
  yields_none (suc fuel) = refl

  -- ends increase
  rises : (e : ℕ) (m : kit_find.Match) → find_after search e ≡ Some m → (e < m.trace.end) × (m.trace.end ≤ length hay)
  rises e m is =
      ⊎_elim
      (λ (none : search e ≡ None). absurd (none_some (sym none ∙ sym (stops search e none) ∙ is)))
      (λ (w : (k : kit_find.Match) × (search e ≡ Some k)).
      let w_in = inside e w.0 w.1 in
      ⊎_elim
      (λ (l : e < w.0.trace.end).
      let same : w.0 ≡ m = some_inj (sym w.1 ∙ sym (goes_on search e w.0 w.1 (λ z. omega (arith, l, z))) ∙ is) in
      subst (λ (k : kit_find.Match). (e < k.trace.end) × (k.trace.end ≤ length hay)) same (l, w_in.2))
      (λ (l : w.0.trace.end ≤ e).
      let later = inside (suc e) m (sym (again search e w.0 w.1 (omega (arith, l, w_in.0, w_in.1))) ∙ is) in
      (omega (arith, later.0, later.1), later.2))
      (cases_lt e w.0.trace.end))
      (option_cases (search e))

  -- so any count that leaves room for an end at each offset gives the same matches
  enough : (n k e : ℕ) → length hay ≤ e + n → length hay ≤ e + k →
      matches_from search n (find_after search e) ≡ matches_from search k (find_after search e)
  unfolding matches_from
  enough zero k e p q =
      ⊎_elim
      (λ none. ap (matches_from search zero) none ∙ sym (yields_none k) ∙ sym (ap (matches_from search k) none))
      (λ (w : (m : kit_find.Match) × (find_after search e ≡ Some m)). let l = rises e w.0 w.1 in
      absurd (omega (arith, l.0, l.1, p)))
      (option_cases (find_after search e))
  enough (suc n) zero e p q =
      ⊎_elim
      (λ none. ap (matches_from search (suc n)) none ∙ sym (ap (matches_from search zero) none))
      (λ (w : (m : kit_find.Match) × (find_after search e ≡ Some m)). let l = rises e w.0 w.1 in
      absurd (omega (arith, l.0, l.1, q)))
      (option_cases (find_after search e))
  enough (suc n) (suc k) e p q =
      ⊎_elim
      (λ none. ap (matches_from search (suc n)) none ∙ sym (ap (matches_from search (suc k)) none))
      (λ (w : (m : kit_find.Match) × (find_after search e ≡ Some m)).
      let l = rises e w.0 w.1 in
      ap (matches_from search (suc n)) w.1
      ∙ ap (λ ms. w.0 ∷ ms) (enough n k w.0.trace.end (omega (arith, l.0, p)) (omega (arith, l.0, q)))
      ∙ sym (ap (matches_from search (suc k)) w.1))
      (option_cases (find_after search e))

  after :
      (m : kit_find.Match)
      → map (numbered_match res hay) (matches_from search (length hay + 1) (Some m)) ≡ own res hay m
      ∷ left_by search res hay (Some m.trace.end)
  unfolding matches_from
  after m =
      ap (λ n. map (numbered_match res hay) (matches_from search n (Some m))) (add-one (length hay))
      ∙ ap (λ ms. own res hay m ∷ map (numbered_match res hay) ms)
      (enough (length hay) (length hay + 1) m.trace.end (omega arith) (omega arith))

  -- the next match is the first of the remaining ones
  pub first_left :
      (last : Option ℕ) (o : Option Match) → o ≡ option_map (numbered_match res hay) (next_by search last)
      → IsFirstLeft (left_by search res hay) last o
  first_left last None e =
      ap (λ o. map (numbered_match res hay) (matches_from search (length hay + 1) o))
      (none_of res hay (next_by search last) e)
      ∙ ap (map (numbered_match res hay)) (yields_none (length hay + 1))
  first_left last (Some m) e =
      let w = some_of res hay (next_by search last) m e in
      ap (λ o. map (numbered_match res hay) (matches_from search (length hay + 1) o)) w.1 ∙ after w.0
      ∙ ap (λ (v : Match). v ∷ left_by search res hay (Some v.end)) (sym w.2)
