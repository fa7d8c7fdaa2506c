-- The match that follows one that ended at an offset, by what the texts find.
use Rattle.std.proofs.Common.{ℕ, suc, ◌≡◌, ◌+◌, ◌<◌, ◌≤◌, ◌∙◌, Bool, true, false, List, Option, Some, None, ap, arith}
use Rattle.std.proofs.Common.{length, option_map, refl, sym}
use Rattle.std.specs.Prelude.{IfSome}
use Rattle.regex_hir.specs.Find as kit
use Rattle.regex_hir.specs.Re.{Re}
use Rattle.regex.specs.Search.{leftmost_in}
use Rattle.regex.proofs.SearchLemmas.{leftmost_past, leftmost_within}
use Rattle.automata_base.specs.Haystacks.Matches.{Match}
use Rattle.meaning.specs.Patterns.{IsFirstLeft, any_of, find_any, left_any, numbered_match}
use Rattle.meaning.proofs.Remaining.{FindsInside, again, first_left, goes_on, none_of, some_of, stops}

-- the kit's search
same_search :
    (utf8 : Bool) (res : List Re) (hay : List ℕ) (start : ℕ)
    → find_any utf8 res hay start ≡ leftmost_in utf8 (any_of res) hay start
same_search true res hay start = refl
same_search false res hay start = refl

module _ (utf8 : Bool) (res : List Re) (hay : List ℕ) where
  abbrev search : ℕ → Option kit.Match
  search = find_any utf8 res hay

  abbrev own : Option kit.Match → Option Match
  own = option_map (numbered_match res hay)

  pub finds_inside : FindsInside hay search
  finds_inside s m e = leftmost_within (any_of res) hay utf8 s m (sym (same_search utf8 res hay s) ∙ e)

  -- no match begins after the end of the haystack
  pub none_past : (start : ℕ) → length hay < start → None ≡ own (search start)
  none_past start past =
      sym (ap own (same_search utf8 res hay start ∙ leftmost_past (any_of res) hay utf8 start past))

  -- the first match
  pub first_is : (o : Option Match) → o ≡ own (search 0) → IsFirstLeft (left_any utf8 res hay) None o
  first_is o e = first_left res hay search finds_inside None o e

  -- what a search finds from the last end on is the next match, if it does not end there
  pub next_first :
      (end : ℕ) (o : Option Match) → o ≡ own (search end) → IfSome o (λ m. end < m.end)
      → IsFirstLeft (left_any utf8 res hay) (Some end) o
  next_first end None e h =
      first_left res hay search finds_inside (Some end) None
      (e ∙ ap own (sym (stops search end (none_of res hay (search end) e))))
  next_first end (Some m) e h =
      let w = some_of res hay (search end) m e in
      first_left res hay search finds_inside (Some end) (Some m)
      (e ∙ ap own (sym (goes_on search end w.0 w.1
      (λ same. let ends : m.end ≡ end = ap (λ (v : Match). v.end) w.2 ∙ same in omega (arith, h, ends)))))

  -- if it ends there, the next match is what a search finds from the next offset on
  pub next_again :
      (end : ℕ) (m : Match) (o : Option Match) → Some m ≡ own (search end) → m.end ≤ end
      → o ≡ own (search (end + 1)) → IsFirstLeft (left_any utf8 res hay) (Some end) o
  next_again end m o e le e' =
      let w = some_of res hay (search end) m e in
      let inside = finds_inside end w.0 w.1 in
      let ends : m.end ≡ w.0.trace.end = ap (λ (v : Match). v.end) w.2 in
      let next : search (end + 1) ≡ search (suc end) = ap search (omega arith) in
      first_left res hay search finds_inside (Some end) o
      (e' ∙ ap own (next ∙ sym (again search end w.0 w.1 (omega (arith, le, ends, inside.0, inside.1)))))
