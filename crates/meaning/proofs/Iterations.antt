-- The next match of an iteration is the one that the kit's iterator yields, and a match is found exactly if there is
-- one.
use Rattle.std.proofs.Common.{ℕ, suc, ◌≡◌, ◌≤◌, List, Option, Some, None, Bool, is_some}
use Rattle.std.proofs.Common.{length, option_map, refl, sym, ap, ap₂, ◌∙◌, subst, inl, arith}
use Rattle.std.specs.Option.{unwrap_or}
use Rattle.regex_hir.specs.Re.{Re}
use Rattle.regex_hir.specs.Find as kit_find
use Rattle.regex_hir.specs.Find.{find_after, matches_from}
use Rattle.automata_base.specs.Answers.Answers.{Half, IsAnswer}
use Rattle.automata_base.specs.Answers.Spans.{FindsHere, FindsLater, IsEmptyAt, IsMatch, IsNextItem, IsSpan}
use Rattle.automata_base.specs.Haystacks.Matches.{HalfMatch, Match}
use Rattle.automata_base.specs.Nfas.Engines.{Engine}
use Rattle.automata_base.specs.declared.util.search.Direction.TheVariants.{Forward}
use Rattle.automata_base.proofs.Answers.Once.{answer_once, match_iff_find, span_once}
use Rattle.automata_base.proofs.Answers.Rising.{spans_inside}
use Rattle.automata_base.proofs.Paths.Orders.{none_some, some_inj}
use Rattle.meaning.specs.Patterns.{IsFirstLeft, end_of, left_by, numbered_match, next_by, span_input}
use Rattle.meaning.proofs.Options.{some_map}
use Rattle.meaning.proofs.Remaining.{again, first_left, goes_on, none_of, some_of, stops}

module _ (d : Engine) (res : List Re) (hay : List ℕ) (search : ℕ → Option kit_find.Match)
    (spans : (s : ℕ) → IsSpan d (span_input hay s (length hay)) (option_map (numbered_match res hay) (search s))) where
  -- whether there is a match
  pub truth_is : (s : ℕ) (truth : Bool) → IsMatch d (span_input hay s (length hay)) truth → truth ≡ is_some (search s)
  truth_is s truth h =
      match_iff_find d (span_input hay s (length hay)) truth (option_map (numbered_match res hay) (search s)) (inl refl)
      h (spans s)
      ∙ some_map (numbered_match res hay) (search s)

  -- the span that a search finds is the one that is meant
  pub span_is :
      (s : ℕ) (o : Option Match) → IsSpan d (span_input hay s (length hay)) o
      → o ≡ option_map (numbered_match res hay) (search s)
  span_is s o h = span_once d (span_input hay s (length hay)) o _ h (spans s)

  -- a forward search has the end of the match that is meant
  abbrev pub half_of : Half → HalfMatch
  half_of half = record { pattern = half.pattern; offset = half.offset }

  ends_with : (s : ℕ) (answer : Option Half) → IsAnswer Forward d (span_input hay s (length hay)) answer →
      (m : Option kit_find.Match) → IsSpan d (span_input hay s (length hay)) (option_map (numbered_match res hay) m) →
      option_map half_of answer ≡ option_map (end_of res hay) m
  ends_with s answer a None h =
      ap (option_map half_of) (answer_once Forward d (span_input hay s (length hay)) answer None a h)
  ends_with s answer a (Some m) h =
      ap (option_map half_of) (answer_once Forward d (span_input hay s (length hay)) answer (Some h.half) a h.answer)
      ∙ ap₂ (λ number end. Some (record { pattern = number; offset = end })) (sym h.pattern) (sym h.end)

  pub end_is : (s : ℕ) (answer : Option Half) → IsAnswer Forward d (span_input hay s (length hay)) answer →
      option_map half_of answer ≡ option_map (end_of res hay) (search s)
  end_is s answer a = ends_with s answer a (search s) (spans s)

  module _ (start : ℕ) where
    -- an empty match at the last end
    passed : (m : Match) → IsSpan d (span_input hay start (length hay)) (Some m) → IsEmptyAt (Some start) m →
        find_after search start ≡ search (suc start)
    passed m h empty =
        let w = some_of res hay (search start) m (span_is start (Some m) h) in
        again search start w.0 w.1 (sym (some_inj empty.1 ∙ ap (λ (v : Match). v.end) w.2))

    -- the item after a match with this end
    next_is :
        (begin : ℕ) (o : Option Match) → IsNextItem (IsSpan d) (span_input hay begin (length hay)) start (Some start) o
        →
        o ≡ option_map (numbered_match res hay) (find_after search start)
    next_is begin None (FindsHere h apart) =
        let e = span_is start None h in
        e ∙ ap (option_map (numbered_match res hay)) (sym (stops search start (none_of res hay (search start) e)))
    next_is begin o (FindsLater m h empty later) =
        span_is (suc start) o later ∙ ap (option_map (numbered_match res hay)) (sym (passed m h empty))
    next_is begin (Some m) (FindsHere h apart) =
        let e = span_is start (Some m) h in
        let w = some_of res hay (search start) m e in
        let inside = spans_inside d (span_input hay start (length hay)) m (omega arith) h in
        e ∙ ap (option_map (numbered_match res hay)) (sym (goes_on search start w.0 w.1 (λ same.
        let ends : m.end ≡ start = ap (λ (v : Match). v.end) w.2 ∙ same in
        apart (omega (arith, ends, inside.0, inside.1), ap (λ v. Some v) (sym ends)))))

  -- the first item, and each later one
  first_is : (begin : ℕ) (o : Option Match) → IsNextItem (IsSpan d) (span_input hay begin (length hay)) 0 None o →
      o ≡ option_map (numbered_match res hay) (search 0)
  first_is begin o (FindsHere h apart) = span_is 0 o h
  first_is begin o (FindsLater m h empty later) = absurd (none_some empty.1)

  item_is : (begin : ℕ) (last : Option ℕ) (o : Option Match) →
      IsNextItem (IsSpan d) (span_input hay begin (length hay)) (unwrap_or last 0) last o →
      o ≡ option_map (numbered_match res hay) (next_by search last)
  item_is begin None o h = first_is begin o h
  item_is begin (Some end) o h = next_is end begin o h

  -- what the search finds lies in the searched span
  found_inside :
      (s : ℕ) (m : kit_find.Match) → search s ≡ Some m → (s ≤ m.start) × (m.start ≤ m.trace.end)
      × (m.trace.end ≤ length hay)
  found_inside s m e =
      spans_inside d (span_input hay s (length hay)) (numbered_match res hay m) (omega arith)
      (subst (λ o. IsSpan d (span_input hay s (length hay)) (option_map (numbered_match res hay) o)) e (spans s))

  -- an item is the first of the remaining matches
  pub item_left : (begin : ℕ) (last : Option ℕ) (o : Option Match) →
      IsNextItem (IsSpan d) (span_input hay begin (length hay)) (unwrap_or last 0) last o →
      IsFirstLeft (left_by search res hay) last o
  item_left begin last o h = first_left res hay search found_inside last o (item_is begin last o h)
