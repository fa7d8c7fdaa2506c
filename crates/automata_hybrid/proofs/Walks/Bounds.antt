-- The pairs that walks report lie in their span.
use Rattle.std.proofs.Common.{ℕ, zero, suc, ◌≡◌, ◌∙◌, ◌≤◌, inl, inr, List, [], ◌∷◌, Option, Some, None, length, refl}
use Rattle.std.proofs.Common.{sym, ap}
use Rattle.automata_hybrid.proofs.Words.{Direction, Err, HalfMatch, IfSome, Input, Machine, match_kind_of, Ok, OnOk}
use Rattle.automata_hybrid.proofs.Words.{Pair, Result, WalkLiesWithin, WalksAreReported}
use Rattle.std.specs.Prelude.{OnErr}
use Rattle.automata_determinize.specs.Laws.Walks.{InPairs}
use Rattle.automata_hybrid.specs.Walks.Answers.{IsWalkOf, ReportsNext, half_nth}
use Rattle.automata_hybrid.specs.Walks.State.{Walk, without_match}
use Rattle.automata_hybrid.specs.Searches.Bounds.{LiesIn}
use Rattle.automata_base.proofs.Paths.Orders.{none_some, some_inj}
use Rattle.automata_hybrid.proofs.Machines.Powersets.{reported_walked}

-- the pair of a half match
abbrev pair_of : HalfMatch → Pair
pair_of half = record { pattern = half.pattern; place = half.offset }

nth_in : (pairs : List Pair) (k : ℕ) (half : HalfMatch) → half_nth pairs k ≡ Some half → InPairs (pair_of half) pairs
nth_in [] k half e = absurd (none_some e)
nth_in (pair ∷ pairs) zero half e = inl (ap pair_of (sym (some_inj e)))
nth_in (pair ∷ pairs) (suc k) half e = inr (nth_in pairs k half e)

module _ (way : Direction) (m : Machine) (input : Input) (reported : WalksAreReported m.nfa)
    (law : WalkLiesWithin m.nfa)
    (few : input.end ≤ length input.haystack) (old new : Walk) where
  match_lies :
      (found : Option HalfMatch) → new.found ≡ found → IsWalkOf way m input old → ReportsNext way m input old new
      → IfSome found (LiesIn m input)
  match_lies None e was next = tt
  match_lies (Some half) e was next =
      let pairs = reported way (match_kind_of m.config) input in
      let walked = reported_walked way m input pairs.0 pairs.1 in
      let nth : half_nth pairs.0 was.0 ≡ Some half = sym ((next was.0 was.1).1 pairs.0 walked).0 ∙ e in
      let l =
      law way (match_kind_of m.config) input pairs.0 (pair_of half) few pairs.1 (nth_in pairs.0 was.0 half nth) in
      record { pattern = l.0; from = l.1.0; upto = l.1.1 }

  none_lies : (found : Option HalfMatch) → found ≡ None → IfSome found (LiesIn m input)
  none_lies None e = tt
  none_lies (Some half) e = absurd (none_some (sym e))

  -- the match of a call lies in the span; after an error there is no match
  pub reported_lies :
      {T E : Type 0} (r : Result T E) → IsWalkOf way m input old → OnOk r (ReportsNext way m input old new)
      → OnErr r (new ≡ without_match old) → IfSome new.found (LiesIn m input)
  reported_lies (Ok t) was next refused = match_lies new.found refl was next
  reported_lies (Err e) was next refused = none_lies new.found (ap (λ (w : Walk). w.found) refused)
