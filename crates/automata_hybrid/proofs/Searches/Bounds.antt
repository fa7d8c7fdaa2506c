-- Answers lie in their span.
use Rattle.std.proofs.Common.{ℕ, ◌≡◌, ◌≤◌, Option, Some, None, length, sym, subst}
use Rattle.automata_hybrid.proofs.Words.{Direction, Err, Forward, Half, HalfMatch, IfOk, IfSome, Input, IsFound}
use Rattle.automata_hybrid.proofs.Words.{Machine, match_kind_of, Ok, option_map, ReportedLiesWithin, Result}
use Rattle.automata_hybrid.proofs.Words.{SearchError, with_base, WithoutBase}
use Rattle.automata_hybrid.specs.Searches.Passes.{without_base}
use Rattle.automata_hybrid.specs.Searches.Bounds.{LiesIn, LiesPast}
use Rattle.automata_hybrid.proofs.Searches.Skips.{found_reported}
use Rattle.automata_base.proofs.Paths.Orders.{some_inj, some_none}
use Rattle.automata_determinize.proofs.Answers.Within.{reported_within}
use Rattle.automata_determinize.specs.Answers.Within.{IsInSpan}

-- what is found lies in the span, at or after the start of the span that the pass was made over
pub found_within :
    (way : Direction) (m : Machine) (input : Input) (half : Half)
    → input.end ≤ length input.haystack → IsFound way m input (Some half)
    → IsInSpan input half.offset × (input.start ≤ half.base) × (half.base ≤ half.offset)
found_within way m input half few f =
    reported_within way m.nfa (match_kind_of m.config) input half few (found_reported way m input (Some half) f)

-- so do the results of calls
module _ (m : Machine) (input : Input) (law : ReportedLiesWithin m.nfa) (few : input.end ≤ length input.haystack) where
  found_lies :
      (way : Direction) (half : Half) → IsFound way m input (Some half)
      → LiesIn m input (without_base half) × (input.start ≤ half.base) × (half.base ≤ half.offset)
  found_lies way half f =
      let l = law way (match_kind_of m.config) input half few (found_reported way m input (Some half) f) in
      (record { pattern = l.0; from = l.1.0; upto = l.1.1 }, l.2, l.3)

  -- results with the start of the span that the pass was made over
  pub lies_past :
      (r : Result (Option (HalfMatch × ℕ)) SearchError)
      → IfOk r (λ o. IsFound Forward m input (option_map (λ (p : HalfMatch × ℕ). with_base p.0 p.1) o))
      → IfOk r (λ o. IfSome o (λ p. LiesPast m input p.0 p.1))
  lies_past (Ok None) f = tt
  lies_past (Ok (Some (half, base))) f =
      let l = found_lies Forward (with_base half base) f in record { lies = l.0; from = l.1; past = l.2 }
  lies_past (Err e) f = tt

  half_lies :
      (way : Direction) (half : HalfMatch) (answer : Option Half)
      → IsFound way m input answer → Some half ≡ option_map without_base answer → LiesIn m input half
  half_lies way half None f e = absurd (some_none e)
  half_lies way half (Some reported) f e = subst (LiesIn m input) (sym (some_inj e)) (found_lies way reported f).0

  -- results without it
  pub lies_in :
      (way : Direction) (r : Result (Option HalfMatch) SearchError)
      → IfOk r (WithoutBase (IsFound way m input)) → IfOk r (λ o. IfSome o (LiesIn m input))
  lies_in way (Ok None) f = tt
  lies_in way (Ok (Some half)) f = half_lies way half f.0 f.1 f.2
  lies_in way (Err e) f = tt
