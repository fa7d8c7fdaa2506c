-- Matches of an iteration over any two DFAs lie in the span.
use Rattle.std.proofs.Common.{ℕ, ◌≤◌, inl, inr, length, List, [], ◌∷◌, Option, Some, None}
use Rattle.std.proofs.Common.{arith}
use Rattle.automata_base.specs.Haystacks.Input.{Input}
use Rattle.automata_base.specs.Haystacks.Matches.{Match}
use Rattle.automata_base.specs.Answers.Spans.{AreFirst, StartIsBase, StartIsFound}
use Rattle.automata_base.specs.declared.util.search.Direction.TheVariants.{Forward}
use Rattle.automata_config.specs.declared.error.SearchError.{SearchError}
use Rattle.automata_determinize.proofs.Answers.Rising.{all_first, next_inside}
use Rattle.automata_hybrid.proofs.Searches.Bounds.{found_within}
use Rattle.regex_automata.specs.Spans.Iteration.{AreCollected}
use Rattle.regex_automata.specs.Spans.Outcomes.{FindsMatch, IsStartFound}
use Rattle.regex_automata.specs.declared.hybrid.regex.Regex.{Regex}
use Rattle.regex_automata.proofs.Spans.Costs.{back_within}
use Rattle.regex_automata.specs.Spans.Iteration.{ComesTo}

module _ (p : Regex) where
  -- a match lies in the span
  abbrev Lies : Input → Match → Type 0
  Lies input m = (input.start ≤ m.start) × (m.start ≤ m.end) × (m.end ≤ input.end)

  pub find_lies :
      (input : Input) (m : Match) → input.end ≤ length input.haystack → FindsMatch p input (Some m) → Lies input m
  find_lies input m few f = go f.start where
    low : (input.start ≤ f.half.base) × (f.half.base ≤ f.half.offset)
    low = let w = found_within Forward p.forward input f.half few f.front in (w.1, w.2)

    high : f.half.offset ≤ input.end
    high = (found_within Forward p.forward input f.half few f.front).0.1

    go : IsStartFound p input f.half (Some m.start) → Lies input m
    go (StartIsBase short s) = (omega (arith, low.0, s), omega (arith, low.1, s, f.end), omega (arith, high, f.end))
    go (StartIsFound long found backs s) =
        let w = back_within p.reverse input f.half found high few backs in
        (omega (arith, low.0, w.0, s), omega (arith, w.1, s, f.end), omega (arith, high, f.end))

  module _ (input : Input) (few : input.end ≤ length input.haystack) where
    -- the search after the first matches begins no earlier
    pub comes_on :
        (start : ℕ) (last : Option ℕ) (ms : List Match) (at : ℕ) (before : Option ℕ)
        → ComesTo (FindsMatch p) input start last ms at before → start ≤ at
    comes_on start last [] at before f = omega (arith, f.0)
    comes_on start last (m ∷ ms) at before f =
        let n = next_inside (FindsMatch p) input start last m find_lies few f.0 in
        let g = comes_on m.end (Some m.end) ms at before f.1 in
        omega (arith, n.0, n.1, g)

    pub collected_first :
        (ms : List Match) (error : Option SearchError) → AreCollected (FindsMatch p) input ms error
        → AreFirst (FindsMatch p) input input.start None ms
    collected_first ms None f = all_first (FindsMatch p) input input.start None ms f
    collected_first ms (Some e) f = f
