-- What follows from the effect of a call of a walk on its cache.
use Rattle.std.proofs.Common.{ℕ, suc, ◌≡◌, ◌∙◌, ◌+◌, ◌<◌, ◌≤◌, ◌⊎◌, length, inl, inr, refl, sym, arith}
use Rattle.std.proofs.lemmas.Bool.{cases_lt}
use Rattle.automata_hybrid.proofs.Words.{Direction, Input, Machine, Powerset, Skips}
use Rattle.automata_hybrid.specs.Walks.Answers.{HasReported, HasReportedAt, HasReportedBy, WalkReads}
use Rattle.automata_hybrid.specs.Walks.Cached.{IsToRead}
use Rattle.automata_hybrid.specs.Walks.Progress.{HasEnded, HasMore, HasNoneLeft, ReadsNoUnit}
use Rattle.automata_hybrid.specs.Walks.State.{At, Ended, Fresh, Stage, Walk}
use Rattle.automata_hybrid.proofs.Walks.Calls.{ended_at, reported_least}
use Rattle.automata_hybrid.proofs.Walks.Progress.{walk_reads_before}

abbrev pub at_state : Powerset → Stage → Powerset
at_state q Fresh = q
at_state q (At p) = p
at_state q Ended = q

module _ (way : Direction) (m : Machine) (input : Input) (skips : Skips m ⊎ (Skips m → ⊥)) (w : Walk) (k : ℕ)
    (reported : HasReported way m input w k) where
  -- a call that has units to read
  pub to_read : (ReadsNoUnit input w → ⊥) → IsToRead input w.stage w.units w.reported
  to_read reads = record {
    undone = omega (arith, within (cases_lt input.end (input.start + w.units)));
    on = λ ended. reads (HasEnded ended);
    all_reported = λ q at. few q at (cases_lt w.reported (length q.patterns));
    left = omega (arith, within (cases_lt input.end (input.start + w.units)));
  } where
    within :
        (input.end < input.start + w.units) ⊎ (input.start + w.units ≤ input.end) → input.start + w.units ≤ input.end
    within (inl past) = absurd (reads (HasNoneLeft past))
    within (inr fits) = fits

    few :
        (q : Powerset) → w.stage ≡ At q → (w.reported < length q.patterns) ⊎ (length q.patterns ≤ w.reported)
        → length q.patterns ≤ w.reported
    few q at (inl less) = absurd (reads (HasMore q at less))
    few q at (inr all) = all

  -- after the call the walk has no unit to read, or has reported one more pair
  pub next_stops :
      (next : Walk) (j : ℕ) → HasReported way m input next (suc j)
      → (next.stage ≡ Ended → WalkReads way m input next.units → ⊥)
      → (i : ℕ) → next.units ≤ i → WalkReads way m input i → HasReportedBy way m input i j → ⊥
  next_stops next j t ends i more reads by = go next.stage refl t where
    go : (s : Stage) → next.stage ≡ s → HasReportedAt way m input s next.units next.reported (suc j) → ⊥
    go Fresh is none = omega (arith, none.0)
    go (At q) is at =
        let l : suc j ≤ j = reported_least way m input next j t (λ ended. ended_at q (sym ended ∙ is)) i j more by in
        omega (arith, l)
    go Ended is all = ends is (walk_reads_before way m input next.units i more reads)
