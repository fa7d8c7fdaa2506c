-- Everything that was used to find a set of patterns is cached.
use Rattle.std.proofs.Common.{ℕ, zero, suc, ◌≡◌, ◌≤◌, inl, inr, Bool, List, [], ◌∷◌, ◌++◌, length, take, None, refl, ap}
use Rattle.std.proofs.Common.{subst, arith}
use Rattle.automata_hybrid.proofs.Words.{AreUnsplit, Forward, HasPattern, Input, Machine, Pair, Skips, tape_in}
use Rattle.automata_hybrid.specs.Walks.Cached.{IsOpen, LacksOne, NoPair}
use Rattle.automata_hybrid.specs.Walks.Answers.{AreWalked, HasReported, WalkReads, half_nth, pairs_reported_in}
use Rattle.automata_hybrid.specs.Walks.State.{Ended, Walk}
use Rattle.automata_hybrid.proofs.Walks.Calls.{reported_least}
use Rattle.automata_hybrid.proofs.Walks.Reports.{Begins, walked_begin}

taken_front : (xs ys : List Pair) (n p : ℕ) → n ≤ length xs → HasPattern p (take n (xs ++ ys)) → HasPattern p xs
taken_front xs ys zero p l h = absurd h
taken_front [] ys (suc n) p l h = absurd (omega (arith, l))
taken_front (x ∷ xs) ys (suc n) p l (inl e) = inl e
taken_front (x ∷ xs) ys (suc n) p l (inr h) = inr (taken_front xs ys n p (omega (arith, l)) h)

-- a set that is closed after the pairs that its walk has reported is closed after more pairs
pub closed_stops :
    (m : Machine) (input : Input) (v : Walk) (k : ℕ) (set : List Bool) (list : List Pair)
    → HasReported Forward m input v k
    → (v.stage ≡ Ended → ⊥) → input.start ≤ input.end → AreWalked Forward m input list
    → (IsOpen input set (take k list) → ⊥)
    → (j : ℕ) (pairs : List Pair)
    → v.units ≤ j → WalkReads Forward m input j
    → AreUnsplit (Skips m) Forward input (pairs_reported_in Forward m input j) pairs
    → IsOpen input set pairs → ⊥
closed_stops m input v zero set list reported on s walked closed j pairs l reads unsplit is_open = closed (NoPair refl)
closed_stops m input v (suc k) set list reported on s walked closed j pairs l reads unsplit is_open =
    closed (go is_open) where
      least : suc k ≤ length pairs
      least =
          reported_least Forward m input v k reported on j (length pairs) l
          (record { pairs = pairs; unsplit = unsplit; count = refl })

      begins : Begins Forward m input pairs list
      begins =
          walked_begin Forward m input j pairs list s
          (let few : j ≤ length (tape_in Forward input).bytes = reads.0 in omega (arith, few)) unsplit walked

      go : IsOpen input set pairs → IsOpen input set (take (suc k) list)
      go (NoPair none) =
          absurd (let z : length pairs ≡ 0 = ap (λ (ps : List Pair). length ps) none in omega (arith, least, z))
      go (LacksOne e p below absent other) =
          LacksOne e p below absent
          (λ h. other
          (taken_front pairs begins.rest (suc k) p least
          (subst (λ (ps : List Pair). HasPattern p (take (suc k) ps)) begins.joined h)))

pub half_none : (pairs : List Pair) (k : ℕ) → half_nth pairs k ≡ None → length pairs ≤ k
half_none [] k e = omega arith
half_none (x ∷ xs) zero e = absurd (cc)
half_none (x ∷ xs) (suc k) e = let l : length xs ≤ k = half_none xs k e in omega (arith, l)
