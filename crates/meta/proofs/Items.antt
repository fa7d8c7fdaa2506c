-- One match of a regex after another.
use Rattle.std.proofs.Common.{ℕ, ◌≡◌, ◌<◌, Bool, true, false, List, Option, Some, None, refl, ap, arith}
use Rattle.automata_base.specs.Haystacks.Matches.{Match}
use Rattle.patterns.specs.Iteration.{most_left}
use Rattle.meta.specs.Iteration.{IsMetaNext, LiesAfter, YieldsMatch}
use Rattle.meta.specs.declared.regexes.Regex.{Regex}

open_is : {P : Type 0} → true ≡ false → P
open_is e = absurd (cc)

module _ (regex : Regex) (hay : List ℕ) (last : Option ℕ) where
  pub yields_match :
      (ended : Bool) (m : Match) (end : ℕ) → ended ≡ false → IsMetaNext regex hay last (Some m)
      → LiesAfter hay last m → end ≡ m.end → YieldsMatch regex hay (Some m) last (Some end) ended ended
  yields_match true m end on next lies ends = open_is on
  yields_match false m end on next lies ends = (next, lies, ap (λ (n : ℕ). Some n) ends, refl)

  pub yields_none :
      (ended : Bool) → ended ≡ false → IsMetaNext regex hay last None
      → YieldsMatch regex hay None last last ended true
  yields_none true on next = open_is on
  yields_none false on next = (next, refl, refl)

-- after a match the upper bound on the remaining ones is lower
pub fewer_after :
    (hay : List ℕ) (last : Option ℕ) (ended : Bool) (m : Match) (end : ℕ) → ended ≡ false → end ≡ m.end
    → LiesAfter hay last m → most_left ended hay (Some end) < most_left ended hay last
fewer_after hay last true m end on ends lies = open_is on
fewer_after hay None false m end on ends lies = let l = lies.inside in omega (arith, ends, l)
fewer_after hay (Some at) false m end on ends lies =
    let l = lies.inside in let past = lies.past in omega (arith, ends, l, past)
