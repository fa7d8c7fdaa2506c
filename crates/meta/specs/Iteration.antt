-- One match of a regex after another.
use Rattle.std.specs.Prelude.{ℕ, ◌≡◌, ◌<◌, ◌≤◌, Bool, true, false, List, length, Option, Some, None, IfSome}
use Rattle.std.specs.Option.{unwrap_or}
use Rattle.regex_hir.specs.Re.{Re}
use Rattle.automata_base.specs.Haystacks.Matches.{Match}
use Rattle.meaning.specs.Patterns.{IsFirstLeft, find_any, left_any, next_by}
use Rattle.patterns.specs.declared.compile.Options.{Options}
use Rattle.meta.specs.Captures.{HoldFound, HoldNothing}
use Rattle.meta.specs.Regexes.{IsMetaRegexOf, IsTextFor}
use Rattle.meta.specs.declared.captures.Captures.{Captures}
use Rattle.meta.specs.declared.regexes.Regex.{Regex}

-- the next of the remaining matches, by each meaning that the regex has
abbrev pub IsMetaNext : Regex → List ℕ → (last : Option ℕ) → Option Match → Type 0
IsMetaNext regex hay last found =
    (o : Options) (res : List Re) → IsMetaRegexOf o res regex → IsTextFor o hay
    → IsFirstLeft (left_any o.utf8 res hay) last found

-- the match lies in the haystack after one that ended at `last`, and ends later
pub record LiesAfter (hay : List ℕ) (last : Option ℕ) (m : Match) : Type 0 where
  -- it begins where the last match ended, or later
  pub after : unwrap_or last 0 ≤ m.start
  -- it ends where it begins, or later
  pub ordered : m.start ≤ m.end
  -- it ends in the haystack
  pub inside : m.end ≤ length hay
  -- it ends after the end of the last match
  pub past : IfSome last (λ end. end < m.end)

-- one item of an iteration; where the last match ended, and whether the iteration has ended, before it and after it
abbrev pub YieldsMatch :
    Regex → List ℕ → Option Match → (last last' : Option ℕ) → (ended ended' : Bool) → Type 0
YieldsMatch regex hay item last last' true ended' = (item ≡ None) × (last' ≡ last) × (ended' ≡ true)
YieldsMatch regex hay None last last' false ended' =
    IsMetaNext regex hay last None × (last' ≡ last) × (ended' ≡ true)
YieldsMatch regex hay (Some m) last last' false ended' =
    IsMetaNext regex hay last (Some m) × LiesAfter hay last m × (last' ≡ Some m.end) × (ended' ≡ false)

-- captures hold the groups of the next match of an iteration; nothing if there is none, or if it has ended
abbrev pub HoldNext : Regex → List ℕ → (last : Option ℕ) → (ended : Bool) → Captures → Type 0
HoldNext regex hay last true captures = HoldNothing captures
HoldNext regex hay last false captures =
    (o : Options) (res : List Re) → IsMetaRegexOf o res regex → IsTextFor o hay
    → HoldFound (next_by (find_any o.utf8 res hay) last) captures
