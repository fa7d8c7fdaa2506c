-- The literals that a walk over a tree has found.
use Rattle.std.specs.Prelude.{ℕ, ◌≡◌, ◌+◌, ◌<◌, ◌≤◌, List, All, length}
use Rattle.regex_hir.specs.Re.{Re}
use Rattle.regex_hir.specs.Matches.{Matches}
use Rattle.regex_literal.specs.Find.{OccursAt}
use Rattle.regex_extract.specs.Needles.{AreFilled, needles_of}
use Rattle.match_facts.specs.Facts.{StandsIn}
use Rattle.match_facts.specs.declared.literals.Run.{Run}

-- the bytes occur in the haystack between i and j, and end at j
abbrev pub StandsBefore : (hay bytes : List ℕ) → (i j : ℕ) → Type 0
StandsBefore hay bytes i j = (k : ℕ) × OccursAt hay bytes k × (i ≤ k) × (k + length bytes ≡ j)

-- between i and j the haystack has the literals of the run, and its last bytes before j
pub record HasLiterals (run : Run) (hay : List ℕ) (i j : ℕ) : Type 0 where
  -- each of its literals occurs there
  pub literals : All (λ bytes. StandsIn hay bytes i j) (needles_of run.literals)
  -- its last bytes end at j
  pub last : StandsBefore hay run.last.items i j

-- a walk over a pattern extends a run
pub record ExtendsRun (re : Re) (old new : Run) : Type 0 where
  -- where the haystack has the old run up to m, and a match of the pattern from there to j, it has the new run up to j
  pub at :
      (hay : List ℕ) → All (λ b. b < 256) hay → (i m j : ℕ) → m ≤ length hay → Matches hay re m j
      → HasLiterals old hay i m → HasLiterals new hay i j
  -- no literal is empty, if none was
  pub filled : AreFilled (needles_of old.literals) → AreFilled (needles_of new.literals)

-- a run ends where the pattern may read anything
pub record EndsRun (old new : Run) : Type 0 where
  -- where the haystack has the old run up to m, it has the new run up to any later offset
  pub at : (hay : List ℕ) (i m j : ℕ) → m ≤ j → j ≤ length hay → HasLiterals old hay i m → HasLiterals new hay i j
  -- no literal is empty, if none was
  pub filled : AreFilled (needles_of old.literals) → AreFilled (needles_of new.literals)
