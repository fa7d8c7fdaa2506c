-- The first match of a text.
use Rattle.std.specs.Prelude.{ℕ, ◌≡◌, List, length, Option, true}
use Rattle.regex_automata.specs.Promises.{Forward, HalfMatch, Input, IsFound, IsNearestAnswer, Machine, No, WithoutBase}
use Rattle.regex_automata.specs.Promises.{engine}

-- the input of an earliest search of a whole text
abbrev pub earliest : List ℕ → Input
earliest text = record { haystack = text; start = 0; end = length text; anchored = No; earliest = true }

-- the end of the first match in a text
pub record IsEarliest (m : Machine) (text : List ℕ) (found : Option HalfMatch) : Type 0 where
  -- It is equal to whatever `try_search_fwd` returns.
  pub same : (answer : Option HalfMatch) → WithoutBase (IsFound Forward m (earliest text)) answer → found ≡ answer
  -- No path ends in a match before it.
  pub nearest : WithoutBase (IsNearestAnswer Forward (engine m) (earliest text)) found
