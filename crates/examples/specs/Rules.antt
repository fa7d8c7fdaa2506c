-- Which rules match a record.
use Rattle.std.specs.Prelude.{ℕ, ◌≡◌, ◌↔◌, Bool, false, List, Option, length}
use Rattle.automata_base.specs.Paths.Selections.{Pair}
use Rattle.regex_automata.specs.Promises.{AreWalked, Forward, HalfMatch, In, Input, Machine, MatchesIn, No}
use Rattle.regex_automata.specs.Promises.{half_nth, members}

-- the input of a search of a whole record
abbrev pub record_input : List ℕ → Input
record_input bytes = record { haystack = bytes; start = 0; end = length bytes; anchored = No; earliest = false }

-- some path of the rule's pattern through the record ends in a match
abbrev pub Matches : Machine → (bytes : List ℕ) → (rule : ℕ) → Type 0
Matches m bytes rule = MatchesIn m (record_input bytes) m.nfa.start_unanchored rule

-- the set has the rules that match the record, and no others
pub record IsNamed (m : Machine) (bytes : List ℕ) (set : List Bool) : Type 0 where
  -- a rule is in the set exactly if it matches the record
  pub rules : (rule : ℕ) → In rule (members set) ↔ Matches m bytes rule

-- the first match that an overlapping search of the record reports, or none
abbrev pub IsFirst : Machine → (bytes : List ℕ) → Option HalfMatch → Type 0
IsFirst m bytes found = (pairs : List Pair) → AreWalked Forward m (record_input bytes) pairs → found ≡ half_nth pairs 0
