-- Powerset states, what holds for each of them, and their cost.
use Rattle.std.specs.Prelude.{ℕ, List, [], Bool, false, ◌+◌, ◌*◌, ◌<◌, ◌^◌, length}
use Rattle.std.specs.List.{AllByRecursion}
use Rattle.automata_base.specs.Lists.{Distinct}

-- a powerset state: NFA states in order, patterns, the looks known and needed, whether it is after a word byte, and
-- whether it is halfway through a CRLF
pub record Powerset : Type 0 where
  -- its NFA states, the preferred first
  pub nfa : List ℕ
  -- the patterns that match at the place before the unit that led to it
  pub patterns : List ℕ
  -- the looks that hold whatever unit comes next, if it needs any: bit k is set for look k
  pub known : ℕ
  -- the looks among its NFA states: bit k is set for look k
  pub needed : ℕ
  -- whether the byte just read is a word byte, if the NFA has a look that tests for word bytes
  pub word : Bool
  -- whether the byte just read is the first of `\r\n` in reading order, if the NFA has a look that tests for it
  pub half : Bool

-- the number is one that an NFA state or a pattern may have
abbrev pub IsId : ℕ → Type 0
IsId id = id < 2147483647

-- what holds for every powerset state
pub record IsPowerset (q : Powerset) : Type 0 where
  -- its NFA states have numbers that IDs may have
  pub nfa : AllByRecursion IsId q.nfa
  -- its patterns have such numbers too
  pub patterns : AllByRecursion IsId q.patterns
  -- no pattern repeats
  pub distinct : Distinct q.patterns
  -- the looks known are a number of four bytes
  pub known : q.known < 2 ^ 32
  -- the looks needed are a number of four bytes
  pub needed : q.needed < 2 ^ 32

-- the cost of a state without its lists
abbrev pub head_cost : ℕ
head_cost = 13

-- the cost of each pattern of a state
abbrev pub pattern_cost : ℕ
pattern_cost = 4

-- the cost of each NFA state of a state
abbrev pub id_cost : ℕ
id_cost = 5

-- the cost of a state
abbrev pub cost : Powerset → ℕ
cost q = head_cost + pattern_cost * length q.patterns + id_cost * length q.nfa

-- the dead state, which has nothing in it
abbrev pub dead : Powerset
dead = record { nfa = []; patterns = []; known = 0; needed = 0; word = false; half = false }
