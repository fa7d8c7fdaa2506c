-- Where the answers of searches and walks lie, and that their patterns are the automaton's.
use Rattle.std.specs.Prelude.{ℕ, ◌<◌, ◌≤◌, length}
use Rattle.automata_base.specs.Haystacks.Input.{Input}
use Rattle.automata_base.specs.Haystacks.Matches.{HalfMatch}
use Rattle.automata_hybrid.specs.Machines.Machine.{Machine}

-- a half match lies in the span of the input, and its pattern is one of the automaton's
pub record LiesIn (m : Machine) (input : Input) (half : HalfMatch) : Type 0 where
  -- its pattern is one of the automaton's
  pub pattern : half.pattern < length m.nfa.start_pattern
  -- it is at or after the span's start
  pub from : input.start ≤ half.offset
  -- it is at or before the span's end
  pub upto : half.offset ≤ input.end

-- a half match lies in the span of the input, not before the start of the span that gave it
pub record LiesPast (m : Machine) (input : Input) (half : HalfMatch) (base : ℕ) : Type 0 where
  -- it lies in the span of the input
  pub lies : LiesIn m input half
  -- the span that gave it does not begin before the span of the input
  pub from : input.start ≤ base
  -- it is at or after the start of the span that gave it
  pub past : base ≤ half.offset
