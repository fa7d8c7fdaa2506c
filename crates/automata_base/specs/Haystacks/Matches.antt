-- Matches as contracts see them.
use Rattle.std.specs.Prelude.{ℕ}

-- A pattern, and the offset where its match ends (for a reverse search, begins).
pub record HalfMatch : Type 0 where
  -- the number of the pattern, counted from 0
  pub pattern : ℕ
  -- where the match ends, in bytes; for a reverse search, where it begins
  pub offset : ℕ

-- A pattern, and the span of its match.
pub record Match : Type 0 where
  -- the number of the pattern, counted from 0
  pub pattern : ℕ
  -- the offset where it begins, in bytes
  pub start : ℕ
  -- the offset where it ends, exclusive
  pub end : ℕ
