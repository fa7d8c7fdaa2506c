-- Whether a handle is open.
use Rattle.std.specs.Prelude.{ℕ, Bool, ◌==◌, not}

-- whether a handle with this number counts as open, so that no call opens it again
abbrev pub is_open : (live : ℕ) → Bool
is_open live = not (live == 0)
