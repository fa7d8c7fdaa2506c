-- Shared bytes: a short sequence is stored inline, and a longer one in a vector.
use Rattle.std.specs.Prelude.{ℕ, List, nat_le, take, if◌then◌else◌}
use Rattle.automata_determinize.specs.declared.determinize.shared.Stored.TheInside.{Inside}

-- the bytes that are stored: up to 48 inline, and more in a vector
abbrev pub stored_bytes : Inside → List ℕ
stored_bytes s = if nat_le s.len 48 then take s.len s.few else s.many.items
