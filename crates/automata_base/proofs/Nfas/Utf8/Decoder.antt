-- The decoder of UTF-8 as an automaton over classes of bytes.
use Rattle.std.proofs.Common.{ℕ, cond, leb, List, [], ◌∷◌}
use Rattle.std.specs.Prelude.{slice_index}
use Rattle.automata_base.specs.declared.nfa.thompson.utf8.Class.{Class}

-- The state after `s` on a byte, by the first class that ends at or after the byte. State 1 has failed.
abbrev pub step : List Class → ℕ → ℕ → ℕ
step [] s u = 1
step (c ∷ cs) s u = cond (leb u c.last) (slice_index c.to s) (step cs s u)

-- The state after these bytes.
abbrev pub decode : List Class → ℕ → List ℕ → ℕ
decode classes s [] = s
decode classes s (u ∷ us) = decode classes (step classes s u) us
