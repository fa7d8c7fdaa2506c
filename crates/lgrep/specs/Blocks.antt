-- What a byte of a binary file is searched as, and where blocks are split.
use Rattle.std.specs.Prelude.{ℕ, ◌==◌, ◌≡◌, ◌<◌, ◌++◌, ◌∷◌, cond, List, [], length, slice_index, Option, None, Some}

-- a NUL ends a line as a line feed does
abbrev pub line_ends : (byte : ℕ) → ℕ
line_ends byte = cond (byte == 0) 10 byte

-- no byte of a text ends a line
abbrev pub HasNoEnd : (end : ℕ) → List ℕ → Type 0
HasNoEnd end text = (k : ℕ) → k < length text → slice_index text k ≡ end → ⊥

-- the complete lines of a text are taken, without the byte that ends the last one, and the rest is kept; none are
-- taken if no byte ends a line
abbrev pub TakesLines : (end : ℕ) (text : List ℕ) → (taken : Option (List ℕ)) → (kept : List ℕ) → Type 0
TakesLines end text None kept = (kept ≡ text) × HasNoEnd end text
TakesLines end text (Some taken) kept = (text ≡ taken ++ end ∷ kept) × HasNoEnd end kept

-- all of a text is taken; none if it is empty
abbrev pub TakesRest : (text : List ℕ) → (taken : Option (List ℕ)) → Type 0
TakesRest text None = text ≡ []
TakesRest text (Some taken) = taken ≡ text
