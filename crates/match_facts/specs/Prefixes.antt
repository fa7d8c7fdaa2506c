-- Common prefixes of texts.
use Rattle.std.specs.Prelude.{ℕ, ◌≡◌, ◌++◌, List}

-- the text begins with the bytes
abbrev pub BeginsWith : (bytes text : List ℕ) → Type 0
BeginsWith bytes text = (rest : List ℕ) × (text ≡ bytes ++ rest)
