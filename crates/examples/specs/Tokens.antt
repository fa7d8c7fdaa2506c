-- The tokens of a text.
use Rattle.std.specs.Prelude.{ℕ, ◌≡◌, ◌⊎◌, List, [], ◌∷◌, length}
use Rattle.regex_automata.specs.Promises.{IsNoTokenAt, IsTokenAt, Machine}
use Rattle.regex_automata.specs.declared.tokens.Token.{Token}

-- the tokens from one offset to another, without gaps: each is the token where the previous one ended
abbrev pub AreTokens : Machine → (text : List ℕ) → (from to : ℕ) → List Token → Type 0
AreTokens m text from to [] = from ≡ to
AreTokens m text from to (t ∷ ts) = IsTokenAt m text (length text) from t × AreTokens m text t.span.end to ts

-- the tokens from the start of the text on, up to its end or to where there is no token
pub record AreTokensOf (m : Machine) (text : List ℕ) (tokens : List Token) (end : ℕ) : Type 0 where
  -- they tile the text from its start to this end
  pub tiling : AreTokens m text 0 end tokens
  -- it is the text's end, or there is no token at it
  pub stops : (end ≡ length text) ⊎ IsNoTokenAt m text (length text) end
