-- The spans that a search by paths tries.
use Rattle.std.specs.Prelude.{ℕ, ◌≡◌, ◌<◌}
use Rattle.std.proofs.Common.{arith}
use Rattle.automata_base.specs.Answers.Answers.{SelectsOver, IsSplit, MayTry, IsFirstSpan, SkipsToIt, Tries}
use Rattle.automata_base.specs.Nfas.Engines.{Engine, No, IsSkipping}
use Rattle.automata_base.specs.Haystacks.Input.{Input}
use Rattle.automata_base.specs.Haystacks.Tapes.{Direction}

-- The paths' answer over one span is at an offset inside a character.
abbrev pub IsSplitAnswer : Direction → Engine → Input → Type 0
IsSplitAnswer way d input = IsSplit (SelectsOver way d) way input

-- The search tries the span that begins `k` positions later.
abbrev pub ComesTo : Direction → Engine → Input → ℕ → Type 0
ComesTo way d input k = Tries (SelectsOver way d) (IsSkipping d) way input k

-- A search that skips nothing or is anchored tries only its first span.
pub tries_once : (S : Type 0) (input : Input) (k : ℕ) → (S → input.anchored ≡ No → ⊥) → MayTry S input k → k ≡ 0
tries_once S input k plain (IsFirstSpan z) = z
tries_once S input k plain (SkipsToIt s free) = absurd (plain s free)

-- A search that tries a later span skips offsets inside a character and is not anchored.
pub tries_on : (S : Type 0) (input : Input) (j k : ℕ) → j < k → MayTry S input k → S × (input.anchored ≡ No)
tries_on S input j k less (IsFirstSpan z) = absurd (omega (arith, less, z))
tries_on S input j k less (SkipsToIt s free) = (s, free)
