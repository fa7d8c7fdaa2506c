-- Looks that stay true.
use Rattle.std.specs.Prelude.{◌≡◌, true}
use Rattle.automata_base.specs.Haystacks.Looks.{Look}
use Rattle.automata_base.specs.Nfas.Nfa.{Truth}

-- Each look that is true in `A` is true in `B`.
abbrev pub Includes : Truth → Truth → Type 0
Includes A B = (look : Look) → A look ≡ true → B look ≡ true
