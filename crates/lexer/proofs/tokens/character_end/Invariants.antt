use Rattle.std.proofs.Common.{ℕ, ◌≡◌, ◌<◌, true}
use Rattle.automata_base.specs.Haystacks.Tapes.{is_split}
use Rattle.lexer.proofs.tokens.character_end.Given as goal

abbrev pub invariant-loop-end : goal.invariant-loop-end
invariant-loop-end l = (at : ℕ) → l.offset < at → at < l.end → is_split l.haystack at ≡ true
