use Rattle.std.proofs.Common.{◌≡◌, ◌++◌, true}
use Rattle.std.specs.Prelude.{string_bytes}
use Rattle.automata_base.specs.Haystacks.PatternSet.{members}
use Rattle.lgrep.specs.Shown.{numbers_listed}
use Rattle.lgrep.proofs.sets.numbers_of.Given as goal

abbrev pub invariant-loop-pattern : goal.invariant-loop-pattern
invariant-loop-pattern l =
    string_bytes l.numbers ++ numbers_listed l.is_first l.pattern-iterator ≡ numbers_listed true (members l.fn.set)
