use Rattle.std.proofs.Common.{Result, Ok, Err}
use Rattle.std.specs.Prelude.{IfOk}
use Rattle.regex_automata.proofs.hybrid.regex.build.tested_reverse.Goals as goal

-- a consequence of a fact holds in each Ok result
of_each : {A E B C : Type 0} (r : Result A E) → (B → C) → IfOk r (λ x. B) → IfOk r (λ x. C)
of_each (Ok x) f h = f h
of_each (Err e) f h = h

pub returns-in-Ok-clause-utf8 : goal.returns-in-Ok-clause-utf8
returns-in-Ok-clause-utf8 c = of_each c.reverse_if.result c.in-Ok.ensures.keeps c.reverse_if.ensures.kept

pub reverse_if-requires-clause-lazy : goal.reverse_if-requires-clause-lazy
reverse_if-requires-clause-lazy c = c.skips_lazily.ensures.0 c.if-not-skips_lazily.false

pub returns-in-Err-clause-refused : goal.returns-in-Err-clause-refused
returns-in-Err-clause-refused c = λ o. c.skips_lazily.ensures.0 c.if-not-skips_lazily.false
