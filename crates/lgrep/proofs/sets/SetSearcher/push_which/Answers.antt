use Rattle.std.proofs.Common.{◌++◌, ◌∷◌, ◌∙◌, ap, true}
use Rattle.automata_base.specs.Haystacks.PatternSet.{members}
use Rattle.lgrep.specs.Lines.{bytewise}
use Rattle.lgrep.specs.Shown.{numbers_listed, shown_after}
use Rattle.lgrep.proofs.Printing.{any_bytes, on_ok}
use Rattle.lgrep.proofs.sets.SetSearcher.push_which.Goals as goal

pub returns-clause-shown : goal.returns-clause-shown
returns-clause-shown c =
    on_ok c.push_after.result
    (λ h case_insensitive res is. h
    ∙ ap (λ bytes. c.args.shown.now.items ++ shown_after c.args.prefix.now c.args.frame.now 0 bytes)
    (c.as_slice.ensures.value ∙ c.in_ok-bytes.ensures)
    ∙ ap (λ numbers. c.args.shown.now.items
    ++ shown_after c.args.prefix.now c.args.frame.now 0 (numbers ++ 58 ∷ c.args.line.now))
    (c.as_str.ensures.value ∙ c.in_ok-numbers.ensures
    ∙ ap (λ flags. numbers_listed true (members flags))
    (c.in_ok-found.ensures.found (bytewise case_insensitive) res is (any_bytes case_insensitive c.args.line.now))))
    c.push_after.ensures
