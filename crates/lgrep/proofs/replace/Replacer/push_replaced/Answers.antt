use Rattle.std.proofs.Common.{◌∙◌, ◌++◌, ap}
use Rattle.lgrep.specs.Shown.{shown_after}
use Rattle.lgrep.proofs.Printing.{on_ok}
use Rattle.lgrep.proofs.replace.Replacer.push_replaced.Goals as goal

pub returns-clause-shown : goal.returns-clause-shown
returns-clause-shown c =
    on_ok c.push_after.result
    (λ said case_insensitive res of groups. said
    ∙ ap (λ v. c.args.shown.now.items ++ shown_after c.args.prefix.now c.args.frame.now 0 v)
    (c.deref.ensures.value ∙ c.in_ok-replace.ensures.replaced case_insensitive res of groups))
    c.push_after.ensures
