use Rattle.std.proofs.Common.{subst}
use Rattle.lgrep.specs.Greps.{IsViewFor}
use Rattle.lgrep.proofs.Printing.{line_as_matches, line_as_replaced, line_as_replacements, line_as_which}
use Rattle.lgrep.proofs.Printing.{line_as_whole, on_ok}
use Rattle.lgrep.proofs.view.View.push.Goals as goal

pub returns-in-Whole-clause-shown : goal.returns-in-Whole-clause-shown
returns-in-Whole-clause-shown c =
    on_ok c.push_after.result
    (λ h case_insensitive asked res for. line_as_whole case_insensitive c.args.replacements.now res
    c.args.prefix.now c.args.frame.now c.args.line.now c.args.shown.now.items
    c.push_after.new.shown.items asked (subst (λ v. IsViewFor case_insensitive asked res v) c.in-Whole.is for) h)
    c.push_after.ensures

pub returns-in-Matches-clause-shown : goal.returns-in-Matches-clause-shown
returns-in-Matches-clause-shown c =
    on_ok c.push_matches.result
    (λ h case_insensitive asked res for. line_as_matches case_insensitive c.args.replacements.now res
    c.args.prefix.now c.args.frame.now c.args.line.now c.args.shown.now.items
    c.push_matches.new.shown.items asked c.in-Matches.spans
    (subst (λ v. IsViewFor case_insensitive asked res v) c.in-Matches.is for)
    (h case_insensitive res))
    c.push_matches.ensures.shown

pub returns-in-Which-clause-shown : goal.returns-in-Which-clause-shown
returns-in-Which-clause-shown c =
    on_ok c.push_which.result
    (λ h case_insensitive asked res for. line_as_which case_insensitive c.args.replacements.now res
    c.args.prefix.now c.args.frame.now c.args.line.now c.args.shown.now.items
    c.push_which.new.shown.items asked c.in-Which.sets
    (subst (λ v. IsViewFor case_insensitive asked res v) c.in-Which.is for)
    (h case_insensitive res))
    c.push_which.ensures.shown

pub returns-in-Replaced-clause-shown : goal.returns-in-Replaced-clause-shown
returns-in-Replaced-clause-shown c =
    on_ok c.push_replaced.result
    (λ h case_insensitive asked res for. line_as_replaced case_insensitive c.args.replacements.now res
    c.args.prefix.now c.args.frame.now c.args.line.now c.args.shown.now.items
    c.push_replaced.new.shown.items asked c.in-Replaced.replacer
    (subst (λ v. IsViewFor case_insensitive asked res v) c.in-Replaced.is for)
    (h case_insensitive res))
    c.push_replaced.ensures.shown

pub returns-in-Replacements-clause-shown : goal.returns-in-Replacements-clause-shown
returns-in-Replacements-clause-shown c =
    on_ok c.push_replacements.result
    (λ h case_insensitive asked res for. line_as_replacements case_insensitive c.args.replacements.now res
    c.args.prefix.now c.args.frame.now c.args.line.now c.args.shown.now.items
    c.push_replacements.new.shown.items asked c.in-Replacements.replacer
    (subst (λ v. IsViewFor case_insensitive asked res v) c.in-Replacements.is for)
    (h case_insensitive res))
    c.push_replacements.ensures.shown
