use Rattle.std.proofs.Common.{◌∙◌, ◌∷◌, ◌++◌, [], ap, sym}
use Rattle.lgrep.specs.Contexts.{shown_in}
use Rattle.lgrep.specs.Lines.{count_after, found_line, taken_lines}
use Rattle.lgrep.proofs.Marks.{on_ok_both, with_taken}
use Rattle.lgrep.proofs.Printing.{on_ok}
use Rattle.lgrep.proofs.search.Grep.push_marked.Goals as goal

pub returns-then-marked-clause-count : goal.returns-then-marked-clause-count
returns-then-marked-clause-count c =
    on_ok c.push_line.result
    (λ more. more ∙ ap (λ t. count_after c.args.self.now.count
    (taken_lines ((found_line c.args.marked.now.line, t) ∷ []))) (sym c.if-marked.true))
    c.push_line.ensures.count

pub returns-then-marked-clause-shown : goal.returns-then-marked-clause-shown
returns-then-marked-clause-shown c =
    on_ok_both c.push_line.result
    (λ same shown case_insensitive res lines is.
    with_taken c.args.self.now.show res c.args.self.now.context c.show_before.new.self _
    (found_line c.args.marked.now.line) c.args.marked.now.is_taken lines c.args.self.now.shown.items
    c.show_before.new.shown.items _ c.if-marked.true
    (c.in_ok-show_before.ensures.shown res (found_line c.args.marked.now.line) lines) (shown case_insensitive res is)
    same)
    c.push_line.ensures.context c.push_line.ensures.shown

pub returns-clause-shown : goal.returns-clause-shown
returns-clause-shown c =
    on_ok c.pass.result
    (λ shown case_insensitive res lines is. shown res lines
    ∙ ap (λ t. c.args.self.now.shown.items ++ shown_in c.args.self.now.show res c.args.self.now.context
    ((found_line c.args.marked.now.line, t) ∷ lines)) (sym c.if-marked.false))
    c.pass.ensures.shown
