use Rattle.std.proofs.Common.{◌∙◌, sym}
use Rattle.lgrep.proofs.Reading.{brace_broken, brace_none, brace_text}
use Rattle.lgrep.proofs.template.braced_name.Goals as goal

pub returns-in_default-clause-value : goal.returns-in_default-clause-value
returns-in_default-clause-value c =
    brace_none c.args.rest.now c.requires
    (rw c.after-inside.ensures at (sym c.in_default.is ∙ c.brace_at.ensures))

pub returns-in-Ok-clause-value : goal.returns-in-Ok-clause-value
returns-in-Ok-clause-value c =
    rw (c.in-Ok.ensures.cases.0, c.after-inside.ensures)
    (brace_text c.args.rest.now c.requires c.in-Some.end
    (rw c.after-inside.ensures at (sym c.in-Some.is ∙ c.brace_at.ensures))
    (rw c.after-inside.ensures at c.in-Ok.ensures.cases.1))

pub returns-in-Err-clause-value : goal.returns-in-Err-clause-value
returns-in-Err-clause-value c =
    brace_broken c.args.rest.now c.requires c.in-Some.end
    (rw c.after-inside.ensures at (sym c.in-Some.is ∙ c.brace_at.ensures))
    (rw c.after-inside.ensures at c.in-Err.ensures.cases.0)
