use Rattle.std.proofs.Common.{arith}
use Rattle.lgrep.proofs.Reading.{bare_none, bare_text, bare_valid}
use Rattle.lgrep.proofs.template.bare_name.Goals as goal

pub returns-then-length-eq0-clause-value : goal.returns-then-length-eq0-clause-value
returns-then-length-eq0-clause-value c =
    bare_none c.args.rest.now c.requires c.name_len-length.result c.name_len-length.ensures c.if-length-eq0.true

pub returns-in-Ok-clause-value : goal.returns-in-Ok-clause-value
returns-in-Ok-clause-value c =
    rw c.in-Ok.ensures.cases.0
    (bare_text c.args.rest.now c.requires c.name_len-length.result c.name_len-length.ensures (omega arith))

pub returns-in-Err-clause-value : goal.returns-in-Err-clause-value
returns-in-Err-clause-value c =
    absurd (c.in-Err.ensures.cases.0
    (bare_valid c.args.rest.now c.requires c.name_len-length.result c.name_len-length.ensures))
