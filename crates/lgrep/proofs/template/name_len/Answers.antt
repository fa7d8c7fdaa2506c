use Rattle.std.proofs.Common.{◌∙◌, arith, length, sym}
use Rattle.std.proofs.lemmas.Grind.{common_steps}
use Rattle.std.proofs.lemmas.List.Sums.{prefix_len_is}
use Rattle.regex.specs.Templates.{is_name_byte}
use Rattle.lgrep.proofs.template.name_len.Goals as goal

pub returns-then-not-is_name_byte : goal.returns-then-not-is_name_byte
returns-then-not-is_name_byte c =
    sym (prefix_len_is is_name_byte c.args.rest.now c.loop-at.at 0 (omega arith) c.loop-at.invariant
    (λ inside. sym c.is_name_byte.ensures ∙ grind (arith, common_steps)))

pub returns : goal.returns
returns c =
    sym (prefix_len_is is_name_byte c.args.rest.now (length c.args.rest.now) 0 (omega arith)
    (λ k lt. c.loop-at.invariant k (omega arith)) (λ lt. absurd (omega arith)))
