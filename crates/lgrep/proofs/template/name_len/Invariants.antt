use Rattle.std.proofs.Common.{◌≡◌, ◌<◌, ℕ, get_or, true}
use Rattle.regex.specs.Templates.{is_name_byte}
use Rattle.lgrep.proofs.template.name_len.Given as goal

abbrev pub invariant-loop-at : goal.invariant-loop-at
invariant-loop-at l = (k : ℕ) → k < l.at → is_name_byte (get_or l.rest k 0) ≡ true
